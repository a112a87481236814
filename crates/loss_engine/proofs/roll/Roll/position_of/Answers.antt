use Rattle.std.proofs.Common.{◌≡◌, List, None, subst}
use Rattle.known_core.specs.computed.Held.{IsAt, position_of}
use Rattle.known_core.specs.computed.Positions.{AnswersPosition}
use Rattle.known_core.proofs.PositionLemmas.{none_has, positions_for}
use Rattle.known_core.proofs.SearchLemmas.{none_empty}
use Rattle.std.specs.Prelude.{Err}
use Rattle.loss_engine.specs.declared.entry.Entry.{Entry}
use Rattle.loss_engine.specs.KeySaid.{key_said}
use Rattle.loss_engine.specs.computed.Entries.{IsFirstAt, entry_key}
use Rattle.loss_engine.specs.computed.Tracking.{Tracked, known_of}
use Rattle.loss_engine.specs.computed.KeyOrder.{key_cmp}
use Rattle.loss_engine.specs.computed.Roll.{HasKeyAt}
use Rattle.loss_engine.proofs.KeyOrder.{key_exact, key_total}
use Rattle.loss_engine.proofs.RollLemmas.{first_at, none_known}
use Rattle.loss_engine.proofs.roll.Roll.position_of.Goals as goal

pub returns-then-has_at : goal.returns-then-has_at
returns-then-has_at g c =
    let key = key_said c.args.key in
    let at = c.self.inside.last in
    let there = subst (λ (l : List (Entry g.row.A.Denot)). HasKeyAt l key at) c.as_slice.ensures.value (c.has_at.ensures c.if-has_at.true) in
    subst (λ (l : List Tracked). IsFirstAt l key at) c.self.view_is (first_at c.self.inside.entries.items c.self.inside.positions c.self.invariant key at there)

pub returns-then-has_at-2 : goal.returns-then-has_at-2
returns-then-has_at-2 g c =
    let key = key_said c.args.key in
    let at = c.behind_last-next.result in
    let there = subst (λ (l : List (Entry g.row.A.Denot)). HasKeyAt l key at) c.as_slice-2.ensures.value (c.has_at-2.ensures c.if-has_at-2.true) in
    subst (λ (l : List Tracked). IsFirstAt l key at) c.self.view_is (first_at c.self.inside.entries.items c.self.inside.positions c.self.invariant key at there)

pub returns-then-has_guessed : goal.returns-then-has_guessed
returns-then-has_guessed g c =
    let key = key_said c.args.key in
    let at = c.guess_of-guess.result in
    let there = subst (λ (l : List (Entry g.row.A.Denot)). HasKeyAt l key at) c.as_slice-3.ensures.value (c.has_guessed.ensures c.if-has_guessed.true) in
    subst (λ (l : List Tracked). IsFirstAt l key at) c.self.view_is (first_at c.self.inside.entries.items c.self.inside.positions c.self.invariant key at there)

pub returns-in-Ok : goal.returns-in-Ok
returns-in-Ok g c =
    let key = key_said c.args.key in
    let at = c.in-Ok.at in
    let there = subst (λ (l : List (Entry g.row.A.Denot)). IsAt (λ one. key_cmp (entry_key one) key) l at) c.as_slice-4.ensures.value c.in-Ok.ensures in
    subst (λ (l : List Tracked). IsFirstAt l key at) c.self.view_is
    (first_at c.self.inside.entries.items c.self.inside.positions c.self.invariant key at (record { within = there.within; has = λ d. key_exact _ _ (there.is d) }))

pub returns-in-Err : goal.returns-in-Err
returns-in-Err g c =
    let key = key_said c.args.key in
    let es = c.self.inside.entries.items in
    let positions = c.self.inside.positions in
    let place = c.in-Err.field-0 in
    let answer = subst (λ (l : List (Entry g.row.A.Denot)). AnswersPosition (λ one. key_cmp (entry_key one) key) l positions (Err place)) c.as_slice-4.ensures.value c.in-Err.ensures in
    let gap = answer.1 (none_empty positions c.self.invariant.compact) (positions_for key_cmp key_total entry_key es positions c.self.invariant key) in
    subst (λ (l : List Tracked). known_of l key ≡ None) c.self.view_is
    (none_known es key (λ j d lt e. none_has key_cmp key_total entry_key es positions c.self.invariant key (position_of positions place) gap j d lt e))

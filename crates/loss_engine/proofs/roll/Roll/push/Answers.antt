use Rattle.std.proofs.Common.{◌≡◌, ◌∙◌, ◌++◌, ◌∷◌, ℕ, [], List, ap, length, subst, sym}
use Rattle.std.specs.Prelude.{Err}
use Rattle.std.proofs.lemmas.List.{map-append}
use Rattle.known_core.specs.computed.Held.{IsAt, PutsOne}
use Rattle.known_core.specs.computed.Positions.{AnswersPosition, AreInOrder}
use Rattle.known_core.proofs.PositionLemmas.{one_indexed, positions_for, same_held}
use Rattle.known_core.proofs.SearchLemmas.{none_empty}
use Rattle.loss_engine.specs.declared.entry.Entry.{Entry}
use Rattle.loss_engine.specs.KeySaid.{key_said}
use Rattle.loss_engine.specs.computed.Entries.{all_tracked, entry_key, tracked_by}
use Rattle.loss_engine.specs.computed.Tracking.{Tracked, known_of}
use Rattle.loss_engine.specs.computed.KeyOrder.{key_cmp}
use Rattle.loss_engine.proofs.KeyOrder.{key_exact, key_total}
use Rattle.loss_engine.proofs.RollLemmas.{one_known}
use Rattle.loss_engine.proofs.roll.Roll.push.Goals as goal

pub returns-in_default-clause-pushed : goal.returns-in_default-clause-pushed
returns-in_default-clause-pushed g c =
    let key = key_said c.key-2.result in
    let there = subst (λ (l : List (Entry g.row.A.Denot)). IsAt (λ one. key_cmp (entry_key one) key) l c.in_default.field-0) c.as_slice.ensures.value c.in_default.ensures in
    absurd (one_known c.self.inside.entries.items (entry_key c.args.entry) c.in_default.field-0 there.within (λ d. key_exact _ _ (there.is d) ∙ c.key-2.ensures)
    (ap (λ (l : List Tracked). known_of l (entry_key c.args.entry)) c.self.view_is ∙ c.requires))

pub invariant_of-self-in_err-insert : goal.invariant_of-self-in_err-insert
invariant_of-self-in_err-insert g c =
    subst (λ (l : List (Entry g.row.A.Denot)). AreInOrder key_cmp entry_key l c.insert.new.self) (sym c.in_ok-reserve.ensures.items)
    (same_held key_cmp key_total entry_key c.self.inside.entries.items c.self.inside.positions c.self.invariant c.insert.new.self c.in_err-insert.ensures.kept)

pub invariant_of-self-2 : goal.invariant_of-self-2
invariant_of-self-2 g c =
    let key = key_said c.key-2.result in
    let es = c.self.inside.entries.items in
    let positions = c.self.inside.positions in
    let place = c.in-Err.place in
    let answer = subst (λ (l : List (Entry g.row.A.Denot)). AnswersPosition (λ one. key_cmp (entry_key one) key) l positions (Err place)) c.as_slice.ensures.value c.in-Err.ensures in
    let gap = answer.1 (none_empty positions c.self.invariant.compact) (positions_for key_cmp key_total entry_key es positions c.self.invariant key) in
    let size : c.len-at.result ≡ length es = c.len-at.ensures ∙ c.reserve.new.self.ok.0 ∙ ap length c.in_ok-reserve.ensures.items in
    subst (λ (l : List (Entry g.row.A.Denot)). AreInOrder key_cmp entry_key l c.insert.new.self)
    (sym (c.push_reserved.ensures.items ∙ ap (λ (l : List (Entry g.row.A.Denot)). l ++ c.args.entry ∷ []) c.in_ok-reserve.ensures.items))
    (one_indexed key_cmp key_total entry_key es positions c.self.invariant c.insert.new.self place key c.args.entry (sym c.key-2.ensures) gap
    (subst (λ (n : ℕ). PutsOne positions c.insert.new.self place n) size c.in_ok-insert.ensures.put))

pub returns-clause-pushed : goal.returns-clause-pushed
returns-clause-pushed g c =
    ap (λ (l : List (Entry g.row.A.Denot)). all_tracked l) (c.push_reserved.ensures.items ∙ ap (λ (l : List (Entry g.row.A.Denot)). l ++ c.args.entry ∷ []) c.in_ok-reserve.ensures.items)
    ∙ map-append tracked_by c.self.inside.entries.items (c.args.entry ∷ []) ∙ ap (λ (l : List Tracked). l ++ tracked_by c.args.entry ∷ []) c.self.view_is

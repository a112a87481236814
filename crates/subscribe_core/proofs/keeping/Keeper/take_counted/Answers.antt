use Rattle.std.proofs.Common.{◌≡◌, ◌≤◌, ◌++◌, [], ℕ, List, max, inl, inr, ap, ◌∙◌, subst, arith}
use Rattle.std.proofs.lemmas.Bool.{false≢true}
use Rattle.subscribe_core.specs.declared.entry.Entry.{Entry}
use Rattle.subscribe_core.specs.computed.Deadlines.{due_count, helds}
use Rattle.subscribe_core.specs.Looks.{expired_count, other_reaches}
use Rattle.subscribe_core.specs.Apart.{AreApart}
use Rattle.subscribe_core.specs.computed.PrivateCalls.{StateAndReaches}
use Rattle.subscribe_core.specs.computed.Steps.{expired_entries, said_of, switched_entries}
use Rattle.subscribe_core.specs.computed.Content.{content_of}
use Rattle.subscribe_core.specs.Changes.{changes}
use Rattle.subscribe_core.proofs.Changing.{changes_back, changes_front, none_expired}
use Rattle.subscribe_core.proofs.Due.{expired_counted}
use Rattle.subscribe_core.proofs.Flagging.{other_more}
use Rattle.list_core.proofs.Emptiness.{back_nil, front_nil}
use Rattle.subscribe_core.proofs.keeping.Keeper.take_counted.Goals as goal

pub returns-in_err-list_expired-clause-quiet : goal.returns-in_err-list_expired-clause-quiet
returns-in_err-list_expired-clause-quiet g c =
    let s = c.args.self.now.state in
    let now_is = c.max-now.ensures ∙ ap (λ (s : StateAndReaches _). max s.state.moment c.args.event.now.moment) c.self.view_is in
    inr (λ none. absurd (false≢true (c.in_err-list_expired.ensures.quiet (ap (λ n. expired_entries n 0 s.registers) now_is ∙ front_nil _ _ none))))

pub returns-in_err-list_expired-clause-apart : goal.returns-in_err-list_expired-clause-apart
returns-in_err-list_expired-clause-apart g c = subst (λ (s : StateAndReaches _). AreApart s.state.blocks) c.self.view_is c.self.invariant.apart

pub returns-in_err-take_kind-clause-quiet : goal.returns-in_err-take_kind-clause-quiet
returns-in_err-take_kind-clause-quiet g c =
    elim c.in_err-take_kind.ensures.quiet [
      | inl frame ↦ inl frame
      | inr quiet ↦ inr (λ none. absurd (false≢true (quiet (front_nil _ _ (back_nil _ _ none)))))
    ]

pub returns-in_err-take_kind-clause-apart : goal.returns-in_err-take_kind-clause-apart
returns-in_err-take_kind-clause-apart g c = subst (λ (s : StateAndReaches _). AreApart s.state.blocks) c.self.view_is c.self.invariant.apart

pub returns-clause-count : goal.returns-clause-count
returns-clause-count g c =
    let s = c.args.self.now.state in
    let now = c.max-now.result in
    let kind = content_of c.args.event.now.kind in
    let spent = c.expire.ensures.count in
    let first = ap (λ (t : StateAndReaches _). t.reaches) c.self.view_is in
    let last = ap (λ (t : StateAndReaches _). t.reaches) c.self-2.view_is in
    let rest : List (Entry g.row.A.Denot) = switched_entries s.mode kind 0 s.blocks s.registers ++ said_of now s.mode s.blocks s.registers kind in
    let said : due_count now (helds s.registers) ≤ expired_count (expired_entries now 0 s.registers ++ rest) = expired_counted now 0 s.registers rest in
    let others = other_more c.args.event.now.kind (expired_entries now 0 s.registers) (switched_entries s.mode kind 0 s.blocks s.registers) (said_of now s.mode s.blocks s.registers kind) in
    let now_is = c.max-now.ensures ∙ ap (λ (t : StateAndReaches _). max t.state.moment c.args.event.now.moment) c.self.view_is in
    let entries : ℕ → List (Entry g.row.A.Denot) = λ n. expired_entries n 0 s.registers ++ (switched_entries s.mode kind 0 s.blocks s.registers ++ said_of n s.mode s.blocks s.registers kind) in
    let told = ap (λ (n : ℕ). expired_count (entries n)) now_is in
    let moved = ap (λ (n : ℕ). other_reaches c.args.event.now.kind (entries n)) now_is in
    omega (arith, c.in_ok-take_kind.ensures.count, spent, said, others, told, moved, first, last)

pub returns-clause-apart : goal.returns-clause-apart
returns-clause-apart g c = subst (λ (s : StateAndReaches _). AreApart s.state.blocks) c.self.view_is c.self.invariant.apart

pub returns-in_err-list_expired-clause-room : goal.returns-in_err-list_expired-clause-room
returns-in_err-list_expired-clause-room g c = λ none fits.
    let s = c.args.self.now.state in
    let now_is = c.max-now.ensures ∙ ap (λ (t : StateAndReaches _). max t.state.moment c.args.event.now.moment) c.self.view_is in
    let k = content_of c.args.event.now.kind in
    let last = max s.moment c.args.event.now.moment in
    let rest : List (Entry g.row.A.Denot) = switched_entries s.mode k 0 s.blocks s.registers ++ said_of last s.mode s.blocks s.registers k in
    let over = none_expired last 0 s.registers (changes_front (expired_entries last 0 s.registers) rest none) in
    absurd (false≢true (c.in_err-list_expired.ensures.quiet (ap (λ n. expired_entries n 0 s.registers) now_is ∙ over)))

pub returns-in_err-take_kind-clause-room : goal.returns-in_err-take_kind-clause-room
returns-in_err-take_kind-clause-room g c = λ none fits.
    let s = c.args.self.now.state in
    let k = content_of c.args.event.now.kind in
    let last = max s.moment c.args.event.now.moment in
    let now_is = c.max-now.ensures ∙ ap (λ (t : StateAndReaches _). max t.state.moment c.args.event.now.moment) c.self.view_is in
    let rest : ℕ → List (Entry g.row.A.Denot) = λ n. switched_entries s.mode k 0 s.blocks s.registers ++ said_of n s.mode s.blocks s.registers k in
    let over : expired_entries {A = g.row.A.Denot} last 0 s.registers ≡ [] = none_expired last 0 s.registers (changes_front (expired_entries last 0 s.registers) (rest last) none) in
    let none_got = subst (λ (es : List (Entry g.row.A.Denot)). g.E.EntrySink.gets c.args.entries.now es c.list_expired.new.entries) (ap (λ n. expired_entries n 0 s.registers) now_is ∙ over) c.in_ok-list_expired.ensures.entries in
    absurd (false≢true (c.in_err-take_kind.ensures.room (ap (λ n. changes (rest n)) now_is ∙ changes_back (expired_entries last 0 s.registers) (rest last) none)
    (g.met.E.EntrySink.room_stays _ _ none_got c.list_expired.ensures.grown fits)))

pub returns-in_err-take_kind-clause-grown : goal.returns-in_err-take_kind-clause-grown
returns-in_err-take_kind-clause-grown g c = g.met.E.EntrySink.grows_more _ _ _ c.list_expired.ensures.grown c.take_kind.ensures.grown

pub returns-clause-grown : goal.returns-clause-grown
returns-clause-grown g c = g.met.E.EntrySink.grows_more _ _ _ c.list_expired.ensures.grown c.take_kind.ensures.grown

pub returns-clause-entries : goal.returns-clause-entries
returns-clause-entries g c =
    let s = c.args.self.now.state in
    let k = content_of c.args.event.now.kind in
    let now_is = c.max-now.ensures ∙ ap (λ (t : StateAndReaches _). max t.state.moment c.args.event.now.moment) c.self.view_is in
    subst (λ (n : ℕ). g.E.EntrySink.gets c.args.entries.now (expired_entries n 0 s.registers ++ (switched_entries s.mode k 0 s.blocks s.registers ++ said_of n s.mode s.blocks s.registers k)) c.take_kind.new.entries) now_is
    (g.met.E.EntrySink.gets_more _ _ _ _ _ c.in_ok-list_expired.ensures.entries c.in_ok-take_kind.ensures.entries)

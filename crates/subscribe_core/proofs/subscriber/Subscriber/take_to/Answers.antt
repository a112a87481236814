use Rattle.std.proofs.Common.{◌++◌, ◌∷◌, [], List, inl, inr, length, ap, ◌∙◌, sym, subst}
use Rattle.std.proofs.lemmas.Result.{on_ok_weaker}
use Rattle.std.specs.Prelude.{OnOk}
use Rattle.subscribe_core.specs.declared.entry.Entry.{Entry}
use Rattle.subscribe_core.specs.computed.Content.{reading_of}
use Rattle.subscribe_core.specs.Entries.{AreEntriesAt}
use Rattle.subscribe_core.specs.Apart.{AreApart}
use Rattle.subscribe_core.specs.State.{StateAndLooks, State, StandsAfter}
use Rattle.subscribe_core.specs.computed.Steps.{step_entries}
use Rattle.subscribe_core.proofs.Quiet.{no_frame, quiet_step}
use Rattle.subscribe_core.proofs.Readings.{is_read}
use Rattle.subscribe_core.proofs.Runs.{entries_step, stands_step}
use Rattle.subscribe_core.proofs.subscriber.Subscriber.take_to.Goals as goal

pub returns-clause-entries : goal.returns-clause-entries
returns-clause-entries g c = λ events stands.
    let s = c.self.inside.keeper.state in
    let e = c.args.event.now in
    let here = subst (λ (t : StateAndLooks _). StandsAfter events t.state) (sym c.self.view_is) stands in
    subst (λ (t : StateAndLooks _). OnOk c.step.result ((es : List (Entry g.row.A.Denot)) × AreEntriesAt t.state.blocks (events ++ e ∷ []) (length events) es × g.E.EntrySink.gets c.args.entries.now es c.step.new.entries)) c.self.view_is
    (on_ok_weaker c.step.result (λ got. (step_entries s (reading_of e), entries_step events e (reading_of e) s (is_read e) here, got)) c.step.ensures.entries)

pub returns-clause-stands : goal.returns-clause-stands
returns-clause-stands g c = λ events stands.
    let s = c.self.inside.keeper.state in
    let e = c.args.event.now in
    let here = subst (λ (t : StateAndLooks _). StandsAfter events t.state) (sym c.self.view_is) stands in
    on_ok_weaker c.step.result
    (λ is. subst (λ (t : State _). StandsAfter (events ++ e ∷ []) t) (sym is) (stands_step events e (reading_of e) s (is_read e) here))
    c.step.ensures.state

pub returns-clause-quiet_step : goal.returns-clause-quiet_step
returns-clause-quiet_step g c = λ none.
    let here = ap (λ (t : StateAndLooks _). step_entries t.state (reading_of c.args.event.now)) c.self.view_is ∙ none in
    elim c.step.ensures.quiet [ inl frame ↦ absurd (no_frame c.self.inside.keeper.state c.args.event.now here frame) | inr ok ↦ ok here ]

pub returns-clause-quiet : goal.returns-clause-quiet
returns-clause-quiet g c = λ events stands none.
    let s = c.args.self.now.state in
    let apart = subst (λ (t : StateAndLooks _). AreApart t.state.blocks) c.self.view_is c.step.ensures.apart in
    returns-clause-quiet_step g c (quiet_step events c.args.event.now s apart stands none)

use Rattle.std.proofs.Common.{◌≡◌, ◌∙◌, ℕ, List, ap, false, refl, subst, sym, arith}
use Rattle.std.specs.Prelude.{vec_capacity}
use Rattle.std.proofs.lemmas.Bool.{false≢true}
use Rattle.std.proofs.lemmas.Result.{err_from_is_err_and}
use Rattle.block_core.specs.declared.block.Block.{Block}
use Rattle.subscribe_core.specs.declared.entry.Entry.{Entry}
use Rattle.list_core.specs.declared.event.Event.{Event}
use Rattle.subscribe_core.specs.computed.Content.{reading_of}
use Rattle.subscribe_core.specs.computed.Steps.{step_entries}
use Rattle.engine_core.specs.computed.EventStep.{EventTaken}
use Rattle.exchange_engines.specs.declared.engines.replay.ReplayManner.{ReplayManner}
use Rattle.exchange_engines.specs.EntryText.{entry_lines}
use Rattle.exchange_engines.specs.ReplayText.{told_of}
use Rattle.exchange_engines.specs.computed.ReplayStep.{IsSaid, ReplayStands, replay_allows}
use Rattle.exchange_engines.proofs.ReplayLemmas.{no_entries, replays, wants_none}
use Rattle.exchange_engines.proofs.engines.replay.ReplayingEventEngine.put_event.Goals as goal

pub returns-clause-step : goal.returns-clause-step
returns-clause-step g c = λ before stands.
    let form = c.args.form in
    let n = c.args.number in
    let event = c.args.event.now in
    let manner = c.args.self.now.manner in
    let s = c.args.self.now.subscriber.state in
    let room = vec_capacity c.args.self.now.entries in
    let entries = c.keep_told.new.entries.items in
    let given = c.blocks-blocks.result.now in
    let w = c.in_ok-put_said.ensures.text in
    let blocks : given ≡ s.blocks = c.blocks-blocks.ensures ∙ c.in_ok-take_into_over.ensures.blocks in
    let told = c.keep_told.ensures.told ∙ ap (told_of manner.changes_alone) c.in_ok-take_into_over.ensures.step in
    replays manner form s c.take_into_over.new.self.state room (vec_capacity c.keep_told.new.entries) before n event entries w.0 c.args.line.now.items c.put_said.new.line.items stands told c.in_ok-take_into_over.ensures.state
    (omega (arith, c.keep_told.ensures.capacity, c.in_ok-take_into_over.ensures.capacity))
    (subst (λ (bs : List (Block g.row.A.Denot)). IsSaid form n event.moment bs entries w.0) blocks
    (subst (λ (es : List (Entry g.row.A.Denot)). IsSaid form n event.moment given es w.0) c.as_slice-entries.ensures.value w.2)) w.1

pub returns-in_err-take_into_over-clause-step : goal.returns-in_err-take_into_over-clause-step
returns-in_err-take_into_over-clause-step g c = λ before stands.
    let manner = c.args.self.now.manner in
    let s = c.args.self.now.subscriber.state in
    let room = vec_capacity c.args.self.now.entries in
    let p = err_from_is_err_and c.from_residual-in_err-take_into_over.result c.from_residual-in_err-take_into_over.ensures.1 in
    rw p.1 (λ written is none. wants_none _ manner.changes_alone _ room
    (λ empty. false≢true (c.in_err-take_into_over.ensures.quiet_step empty)) (λ few more. false≢true (c.in_err-take_into_over.ensures.quiet_changes few more)) stands.has_room
    (no_entries manner c.args.form s room before c.args.number c.args.event.now written stands is none))

pub returns-in_err-put_said-clause-step : goal.returns-in_err-put_said-clause-step
returns-in_err-put_said-clause-step g c = λ before stands.
    let manner = c.args.self.now.manner in
    let s = c.args.self.now.subscriber.state in
    let room = vec_capacity c.args.self.now.entries in
    let p = err_from_is_err_and c.from_residual-in_err-put_said.result c.from_residual-in_err-put_said.ensures.1 in
    let told = c.keep_told.ensures.told ∙ ap (told_of manner.changes_alone) c.in_ok-take_into_over.ensures.step in
    rw p.1 (λ written is none. false≢true (c.in_err-put_said.ensures.quiet
    (c.as_slice-entries.ensures.value ∙ told ∙ no_entries manner c.args.form s room before c.args.number c.args.event.now written stands is none)))

pub returns-in-Text-clause-step : goal.returns-in-Text-clause-step
returns-in-Text-clause-step g c = λ before stands.
    let form = c.args.form in
    let n = c.args.number in
    let event = c.args.event.now in
    let manner = c.args.self.now.manner in
    let s = c.args.self.now.subscriber.state in
    let old = c.args.line.now.items in
    let new = c.put_lines.new.line.items in
    let room = vec_capacity c.args.self.now.entries in
    let t = c.put_lines.new.self in
    let put = c.in_ok-put_lines.ensures in
    let same = ap vec_capacity put.entries in
    let entries : List (Entry g.row.A.Denot) = told_of manner.changes_alone (step_entries s (reading_of event)) in
    let is : IsSaid form n event.moment s.blocks entries (entry_lines n entries) = rw c.in-Text.is refl in
    subst (λ (m : ReplayManner). EventTaken (replay_allows manner s.blocks form) (λ (items : List (ℕ × Event g.row.A.Denot)). ReplayStands m t.subscriber.state (vec_capacity t.entries) items) before (n, event) false old new) (sym put.manner)
    (replays manner form s t.subscriber.state room (vec_capacity t.entries) before n event entries (entry_lines n entries) old new stands refl put.state (omega (arith, same)) is put.told)

pub returns-in_err-put_lines-clause-step : goal.returns-in_err-put_lines-clause-step
returns-in_err-put_lines-clause-step g c = λ before stands.
    let s = c.args.self.now.subscriber.state in
    let p = err_from_is_err_and c.from_residual.result c.from_residual.ensures.1 in
    rw p.1 (λ written is none. false≢true (c.in_err-put_lines.ensures.quiet
    (no_entries c.args.self.now.manner c.args.form s (vec_capacity c.args.self.now.entries) before c.args.number c.args.event.now written stands is none)))

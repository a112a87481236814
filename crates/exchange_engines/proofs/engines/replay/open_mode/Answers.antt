use Rattle.std.proofs.Common.{◌∙◌, ap, true}
use Rattle.list_core.specs.declared.event.EventKind.TheVariants as kinds
use Rattle.subscribe_core.specs.computed.Content.{reading_of}
use Rattle.subscribe_core.specs.computed.Steps.{step_entries}
use Rattle.subscribe_core.specs.State.{State}
use Rattle.exchange_engines.proofs.ReplayLemmas.{opens_quietly}
use Rattle.exchange_engines.proofs.engines.replay.open_mode.Goals as goal

pub returns-then-simulates-clause-quiet : goal.returns-then-simulates-clause-quiet
returns-then-simulates-clause-quiet g c = λ blocks fresh.
    c.take_into.ensures.quiet_step (ap (λ (s : State g.row.A.Denot). step_entries s (reading_of {A = g.row.A.Denot} (record { moment = 0; kind = kinds.Mode true }))) fresh ∙ opens_quietly blocks)

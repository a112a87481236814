use Rattle.engine_core.specs.CaptureRun.{capture_input}
use Rattle.engine_core.specs.MadeRun.{made}
use Rattle.engine_core.specs.Run.{list_input}
use Rattle.list_core.specs.declared.event_lines.EventLines.TheVariants.{First}
use Rattle.list_core.specs.EventLine.{event_rules}
use Rattle.loss_engine.proofs.LossesTold.{losses_told}
use Rattle.loss_engine.proofs.laws.losses_are_told.Goals as goal

pub returns : goal.returns
returns g c = record { lists = λ make. losses_told (made make (list_input event_rules First)); captures = λ make. losses_told (made make capture_input) }

use Rattle.std.proofs.Common.{ℕ, ap}
use Rattle.pdu_core.specs.Views.{pdu_of}
use Rattle.inventory_engine.specs.Configuration.{configuration_of}
use Rattle.inventory_engine.proofs.block_text.block_shown.Goals as goal

pub returns : goal.returns
returns c =
    ap (λ (n : ℕ). record (configuration_of c.args.app_id (pdu_of {A = Unit {0}} c.args.goose.now)) { entries = n }) c.args.goose.now.counted

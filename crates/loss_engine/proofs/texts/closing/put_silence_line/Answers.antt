use Rattle.std.proofs.Common.{refl}
use Rattle.loss_engine.specs.LossLine.{silence_numbers}
use Rattle.loss_engine.proofs.texts.closing.put_silence_line.Goals as goal

pub returns : goal.returns
returns g c = c.put_line.ensures (silence_numbers c.args.since c.args.lasted) refl

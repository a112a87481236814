use Rattle.std.proofs.Common.{[], ◌∷◌, refl}
use Rattle.std.specs.Prelude.{codes}
use Rattle.std.specs.Fmt.{decimal}
use Rattle.loss_engine.specs.LossLine.{numbered}
use Rattle.loss_engine.proofs.texts.closing.put_samples_total.Goals as goal

pub returns-in-Text : goal.returns-in-Text
returns-in-Text g c = rw c.in-Text.is (c.put_line.ensures (numbered (codes " samples=") c.args.samples ∷ []) refl)

pub returns-in-Object : goal.returns-in-Object
returns-in-Object g c = rw c.in-Object.is (c.put_object.ensures ((codes "samples", decimal c.args.samples) ∷ []) refl)

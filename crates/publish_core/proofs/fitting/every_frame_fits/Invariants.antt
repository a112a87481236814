use Rattle.std.proofs.Common.{◌<◌, ℕ}
use Rattle.publish_core.specs.computed.Sizes.{StepFits}
use Rattle.publish_core.proofs.fitting.every_frame_fits.Given as goal

abbrev pub invariant-loop-i : goal.invariant-loop-i
invariant-loop-i l = (k : ℕ) → k < l.i → StepFits l.table l.apdu k

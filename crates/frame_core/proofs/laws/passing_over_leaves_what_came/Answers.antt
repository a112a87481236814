use Rattle.frame_core.proofs.Skipping.{leaves_what_came}
use Rattle.frame_core.proofs.laws.passing_over_leaves_what_came.Goals as goal

pub returns : goal.returns
returns g c = leaves_what_came g.I.ReadItems.answers

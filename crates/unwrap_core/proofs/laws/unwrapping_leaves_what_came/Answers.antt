use Rattle.unwrap_core.proofs.UnwrappedEvents.{unwraps_what_came}
use Rattle.unwrap_core.proofs.laws.unwrapping_leaves_what_came.Goals as goal

pub returns : goal.returns
returns g c = unwraps_what_came g.I.ReadItems.answers

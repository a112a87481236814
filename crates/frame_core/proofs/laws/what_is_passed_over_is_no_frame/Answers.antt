use Rattle.frame_core.proofs.OtherCauses.{other_is_no_frame}
use Rattle.frame_core.proofs.laws.what_is_passed_over_is_no_frame.Goals as goal

pub returns : goal.returns
returns g c = other_is_no_frame

use Rattle.subscribe_core.proofs.Alike.{simulated_are_taken}
use Rattle.subscribe_core.proofs.laws.simulated_frames_are_taken.Goals as goal

pub returns : goal.returns
returns g c = simulated_are_taken

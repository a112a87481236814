use Rattle.std.proofs.Common.{refl}
use Rattle.object_core.proofs.Appending.{exactly}
use Rattle.frame_engines.proofs.engines.show.put_fault_answer.Goals as goal

pub returns : goal.returns
returns g c = exactly c.put_fault_object.result _ _ _ _ refl c.put_fault_object.ensures

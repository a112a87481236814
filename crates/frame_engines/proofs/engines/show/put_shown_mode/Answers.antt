use Rattle.std.proofs.Common.{refl}
use Rattle.object_core.proofs.Appending.{exactly}
use Rattle.frame_engines.proofs.engines.show.put_shown_mode.Goals as goal

pub returns-in-Text : goal.returns-in-Text
returns-in-Text g c = rw c.in-Text.is (exactly c.put_mode_line.result _ _ _ _ refl c.put_mode_line.ensures)

pub returns-in-Object : goal.returns-in-Object
returns-in-Object g c = rw c.in-Object.is (exactly c.put_mode_object.result _ _ _ _ refl c.put_mode_object.ensures)

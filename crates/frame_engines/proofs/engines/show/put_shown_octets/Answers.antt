use Rattle.std.proofs.Common.{refl}
use Rattle.object_core.proofs.Appending.{exactly}
use Rattle.frame_engines.proofs.engines.show.put_shown_octets.Goals as goal

pub returns-in-Text : goal.returns-in-Text
returns-in-Text g c = rw c.in-Text.is (exactly c.put_octets_line.result _ _ _ _ refl c.put_octets_line.ensures)

use Rattle.std.proofs.Common.{refl}
use Rattle.object_core.proofs.Appending.{exactly}
use Rattle.exchange_engines.proofs.engines.replay.put_said.Goals as goal

pub returns-in-Text-clause-text : goal.returns-in-Text-clause-text
returns-in-Text-clause-text g c = rw c.in-Text.is (exactly c.put_entry_lines.result _ _ _ _ refl c.put_entry_lines.ensures.text)

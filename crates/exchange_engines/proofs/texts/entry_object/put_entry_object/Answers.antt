use Rattle.std.proofs.Common.{refl}
use Rattle.object_core.proofs.Appending.{exactly}
use Rattle.exchange_engines.proofs.texts.entry_object.put_entry_object.Goals as goal

pub returns-in-Act : goal.returns-in-Act
returns-in-Act g c = rw c.in-Act.is c.put_act_object.ensures

pub returns-in-Refreshed : goal.returns-in-Refreshed
returns-in-Refreshed g c = rw c.in-Refreshed.is (exactly c.put_pair_object.result _ _ _ _ refl c.put_pair_object.ensures)

pub returns-in-Repeated : goal.returns-in-Repeated
returns-in-Repeated g c = rw c.in-Repeated.is (exactly c.put_pair_object-in-Repeated.result _ _ _ _ refl c.put_pair_object-in-Repeated.ensures)

pub returns-in-Older : goal.returns-in-Older
returns-in-Older g c = rw c.in-Older.is (exactly c.put_pair_object-in-Older.result _ _ _ _ refl c.put_pair_object-in-Older.ensures)

pub returns-in-Refused : goal.returns-in-Refused
returns-in-Refused g c = rw c.in-Refused.is (exactly c.put_refused_object.result _ _ _ _ refl c.put_refused_object.ensures)

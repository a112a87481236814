use Rattle.std.proofs.Common.{refl}
use Rattle.text_core.proofs.Fronts.{then_appended}
use Rattle.exchange_engines.proofs.texts.entry_object.put_entry_object_head.Goals as goal

pub returns : goal.returns
returns g c = then_appended _ _ _ _ _ _ _ c.in_ok-put_event_head.ensures c.put_block_fields.ensures refl

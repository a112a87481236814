use Rattle.std.proofs.Common.{refl}
use Rattle.text_core.proofs.Fronts.{then_appended}
use Rattle.loss_engine.proofs.texts.closing.put_closing_head.Goals as goal

pub returns : goal.returns
returns g c = then_appended _ _ _ _ _ _ _ c.in_ok-put_field_word.ensures c.put_key_fields.ensures refl

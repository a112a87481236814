use Rattle.std.proofs.Common.{[], refl}
use Rattle.std.specs.Prelude.{codes}
use Rattle.text_core.proofs.Fronts.{appended, then_appended}
use Rattle.object_core.specs.Objects.{Field, in_quotes}
use Rattle.object_core.specs.Onward.{onward}
use Rattle.object_core.proofs.ObjectLines.{ended}
use Rattle.loss_engine.specs.KeySaid.{key_said}
use Rattle.loss_engine.specs.LossObject.{key_fields, silence_fields}
use Rattle.loss_engine.proofs.texts.closing.put_silence_object.Goals as goal

pub returns : goal.returns
returns g c =
    let kind : Field = (codes "kind", in_quotes (codes "end-silent")) in
    let fields = silence_fields c.args.since c.args.lasted in
    let end = then_appended c.extend_from_slice.result _ _ _ (onward fields) (codes "}\n") _ c.in_ok-put_silence_fields.ensures (appended _ _ _ (codes "}\n") (codes "}\n") c.extend_from_slice.ensures.items refl) refl in
    ended c.extend_from_slice.result _ _ _ kind [] (key_fields (key_said c.args.key.now)) fields c.in_ok-put_closing_head.ensures end

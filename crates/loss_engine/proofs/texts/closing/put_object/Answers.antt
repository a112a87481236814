use Rattle.std.proofs.Common.{List, [], ◌++◌, ℕ, ap, refl}
use Rattle.std.specs.Prelude.{codes}
use Rattle.std.specs.List.{flat_map}
use Rattle.text_core.proofs.Fronts.{appended, then_appended}
use Rattle.object_core.specs.Objects.{Field, in_quotes}
use Rattle.object_core.proofs.ObjectLines.{ended}
use Rattle.loss_engine.specs.KeySaid.{key_said}
use Rattle.loss_engine.specs.LossObject.{key_fields}
use Rattle.loss_engine.specs.computed.NumberText.{number_text}
use Rattle.loss_engine.proofs.texts.closing.put_object.Goals as goal

pub returns : goal.returns
returns g c = λ fields e.
    let kind : Field = (codes "kind", in_quotes c.args.kind.now) in
    let numbers = flat_map number_text c.args.numbers.now in
    let end = then_appended c.extend_from_slice.result _ _ _ numbers (codes "}\n") _ c.in_ok-put_numbers.ensures (appended _ _ _ (codes "}\n") (codes "}\n") c.extend_from_slice.ensures.items refl) (ap (λ (l : List ℕ). l ++ codes "}\n") e) in
    ended c.extend_from_slice.result _ _ _ kind [] (key_fields (key_said c.args.key.now)) fields c.in_ok-put_closing_head.ensures end

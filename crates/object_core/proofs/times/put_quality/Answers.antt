use Rattle.std.proofs.Common.{refl, sym, [], ◌∷◌, ◌++◌, ◌%◌, map, List}
use Rattle.std.specs.Prelude.{codes}
use Rattle.std.specs.Fmt.{decimal}
use Rattle.text_core.proofs.PieceLemmas.{done, more}
use Rattle.object_core.specs.Objects.{Field, field_text}
use Rattle.object_core.specs.Times.{flag, quality_value}
use Rattle.object_core.specs.Onward.{next_field}
use Rattle.object_core.proofs.ObjectParts.{both, in_turn, object_parts}
use Rattle.object_core.proofs.times.put_quality.Goals as goal

pub returns : goal.returns
unfolding quality_value
returns g c =
    let q = c.args.quality in
    let first : Field = (codes "leapSecondsKnown", flag q 0x80) in
    let others : List Field = (codes "clockFailure", flag q 0x40) ∷ (codes "clockNotSynchronized", flag q 0x20) ∷ (codes "timeAccuracy", decimal (q % 32)) ∷ [] in
    in_turn (((123 ∷ field_text first) ∷ map next_field others) ++ (125 ∷ []) ∷ []) (sym (object_parts first others)) (
    more c.in_ok-put_field_boolean.ensures (
    more c.in_ok-put_field_boolean-2.ensures (
    more c.in_ok-put_field_boolean-3.ensures (
    more (both _ _ _ _ _ c.in_ok-extend_from_slice.ensures.items c.in_ok-put_accuracy.ensures) (
    more c.in_ok-push.ensures.items (
    done refl))))))

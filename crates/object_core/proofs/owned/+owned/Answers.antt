use Rattle.std.proofs.Common.{◌+◌, ◌≤◌, ◌∷◌, arith, ap, refl, sym, ◌∙◌, List}
use Rattle.std.specs.Prelude.{codes}
use Rattle.object_core.specs.MemberObject.{one_field}
use Rattle.object_core.specs.Objects as objects
use Rattle.std.proofs.lemmas.List.{drop_all}
use Rattle.std.proofs.lemmas.Result.{err_from_is_err_and}
use Rattle.mms_data.specs.declared.value.Value.{Value}
use Rattle.mms_data.specs.Value.{data_of, datas}
use Rattle.mms_data.specs.computed.Weight.{weight, weight_of_all}
use Rattle.mms_data.proofs.Weights.{weight_at}
use Rattle.text_core.proofs.Fronts.{front_twice}
use Rattle.object_core.proofs.MemberTexts.{finished, kept_more, members_written, nested_written, one_behind}
use Rattle.object_core.proofs.OwnedMembers.{split_at}
use Rattle.object_core.proofs.owned.+owned.Goals as goal

pub put_others-put_value_object-requires : goal.put_others-put_value_object-requires
put_others-put_value_object-requires g t c κs within =
    let v = c.value-item.result in
    let small : weight (data_of v) + 1 ≤ weight_of_all (datas c.args.others.now) = rw c.value-item.is (weight_at c.args.others.now c.loop-value.value-index v c.loop-value-test.true) in
    let dec = c.decreases in
    (omega (arith, small, dec), within)

pub put_others-returns-in_err-put_value_object : goal.put_others-returns-in_err-put_value_object
put_others-returns-in_err-put_value_object g t c =
    let p = err_from_is_err_and c.from_residual.result c.from_residual.ensures.1 in
    rw p.1 (front_twice c.args.out.now.items c.loop-value.out.items c.put_value_object.new.out.items c.loop-value.invariant.kept c.in_err-put_value_object.ensures)

pub put_others-loop-value-preserved : goal.put_others-loop-value-preserved
put_others-loop-value-preserved g t c =
    let put = c.in_ok-put_value_object.ensures in
    let split = split_at c.args.others.now c.loop-value.value-index c.value-item.result c.loop-value-test.true c.value-item.is in
    record {
      within = omega arith;
      kept = kept_more c.args.out.now.items c.loop-value.out.items _ _ c.loop-value.invariant.kept put.1;
      so_far = one_behind c.args.out.now.items c.loop-value.out.items _ _ _ _ _ c.loop-value.invariant.so_far split put;
    }

pub put_others-returns : goal.put_others-returns
put_others-returns g t c =
    let none = ap (λ (vs : List (Value g.row.A.Denot)). datas vs) (drop_all c.loop-value.value-index c.args.others.now c.loop-value-test.false) in
    finished c.args.out.now.items c.loop-value.out.items _ _ c.loop-value.invariant.so_far none

pub put_values_object-returns : goal.put_values_object-returns
put_values_object-returns g t c =
    members_written _ _ _ _ _ _ _ (sym c.as_slice.ensures ∙ ap (λ (vs : List (Value g.row.A.Denot)). datas vs) c.in-Some.ensures.cases.0) c.in_ok-put_value_object.ensures c.in_ok-put_others.ensures
    c.in_ok-push.ensures.items

pub put_array_object-returns : goal.put_array_object-returns
put_array_object-returns g t c =
    let all = c.in_ok-put_values_object.ensures in (
      c.args.sign ∷ one_field (codes "array") (objects.array all.2.0),
      nested_written _ _ _ _ _ _ _ _ c.in_ok-extend_from_slice.ensures.items all.1 all.2.1 c.in_ok-push.ensures.items refl,
      (_, refl, (all.2.0, refl, all.2.2)),
    )

pub put_structure_object-returns : goal.put_structure_object-returns
put_structure_object-returns g t c =
    let all = c.in_ok-put_values_object.ensures in (
      c.args.sign ∷ one_field (codes "structure") (objects.array all.2.0),
      nested_written _ _ _ _ _ _ _ _ c.in_ok-extend_from_slice.ensures.items all.1 all.2.1 c.in_ok-push.ensures.items refl,
      (_, refl, (all.2.0, refl, all.2.2)),
    )

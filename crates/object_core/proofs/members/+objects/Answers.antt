use Rattle.std.proofs.Common.{◌∷◌, arith, ap, refl, sym, ◌∙◌}
use Rattle.std.specs.Prelude.{codes}
use Rattle.object_core.specs.MemberObject.{one_field}
use Rattle.object_core.specs.Objects as objects
use Rattle.mms_data.specs.Meaning.{left}
use Rattle.mms_data.specs.computed.Weight.{weight_of_all}
use Rattle.std.proofs.lemmas.List.{take_all}
use Rattle.object_core.proofs.MemberTexts.{begins, finished, kept_more, members_written, nested_written, one_behind, one_more}
use Rattle.object_core.proofs.members.+objects.Goals as goal

pub put_members_object-returns : goal.put_members_object-returns
put_members_object-returns g t c =
    members_written _ _ _ _ _ _ _ c.in-Some.ensures.steps.0 c.in_ok-put_member_object.ensures c.in_ok-put_others.ensures c.in_ok-push.ensures.items

pub put_others-members-init : goal.put_others-members-init
put_others-members-init g t c = record {
  kept = take_all _ c.args.out.now.items (omega arith);
  so_far = begins c.args.out.now.items (left c.args.others);
  fewer = omega arith;
}

pub put_others-members-preserved-in-Some : goal.put_others-members-preserved-in-Some
put_others-members-preserved-in-Some g t c =
    let split = c.in-Some.ensures.found.0 in
    let put = c.in_ok-put_truth.ensures in
    let weights = ap weight_of_all split in
    record {
      kept = kept_more c.args.out.now.items c.members.out.items _ _ c.members.invariant.kept put;
      so_far = one_more c.args.out.now.items c.members.out.items _ _ _ _ _ _ c.members.invariant.so_far split put refl;
      fewer = omega (arith, weights, c.members.invariant.fewer);
    }

pub put_others-members-preserved : goal.put_others-members-preserved
put_others-members-preserved g t c =
    let split = ap left (sym c.in_default.ensures.found) ∙ c.in-Some-next.ensures.steps.0 in
    let put = c.in_ok-put_member_object.ensures in
    let weights = ap weight_of_all split in
    record {
      kept = kept_more c.args.out.now.items c.members.out.items _ _ c.members.invariant.kept put.1;
      so_far = one_behind c.args.out.now.items c.members.out.items _ _ _ _ _ c.members.invariant.so_far split put;
      fewer = omega (arith, weights, c.members.invariant.fewer);
    }

pub put_others-returns-in_default-next : goal.put_others-returns-in_default-next
put_others-returns-in_default-next g t c = finished c.args.out.now.items c.members.out.items _ _ c.members.invariant.so_far (ap left (sym c.in_default.ensures.found) ∙ c.in_default-next.ensures.steps.0.0)

pub put_array_object-returns : goal.put_array_object-returns
put_array_object-returns g t c =
    let all = c.in_ok-put_members_object.ensures in (
      c.args.sign ∷ one_field (codes "array") (objects.array all.2.0),
      nested_written _ _ _ _ _ _ _ _ c.in_ok-extend_from_slice.ensures.items all.1 all.2.1 c.in_ok-push.ensures.items refl,
      (_, refl, (all.2.0, refl, all.2.2)),
    )

pub put_structure_object-returns : goal.put_structure_object-returns
put_structure_object-returns g t c =
    let all = c.in_ok-put_members_object.ensures in (
      c.args.sign ∷ one_field (codes "structure") (objects.array all.2.0),
      nested_written _ _ _ _ _ _ _ _ c.in_ok-extend_from_slice.ensures.items all.1 all.2.1 c.in_ok-push.ensures.items refl,
      (_, refl, (all.2.0, refl, all.2.2)),
    )

use Rattle.std.proofs.Common.{◌+◌, ◌≤◌, [], ◌∷◌, arith, ap, refl, sym, ◌∙◌, List}
use Rattle.mms_data.specs.declared.value.Value.{Value}
use Rattle.mms_data.specs.Value.{data_of, datas}
use Rattle.mms_data.specs.computed.Weight.{weight, weight_of_all}
use Rattle.mms_data.proofs.Weights.{weight_at}
use Rattle.text_core.specs.Pieces.{spaced}
use Rattle.text_core.specs.ValueText.{value_text}
use Rattle.std.proofs.lemmas.Result.{err_from_is_err_and}
use Rattle.text_core.proofs.Fronts.{grown, same_stands}
use Rattle.text_core.proofs.OwnedTexts.{one_more}
use Rattle.text_core.proofs.PieceLemmas.{then_text}
use Rattle.text_core.proofs.Spaced.{spaced-written}
use Rattle.text_core.proofs.owned.+owned.Goals as goal

pub put_others-put_value_text-requires : goal.put_others-put_value_text-requires
put_others-put_value_text-requires g t c κs within =
    let v = c.value-item.result in
    let small : weight (data_of v) + 1 ≤ weight_of_all (datas c.args.others.now) = rw c.value-item.is (weight_at c.args.others.now c.loop-value.value-index v c.loop-value-test.true) in
    let dec = c.decreases in
    (omega (arith, small, dec), within)

pub put_others-loop-value-preserved : goal.put_others-loop-value-preserved
put_others-loop-value-preserved g t c = record {
  within = omega arith;
  text = one_more _ _ _ _ c.args.others.now c.loop-value.value-index c.value-item.result c.loop-value-test.true c.value-item.is c.loop-value.invariant.text c.in_ok-push.ensures.items c.in_ok-put_value_text.ensures;
}

pub put_others-returns-in_err-push : goal.put_others-returns-in_err-push
put_others-returns-in_err-push g t c =
    let p = err_from_is_err_and c.from_residual.result c.from_residual.ensures.1 in
    rw p.1 (grown _ c.loop-value.out.items _ _ c.loop-value.invariant.text (same_stands c.loop-value.out.items c.push.new.self.items c.in_err-push.ensures.items))

pub put_others-returns-in_err-put_value_text : goal.put_others-returns-in_err-put_value_text
put_others-returns-in_err-put_value_text g t c =
    let p = err_from_is_err_and c.from_residual-in_err-put_value_text.result c.from_residual-in_err-put_value_text.ensures.1 in
    rw p.1 (grown _ c.loop-value.out.items _ _ c.loop-value.invariant.text (grown c.loop-value.out.items c.push.new.self.items _ _ c.in_ok-push.ensures.items c.in_err-put_value_text.ensures))

pub put_spaced-returns : goal.put_spaced-returns
put_spaced-returns g t c =
    spaced-written value_text c.put_others.result _ _ _ _ _ _ (sym c.as_slice.ensures ∙ ap (λ (vs : List (Value g.row.A.Denot)). datas vs) c.in-Some.ensures.cases.0) c.in_ok-put_value_text.ensures c.put_others.ensures

pub put_between-returns : goal.put_between-returns
put_between-returns g t c =
    let front = then_text _ (c.args.before ∷ []) _ (c.args.before ∷ spaced value_text c.args.values.now) _ _ c.in_ok-push.ensures.items c.in_ok-put_spaced.ensures refl in
    then_text _ _ (c.args.after ∷ []) _ _ _ front c.in_ok-push-2.ensures.items refl

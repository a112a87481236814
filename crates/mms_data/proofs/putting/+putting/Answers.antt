use Rattle.std.proofs.Common.{◌≡◌, ℕ, ◌+◌, ◌<◌, ◌≤◌, ◌^◌, List, ◌++◌, length, drop, get_or, suc, ap, sym, ◌∙◌, append_assoc, add-one, arith, rules}
use Rattle.std.proofs.lemmas.List.{append-nil, drop_all, length-append}
use Rattle.ber_core.specs.Written.{written_element}
use Rattle.mms_data.specs.declared.value.Value.{Value}
use Rattle.mms_data.specs.Value.{data_of, datas}
use Rattle.mms_data.specs.computed.Weight.{weight, weight_of_all}
use Rattle.mms_data.specs.Written.{written, written_all, written_contents}
use Rattle.mms_data.proofs.Weights.{weight_at}
use Rattle.mms_data.proofs.Appends.{part_fits, part_within}
use Rattle.mms_data.proofs.WrittenSizes.{written_at, contents_within}
use Rattle.mms_data.proofs.putting.+putting.Goals as goal

one_more : {A : Type 0} (vs : List (Value A)) (i : ℕ) (v : Value A) (out new all : List ℕ) → i < length vs → v ≡ get_or vs i v → new ≡ out ++ written (data_of v) →
    out ++ written_all (datas (drop i vs)) ≡ all → new ++ written_all (datas (drop (i + 1) vs)) ≡ all
one_more vs i v out new all h r e same = let here = rw (← r) at (written_at vs i v h) in rw (e, append_assoc, add-one, ← here) same

pub put_each-put-requires : goal.put_each-put-requires
put_each-put-requires g t c κs within =
    let vs = c.as_slice-values.result.now in
    let v = c.value-item.result in
    let i = c.loop-value.value-index in
    let small : weight (data_of v) + 1 ≤ weight_of_all (datas vs) = rw c.value-item.is (weight_at vs i v c.loop-value-test.true) in
    let same : weight_of_all (datas vs) ≡ weight_of_all c.args.values.now = ap weight_of_all c.as_slice-values.ensures in
    let dec = c.decreases in
    let here : written_all (datas (drop i vs)) ≡ written (data_of v) ++ written_all (datas (drop (suc i) vs)) = written_at vs i v c.loop-value-test.true ∙ ap (λ x. written (data_of x) ++ written_all (datas (drop (suc i) vs))) (sym c.value-item.is) in
    let whole : written_all (datas vs) ≡ written_all c.args.values.now = ap written_all c.as_slice-values.ensures in
    let so_far : c.loop-value.out.items ++ (written (data_of v) ++ written_all (datas (drop (suc i) vs))) ≡ c.args.out.now.items ++ written_all c.args.values.now =
    ap (λ x. c.loop-value.out.items ++ x) (sym here) ∙ c.loop-value.invariant.all ∙ ap (λ x. c.args.out.now.items ++ x) whole in
    let fit : length c.loop-value.out.items + length (written (data_of v)) ≤ g.row.N = part_fits g.row.N c.args.out.now.items c.loop-value.out.items (written_all c.args.values.now) (written (data_of v)) (written_all (datas (drop (suc i) vs))) so_far c.requires.room in
    let part : length (written (data_of v)) < 2 ^ 32 = part_within (2 ^ 32) c.args.out.now.items c.loop-value.out.items (written_all c.args.values.now) (written (data_of v)) (written_all (datas (drop (suc i) vs))) c.loop-value.invariant.grown so_far c.requires.size in
    let few : length (written_contents (data_of v)) < 2 ^ 32 = contents_within (data_of v) (2 ^ 32) part in
    (omega (arith, small, same, dec), (within, (search rules, (search rules, (few, fit)))))

pub put-returns-in-Array : goal.put-returns-in-Array
put-returns-in-Array g t c = rw c.in-Array.is c.put_nested_values.ensures

pub put-returns-in-Structure : goal.put-returns-in-Structure
put-returns-in-Structure g t c = rw c.in-Structure.is c.put_nested_values-in-Structure.ensures

pub put-put_octets-requires-in-Floating : goal.put-put_octets-requires-in-Floating
put-put_octets-requires-in-Floating g t c = rw c.as_slice-in-Floating.ensures (search rules, (search rules, (rw c.in-Floating.is at c.requires.size, rw c.in-Floating.is at c.requires.room)))

pub put-put_octets-requires-in-Octets : goal.put-put_octets-requires-in-Octets
put-put_octets-requires-in-Octets g t c = rw c.as_slice-in-Octets.ensures (search rules, (search rules, (rw c.in-Octets.is at c.requires.size, rw c.in-Octets.is at c.requires.room)))

pub put-put_octets-requires-in-Visible : goal.put-put_octets-requires-in-Visible
put-put_octets-requires-in-Visible g t c = rw c.as_slice-in-Visible.ensures (search rules, (search rules, (rw c.in-Visible.is at c.requires.size, rw c.in-Visible.is at c.requires.room)))

pub put-put_octets-requires-in-BinaryTime : goal.put-put_octets-requires-in-BinaryTime
put-put_octets-requires-in-BinaryTime g t c = rw c.as_slice-in-BinaryTime.ensures (search rules, (search rules, (rw c.in-BinaryTime.is at c.requires.size, rw c.in-BinaryTime.is at c.requires.room)))

pub put-put_octets-requires-in-MmsText : goal.put-put_octets-requires-in-MmsText
put-put_octets-requires-in-MmsText g t c = rw c.as_slice-in-MmsText.ensures (search rules, (search rules, (rw c.in-MmsText.is at c.requires.size, rw c.in-MmsText.is at c.requires.room)))

pub put_each-loop-value-preserved : goal.put_each-loop-value-preserved
put_each-loop-value-preserved g t c =
    let before = c.loop-value.invariant in record {
      grown = rw c.put.ensures (omega (arith, before.grown, length-append c.loop-value.out.items (written (data_of c.value-item.result))));
      all = one_more _ _ _ _ _ _ c.loop-value-test.true c.value-item.is c.put.ensures before.all;
    }

pub put_each-returns : goal.put_each-returns
put_each-returns g t c =
    let out = c.loop-value.out.items in
    sym (append-nil out) ∙ ap (λ vs. out ++ written_all (datas vs)) (sym (drop_all _ _ c.loop-value-test.false)) ∙ c.loop-value.invariant.all
    ∙ ap (λ ds. c.args.out.now.items ++ written_all ds) c.as_slice-values.ensures

pub put_nested_values-returns : goal.put_nested_values-returns
unfolding written_element
put_nested_values-returns g t c = rw (c.put_each.ensures, c.put_front.ensures, c.in-Some.ensures.1, append_assoc)

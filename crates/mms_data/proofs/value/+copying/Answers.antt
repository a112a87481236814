use Rattle.std.proofs.Common.{◌≡◌, ℕ, ◌+◌, ◌<◌, ◌≤◌, List, [], ◌∷◌, ◌++◌, length, take, get_or, refl, ap, ◌∙◌, arith}
use Rattle.std.proofs.lemmas.List.{take_all, take_more}
use Rattle.mms_data.specs.declared.value.Value.{Value}
use Rattle.mms_data.specs.Value.{data_of, datas}
use Rattle.mms_data.specs.computed.Weight.{weight, weight_of_all}
use Rattle.mms_data.proofs.NoMemory.{no_items_of, refused}
use Rattle.mms_data.proofs.Weights.{weight_at}
use Rattle.mms_data.proofs.value.+copying.Goals as goal

none_of : {A : Type 0} (vs : List (Value A)) → datas vs ≡ [] → length vs ≡ 0
none_of [] e = refl
none_of (v ∷ vs) e = absurd (cc)

one_more : {X : Type 0} (copies new vs : List X) (i : ℕ) (copy v : X) → new ≡ copies ++ copy ∷ [] → copies ≡ take i vs → copy ≡ v → v ≡ get_or vs i v → i < length vs → new ≡ take (i + 1) vs
one_more copies new vs i copy v e p q r h = rw (take_more vs i v h, ← r, ← p, ← q) e

pub ValueList::try_copy-try_copy-requires : goal.ValueList::try_copy-try_copy-requires
ValueList::try_copy-try_copy-requires g t c κs within =
    let vs = c.as_slice-values.result.now in
    let v = c.value-item.result in
    let small : weight (data_of v) + 1 ≤ weight_of_all (datas vs) = rw c.value-item.is (weight_at vs c.loop-value.value-index v c.loop-value-test.true) in
    let same : weight_of_all (datas vs) ≡ weight_of_all c.args.self.now = ap weight_of_all c.as_slice-values.ensures in
    let dec = c.decreases in
    (omega (arith, small, same, dec), within)

pub Value::try_copy-returns-in_err-try_copy-in-Array-clause-none : goal.Value::try_copy-returns-in_err-try_copy-in-Array-clause-none
Value::try_copy-returns-in_err-try_copy-in-Array-clause-none g t c = λ none. refused (c.in_err-try_copy-in-Array.ensures.none (no_items_of _ (rw c.in-Array.is at none)))

pub Value::try_copy-returns-in_err-try_copy-in-Structure-clause-none : goal.Value::try_copy-returns-in_err-try_copy-in-Structure-clause-none
Value::try_copy-returns-in_err-try_copy-in-Structure-clause-none g t c = λ none. refused (c.in_err-try_copy-in-Structure.ensures.none (no_items_of _ (rw c.in-Structure.is at none)))

pub Value::try_copy-returns-in_err-try_copy-in-Bits-clause-none : goal.Value::try_copy-returns-in_err-try_copy-in-Bits-clause-none
Value::try_copy-returns-in_err-try_copy-in-Bits-clause-none g t c = λ none. refused (c.in_err-try_copy-in-Bits.ensures.none (rw c.in-Bits.is at none))

pub Value::try_copy-returns-in_err-try_copy-in-Floating-clause-none : goal.Value::try_copy-returns-in_err-try_copy-in-Floating-clause-none
Value::try_copy-returns-in_err-try_copy-in-Floating-clause-none g t c = λ none. refused (c.in_err-try_copy-in-Floating.ensures.none (rw c.in-Floating.is at none))

pub Value::try_copy-returns-in_err-try_copy-in-Octets-clause-none : goal.Value::try_copy-returns-in_err-try_copy-in-Octets-clause-none
Value::try_copy-returns-in_err-try_copy-in-Octets-clause-none g t c = λ none. refused (c.in_err-try_copy-in-Octets.ensures.none (rw c.in-Octets.is at none))

pub Value::try_copy-returns-in_err-try_copy-in-Visible-clause-none : goal.Value::try_copy-returns-in_err-try_copy-in-Visible-clause-none
Value::try_copy-returns-in_err-try_copy-in-Visible-clause-none g t c = λ none. refused (c.in_err-try_copy-in-Visible.ensures.none (rw c.in-Visible.is at none))

pub Value::try_copy-returns-in_err-try_copy-in-BinaryTime-clause-none : goal.Value::try_copy-returns-in_err-try_copy-in-BinaryTime-clause-none
Value::try_copy-returns-in_err-try_copy-in-BinaryTime-clause-none g t c = λ none. refused (c.in_err-try_copy-in-BinaryTime.ensures.none (rw c.in-BinaryTime.is at none))

pub Value::try_copy-returns-in_err-try_copy-in-MmsText-clause-none : goal.Value::try_copy-returns-in_err-try_copy-in-MmsText-clause-none
Value::try_copy-returns-in_err-try_copy-in-MmsText-clause-none g t c = λ none. refused (c.in_err-try_copy-in-MmsText.ensures.none (rw c.in-MmsText.is at none))

pub ValueList::try_copy-returns-in_err-copies-clause-none : goal.ValueList::try_copy-returns-in_err-copies-clause-none
ValueList::try_copy-returns-in_err-copies-clause-none g t c = λ none. refused (c.in_err-copies.ensures.succeeds (none_of _ (c.as_slice-values.ensures ∙ none)))

pub ValueList::try_copy-loop-value-preserved : goal.ValueList::try_copy-loop-value-preserved
ValueList::try_copy-loop-value-preserved g t c = one_more _ _ _ _ _ _ c.in_ok-push.ensures.items c.loop-value.invariant c.in_ok-try_copy.ensures.value c.value-item.is c.loop-value-test.true

pub ValueList::try_copy-returns-in_err-try_copy-clause-none : goal.ValueList::try_copy-returns-in_err-try_copy-clause-none
ValueList::try_copy-returns-in_err-try_copy-clause-none g t c = λ none. let empty = none_of _ (c.as_slice-values.ensures ∙ none) in absurd (omega (arith, empty, c.loop-value-test.true))

pub ValueList::try_copy-returns-in_err-push-clause-none : goal.ValueList::try_copy-returns-in_err-push-clause-none
ValueList::try_copy-returns-in_err-push-clause-none g t c = λ none. let empty = none_of _ (c.as_slice-values.ensures ∙ none) in absurd (omega (arith, empty, c.loop-value-test.true))

pub ValueList::try_copy-returns-clause-value : goal.ValueList::try_copy-returns-clause-value
ValueList::try_copy-returns-clause-value g t c = c.from.ensures ∙ ap datas (c.loop-value.invariant ∙ take_all _ _ c.loop-value-test.false) ∙ c.as_slice-values.ensures

use Rattle.std.proofs.Common.{◌≡◌, ◌≤◌, List, [], ◌∷◌, ◌++◌, length, append_assoc, inl, ap, arith}
use Rattle.std.proofs.lemmas.List.{length-append, map-append}
use Rattle.mms_data.specs.Data.{Data}
use Rattle.mms_data.specs.declared.value.Value.{Value}
use Rattle.mms_data.specs.computed.Left.{data_in}
use Rattle.mms_data.specs.Value.{data_of, datas}
use Rattle.mms_data.specs.Meaning.{left, meaning}
use Rattle.mms_data.proofs.Few.{few_members}
use Rattle.mms_data.proofs.NoMemory.{no_items_of, refused}
use Rattle.mms_data.proofs.Weights.{weight_in}
use Rattle.mms_data.proofs.view.+owning.Goals as goal

one_more : {A : Type 0} (values new : List (Value A)) (v : Value A) (d : Data) (before after all : List Data) → new ≡ values ++ v ∷ [] → data_of v ≡ d → before ≡ d ∷ after → datas values ++ before ≡ all → datas new ++ after ≡ all
one_more values new v d before after all e p q h = rw (e, map-append data_of values (v ∷ []), append_assoc, p, ← q) h

some_left : (d : Data) (read before after all : List Data) → before ≡ d ∷ after → read ++ before ≡ all → all ≡ [] → ⊥
some_left d read before after all q h none = omega (arith, ap length q, ap length h, ap length none, length-append read before)

pub Members::to_values-to_value-requires : goal.Members::to_values-to_value-requires
Members::to_values-to_value-requires g t c κs within =
    let small = weight_in (datas c.loop-view.values.items) (left c.loop-view.view-iterator) (left c.next.new.self) (left c.args.self) (meaning c.in-Some.view) c.in-Some.ensures.steps.0 c.loop-view.invariant.2 in
    let dec = c.decreases in
    (omega (arith, small, dec), within)

pub Members::to_values-count-requires-clause-fits : goal.Members::to_values-count-requires-clause-fits
Members::to_values-count-requires-clause-fits g t c =
    let s = c.args.self in
    let few : length (data_in s.depth s.octets.now) ≤ length s.octets.now = few_members s.depth s.octets.now s.bounded s.spelled in
    let fits = c.ranges.self in
    inl (omega (arith, few, fits))

pub View::to_value-returns-in_err-to_values-in-Array-clause-none : goal.View::to_value-returns-in_err-to_values-in-Array-clause-none
View::to_value-returns-in_err-to_values-in-Array-clause-none g t c = λ none. refused (c.in_err-to_values-in-Array.ensures.none (no_items_of _ (rw c.in-Array.is at none)))

pub View::to_value-returns-in_err-to_values-in-Structure-clause-none : goal.View::to_value-returns-in_err-to_values-in-Structure-clause-none
View::to_value-returns-in_err-to_values-in-Structure-clause-none g t c = λ none. refused (c.in_err-to_values-in-Structure.ensures.none (no_items_of _ (rw c.in-Structure.is at none)))

pub View::to_value-returns-in_err-cleared_octets-in-Bits-clause-none : goal.View::to_value-returns-in_err-cleared_octets-in-Bits-clause-none
View::to_value-returns-in_err-cleared_octets-in-Bits-clause-none g t c = λ none. refused (c.in_err-cleared_octets-in-Bits.ensures.none (rw c.in-Bits.is at none))

pub View::to_value-returns-in_err-try_from_slice-in-Floating-clause-none : goal.View::to_value-returns-in_err-try_from_slice-in-Floating-clause-none
View::to_value-returns-in_err-try_from_slice-in-Floating-clause-none g t c = λ none. refused (c.in_err-try_from_slice-in-Floating.ensures.none (rw c.in-Floating.is at none))

pub View::to_value-returns-in_err-try_from_slice-in-Octets-clause-none : goal.View::to_value-returns-in_err-try_from_slice-in-Octets-clause-none
View::to_value-returns-in_err-try_from_slice-in-Octets-clause-none g t c = λ none. refused (c.in_err-try_from_slice-in-Octets.ensures.none (rw c.in-Octets.is at none))

pub View::to_value-returns-in_err-try_from_slice-in-Visible-clause-none : goal.View::to_value-returns-in_err-try_from_slice-in-Visible-clause-none
View::to_value-returns-in_err-try_from_slice-in-Visible-clause-none g t c = λ none. refused (c.in_err-try_from_slice-in-Visible.ensures.none (rw c.in-Visible.is at none))

pub View::to_value-returns-in_err-try_from_slice-in-BinaryTime-clause-none : goal.View::to_value-returns-in_err-try_from_slice-in-BinaryTime-clause-none
View::to_value-returns-in_err-try_from_slice-in-BinaryTime-clause-none g t c = λ none. refused (c.in_err-try_from_slice-in-BinaryTime.ensures.none (rw c.in-BinaryTime.is at none))

pub View::to_value-returns-in_err-try_from_slice-in-MmsText-clause-none : goal.View::to_value-returns-in_err-try_from_slice-in-MmsText-clause-none
View::to_value-returns-in_err-try_from_slice-in-MmsText-clause-none g t c = λ none. refused (c.in_err-try_from_slice-in-MmsText.ensures.none (rw c.in-MmsText.is at none))

pub Members::to_values-loop-view-preserved : goal.Members::to_values-loop-view-preserved
Members::to_values-loop-view-preserved g t c = (tt, tt, one_more _ _ _ _ _ _ _ c.in_ok-push.ensures.items c.in_ok-to_value.ensures.value c.in-Some.ensures.steps.0 c.loop-view.invariant.2)

pub Members::to_values-returns-in_err-to_value-clause-none : goal.Members::to_values-returns-in_err-to_value-clause-none
Members::to_values-returns-in_err-to_value-clause-none g t c = λ none. absurd (some_left _ _ _ _ _ c.in-Some.ensures.steps.0 c.loop-view.invariant.2 none)

pub Members::to_values-returns-in_err-push-clause-none : goal.Members::to_values-returns-in_err-push-clause-none
Members::to_values-returns-in_err-push-clause-none g t c = λ none. absurd (some_left _ _ _ _ _ c.in-Some.ensures.steps.0 c.loop-view.invariant.2 none)

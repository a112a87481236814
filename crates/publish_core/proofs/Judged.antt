-- The test of a change says why it is refused, and nothing else.
use Rattle.std.proofs.Common.{◌≡◌, ℕ, zero, suc, ◌+◌, ◌<◌, ◌≤◌, ◌==◌, true, false, List, length, Option, Some, None, inl, inr, refl, subst, arith}
use Rattle.std.specs.Prelude.{nat_le}
use Rattle.std.proofs.lemmas.Bool.{and_parts, and_cases, both_ways, cases_Bool, cases_lt, eqb-false, eqb-true, eq-eqb, ne_eqb, false_from_ne_true, leb-false, leb-true}
use Rattle.mms_data.specs.Data.{items_of}
use Rattle.mms_data.specs.computed.SpellableTest.{is_text, is_time}
use Rattle.mms_data.proofs.SpellableLaws.{all_is, all_true, moment_is, moment_true}
use Rattle.pdu_core.specs.computed.SpellableTest.{are_texts}
use Rattle.pdu_core.proofs.SpellableTests.{test_text, test_text_if, text_if_test, text_test}
use Rattle.frame_core.specs.declared.frame.Frame.{Frame}
use Rattle.frame_core.specs.Written.{IsTooLong, written_apdu, written_frame}
use Rattle.publish_core.specs.declared.control.Control.{Control}
use Rattle.publish_core.specs.declared.fault.PublishFault.{PublishFault}
use Rattle.publish_core.specs.declared.fault.PublishFault.TheVariants as faults
use Rattle.publish_core.specs.declared.table.Step.{Step}
use Rattle.publish_core.specs.Frames.{Change, frame}
use Rattle.publish_core.specs.computed.Judgement.{ChangesAreJudged, IsJudged, are_short, is_short, is_change_spellable, refusal}
use Rattle.publish_core.specs.Refusal.{CanBeSpelled, EveryFrameFits}
use Rattle.publish_core.specs.computed.Step.{judged_frame}
use Rattle.publish_core.specs.Table.{AreSteps}
use Rattle.publish_core.proofs.Fits.{every_frame, some_frame}

-- spellings

spelled_is : {A : Type 0} (control : Control A) (change : Change) → is_change_spellable control change ≡ true → CanBeSpelled control change
spelled_is control change e =
    let a = and_parts (are_texts control.gocb_ref control.dat_set control.go_id) _ e in
    let t = and_parts (is_text control.gocb_ref) _ a.0 in
    let u = and_parts (is_text control.dat_set) _ t.1 in
    let m = and_parts (is_time change.t) _ a.1 in
    record {
      gocb_ref = test_text control.gocb_ref t.0;
      dat_set = test_text control.dat_set u.0;
      go_id = test_text_if control.go_id u.1;
      t = moment_is change.t m.0;
      values = all_is (items_of change.values) 1 m.1;
    }

is_spelled_since : {A : Type 0} (control : Control A) (change : Change) → CanBeSpelled control change → is_change_spellable control change ≡ true
is_spelled_since control change s =
    rw (
      text_test control.gocb_ref s.gocb_ref,
      text_test control.dat_set s.dat_set,
      text_if_test control.go_id s.go_id,
      moment_true change.t s.t,
      all_true (items_of change.values) 1 s.values,
    ) refl

-- lengths

short_fits : {A : Type 0} (f : Frame A) → is_short f ≡ true → ¬ IsTooLong f
short_fits f e long =
    let a = and_parts (nat_le (8 + length (written_apdu f.apdu)) 1500) _ e in
    let size : 8 + length (written_apdu f.apdu) ≤ 1500 = leb-true _ _ a.0 in
    let whole : length (written_frame f) ≤ 1600 = leb-true _ _ a.1 in
    elim long [
      | inl over ↦ omega (arith, over, size)
      | inr over ↦ omega (arith, over, whole)
    ]

not_short : {A : Type 0} (f : Frame A) → is_short f ≡ false → IsTooLong f
not_short f e =
    elim (and_cases (nat_le (8 + length (written_apdu f.apdu)) 1500) (nat_le (length (written_frame f)) 1600) e) [
      | inl over ↦ inl (leb-false _ _ over)
      | inr over ↦ inr (leb-false _ _ over)
    ]

module _ {A : Type 0} (control : Control A) (table : List Step) (state : ℕ) (change : Change) where
  -- the longest frame of a step
  abbrev of_step : ℕ → Frame A
  of_step i = judged_frame control table state change i

  short_each : (n : ℕ) → are_short control table state change n ≡ true → (i : ℕ) → i < n → ¬ IsTooLong (of_step i)
  short_each zero e i lt = absurd (omega (arith, lt))
  short_each (suc n) e i lt =
      let a = and_parts (is_short (of_step n)) _ e in
      elim (cases_lt i n) [
        | inl less ↦ short_each n a.1 i less
        | inr more ↦
            let last : n ≡ i = omega (arith, lt, more) in
            subst (λ (j : ℕ). ¬ IsTooLong (of_step j)) last (short_fits (of_step n) a.0)
      ]

  not_all_short : (n : ℕ) → are_short control table state change n ≡ false → (i : ℕ) × (i < n) × IsTooLong (of_step i)
  not_all_short zero e = absurd (both_ways true e refl)
  not_all_short (suc n) e =
      elim (and_cases (is_short (of_step n)) (are_short control table state change n) e) [
        | inl here ↦ (n, omega arith, not_short (of_step n) here)
        | inr before ↦
            let rest = not_all_short n before in
            (rest.0, omega (arith, rest.1), rest.2)
      ]

  module _ (steps : AreSteps table) where
    all_fit : are_short control table state change (length table) ≡ true → EveryFrameFits control table state change
    all_fit e = every_frame control table state change steps (short_each (length table) e)

    one_long : are_short control table state change (length table) ≡ false → (k : ℕ) × IsTooLong (frame control table state change k)
    one_long e =
        let f = not_all_short (length table) e in
        some_frame control table state change steps f.0 f.1 f.2

    fit_is_short : EveryFrameFits control table state change → are_short control table state change (length table) ≡ true
    fit_is_short fit =
        elim (cases_Bool (are_short control table state change (length table))) [
          | inl holds ↦ holds
          | inr over ↦ let l = one_long over in absurd (fit l.0 l.1)
        ]

    -- the test answers so
    pub judged : IsJudged control table state change (refusal control table state change)
    judged =
        elim (cases_Bool (length change.values == control.entries)) [
          | inr differs ↦ rw differs (λ same. eqb-false _ _ differs same)
          | inl counts ↦
              let entries : length change.values ≡ control.entries = eqb-true _ _ counts in
              elim (cases_Bool (is_change_spellable control change)) [
                | inr fails ↦ rw (counts, fails) (entries, λ s. both_ways (is_change_spellable control change) fails (is_spelled_since control change s))
                | inl holds ↦
                    let spelled = spelled_is control change holds in
                    elim (cases_Bool (are_short control table state change (length table))) [
                      | inl short ↦ rw (counts, holds, short) (record { entries = entries; spelled = spelled; fit = all_fit short })
                      | inr long ↦ rw (counts, holds, long) (entries, spelled, one_long long)
                    ]
              ]
        ]

    -- it answers nothing else
    pub judged_only : (answer : Option PublishFault) → IsJudged control table state change answer → answer ≡ refusal control table state change
    judged_only None accepted =
        rw (eq-eqb _ _ accepted.entries, is_spelled_since control change accepted.spelled, fit_is_short accepted.fit) refl
    judged_only (Some faults.StepCount) refused = absurd refused
    judged_only (Some (faults.StepTimes i)) refused = absurd refused
    judged_only (Some faults.FirstState) refused = absurd refused
    judged_only (Some faults.EntriesDiffer) refused = rw (ne_eqb _ _ refused) refl
    judged_only (Some faults.NotSpellable) refused =
        rw (eq-eqb _ _ refused.0, false_from_ne_true (is_change_spellable control change) (λ yes. refused.1 (spelled_is control change yes))) refl
    judged_only (Some faults.WouldNotFit) refused =
        rw (
          eq-eqb _ _ refused.0,
          is_spelled_since control change refused.1,
          false_from_ne_true (are_short control table state change (length table)) (λ short. all_fit short refused.2.0 refused.2.1),
        ) refl

pub changes_are_judged : {A : Type 0} → ChangesAreJudged A
changes_are_judged control table state change steps = (
  refusal control table state change,
  judged control table state change steps,
  judged_only control table state change steps,
)

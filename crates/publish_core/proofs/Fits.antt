-- Every frame of a state fits exactly where the longest frame of each step does.
use Rattle.std.proofs.Common.{◌≡◌, ℕ, ◌+◌, ◌-◌, ◌<◌, ◌≤◌, ◌==◌, Bool, true, false, if◌then◌else◌, List, length, inl, inr, sym, refl, ◌∙◌, subst, arith}
use Rattle.std.proofs.lemmas.Bool.{cases_lt, eqb-true, eqb-false}
use Rattle.frame_core.specs.Written.{IsTooLong, written_apdu}
use Rattle.publish_core.specs.declared.table.Step.{Step}
use Rattle.publish_core.specs.declared.control.Control.{Control}
use Rattle.publish_core.specs.Numbers.{sequence_number}
use Rattle.publish_core.specs.Table.{AreSteps, step_at, step_of}
use Rattle.publish_core.specs.Frames.{Change, frame, frame_with}
use Rattle.publish_core.specs.Refusal.{EveryFrameFits}
use Rattle.publish_core.specs.computed.Step.{judged_frame, judged_number}
use Rattle.publish_core.proofs.NumberLaws.{sequence_number_low, sequence_number_most}
use Rattle.ber_core.specs.Written.{signed_size}
use Rattle.publish_core.specs.computed.Sizes.{StepFits, head_size}
use Rattle.publish_core.proofs.Sizes.{frame_fits, frame_long, sequence_shorter, too_long_grows}

judged_before : (table : List Step) (i : ℕ) → i + 1 < length table → judged_number table i ≡ i
judged_before table i lt = in_case (i + 1 == length table) refl
  where
    in_case : (b : Bool) → (i + 1 == length table) ≡ b → (if b then 4294967295 else i) ≡ i
    in_case true e = let same : i + 1 ≡ length table = eqb-true _ _ e in absurd (omega arith)
    in_case false e = refl

judged_last : (table : List Step) (i : ℕ) → i + 1 ≡ length table → judged_number table i ≡ 4294967295
judged_last table i same = in_case (i + 1 == length table) refl
  where
    in_case : (b : Bool) → (i + 1 == length table) ≡ b → (if b then 4294967295 else i) ≡ 4294967295
    in_case true e = refl
    in_case false e = absurd (eqb-false _ _ e same)

module _ {A : Type 0} (control : Control A) (table : List Step) (state : ℕ) (change : Change) (steps : AreSteps table) where
  -- the frame with the number q at step i
  abbrev at : ℕ → ℕ → Type 0
  at q i = IsTooLong (frame_with control change state q (step_at table i).live_ms)

  moved : (q r i j : ℕ) → q ≡ r → i ≡ j → at q i → at r j
  moved q r i j e f long = subst (λ (x : ℕ). at r x) f (subst (λ (x : ℕ). at x i) e long)

  pub every_frame : ((i : ℕ) → i < length table → ¬ IsTooLong (judged_frame control table state change i)) → EveryFrameFits control table state change
  every_frame fit k long =
      let some : 1 ≤ length table = steps.some in
      let most : length table ≤ 16 = steps.most in
      elim (cases_lt (k + 1) (length table)) [
        | inl less ↦
            let step : step_of table k ≡ k = omega arith in
            let low : sequence_number k ≡ k = sequence_number_low k (omega arith) in
            fit k (omega arith) (moved (sequence_number k) (judged_number table k) (step_of table k) k (low ∙ sym (judged_before table k less)) step long)
        | inr more ↦
            let last : ℕ = length table - 1 in
            let step : step_of table k ≡ last = omega arith in
            let end : last + 1 ≡ length table = omega arith in
            let grown : at 4294967295 (step_of table k) =
            too_long_grows control change state (step_at table (step_of table k)).live_ms (sequence_number k) 4294967295 (sequence_shorter (sequence_number k) (sequence_number_most k)) long in
            fit last (omega arith) (moved 4294967295 (judged_number table last) (step_of table k) last (sym (judged_last table last end)) step grown)
      ]

  -- where the longest of a step is too long, some frame is
  pub some_frame : (i : ℕ) → i < length table → IsTooLong (judged_frame control table state change i) → (k : ℕ) × IsTooLong (frame control table state change k)
  some_frame i lt long =
      let most : length table ≤ 16 = steps.most in
      elim (cases_lt (i + 1) (length table)) [
        | inl less ↦
            let step : step_of table i ≡ i = omega arith in
            let low : sequence_number i ≡ i = sequence_number_low i (omega arith) in
            (i, moved (judged_number table i) (sequence_number i) i (step_of table i) (judged_before table i less ∙ sym low) (sym step) long)
        | inr more ↦
            let end : i + 1 ≡ length table = omega arith in
            let step : step_of table 4294967295 ≡ i = omega arith in
            let low : sequence_number 4294967295 ≡ 4294967295 = sequence_number_low 4294967295 (omega arith) in
            (4294967295, moved (judged_number table i) (sequence_number 4294967295) i (step_of table 4294967295) (judged_last table i end ∙ sym low) (sym step) long)
      ]

  -- a first frame that is too long is one of them
  pub first_frame : at 0 0 → (k : ℕ) × IsTooLong (frame control table state change k)
  first_frame long =
      let first : 0 ≡ step_of table 0 = omega arith in
      (0, moved 0 0 0 (step_of table 0) refl first long)

  -- a first frame that fits tells of all others by the octets that these have more
  module _ (size : ℕ) (head : head_size control ≤ 26) (fit : ¬ at 0 0) (is_size : size ≡ length (written_apdu (frame_with control change state 0 (step_at table 0).live_ms).apdu)) where
    pub every_step : ((i : ℕ) → i < length table → StepFits table size i) → EveryFrameFits control table state change
    every_step fits =
        every_frame
        (λ i lt.
        let le = fits i lt in
        frame_fits control change state (step_at table i).live_ms (judged_number table i) (step_at table 0).live_ms head fit (omega (arith, le, is_size)))

    pub some_step : (i : ℕ) × (i < length table) × ¬ StepFits table size i → (k : ℕ) × IsTooLong (frame control table state change k)
    some_step (i, lt, over) =
        elim (cases_lt (1493 + signed_size (step_at table 0).live_ms) (size + signed_size (step_at table i).live_ms + signed_size (judged_number table i))) [
          | inl more ↦
              some_frame i lt (frame_long control change state (step_at table i).live_ms (judged_number table i) (step_at table 0).live_ms head fit (omega (arith, more, is_size)))
          | inr le ↦ absurd (over le)
        ]

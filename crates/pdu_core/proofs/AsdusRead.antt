-- Reading ASDUs one after the other, as a loop and an iterator do.
use Rattle.std.proofs.Common.{◌≡◌, ℕ, Bool, true, ◌+◌, ◌≤◌, ◌<◌, List, [], ◌∷◌, ◌++◌, length, Result, Ok, Err, Option, refl, sym, ap, ap₂, ◌∙◌, append_assoc, arith, inl, inr}
use Rattle.std.proofs.lemmas.Bool.{and_parts}
use Rattle.std.proofs.lemmas.List.{append-nil, length-append}
use Rattle.std.specs.Prelude.{◌&&◌, slice_range, IsOk}
use Rattle.ber_core.specs.computed.FieldReading.{required_at}
use Rattle.ber_core.specs.computed.Reading.{◌>>=◌}
use Rattle.ber_core.specs.declared.element.Header.{Header}
use Rattle.ber_core.specs.declared.fault.Fault.{Fault}
use Rattle.ber_core.proofs.FieldNested.{result_cases}
use Rattle.ber_core.proofs.FieldSound.{pair_is}
use Rattle.ber_core.proofs.Repeated.{each_step, each_done}
use Rattle.ber_core.proofs.Steps.{bind_ok, bind_err}
use Rattle.pdu_core.specs.Asdu.{asdu_items}
use Rattle.pdu_core.specs.Contents.{Item}
use Rattle.pdu_core.specs.Sampled.{asdu_grammar, items_of_each}
use Rattle.pdu_core.specs.computed.SampledReading.{asdu_in, asdu_at, asdus_at}
use Rattle.pdu_core.specs.computed.SampledValue.{AreAsdus, are_read, asdu_of_items, asdus_in}
use Rattle.pdu_core.specs.declared.sampled.asdu.Asdu.{Asdu}
use Rattle.pdu_core.specs.SampledWritten.{written_asdu, written_asdus}
use Rattle.pdu_core.proofs.SampledItems.{asdu_sound}
use Rattle.pdu_core.proofs.Standing.{join, nothing}

module _ (octets : List ℕ) (e : ℕ) (within : e ≤ length octets) where
  behind_header : (p : ℕ) (h : Header) (ws : List (Option Item)) → p < e → required_at 0x30 octets p e ≡ Ok h → asdu_in tt octets h ≡ Ok ws → asdus_at octets p e ≡ (asdus_at octets h.contents_to e >>= λ xs. Ok (ws ∷ xs))
  unfolding asdus_at
  behind_header p h ws more is then = each_step asdu_grammar asdu_in asdu_sound 0x30 tt refl octets e within p more ∙ rw (is, then) refl

  -- one ASDU, and those behind it
  pub asdus_step : (p q : ℕ) (vs : List (Option Item)) → p < e → asdu_at octets p e ≡ Ok (vs, q) → asdus_at octets p e ≡ (asdus_at octets q e >>= λ xs. Ok (vs ∷ xs))
  unfolding asdu_at
  asdus_step p q vs more is =
      let h = bind_ok (required_at 0x30 octets p e) (λ h. asdu_in tt octets h >>= λ x. Ok (x, h.contents_to)) (vs, q) is in
      let x = bind_ok (asdu_in tt octets h.0) (λ x. Ok (x, h.0.contents_to)) (vs, q) h.2 in
      let same = pair_is x.0 vs h.0.contents_to q x.2 in
      behind_header p h.0 x.0 more h.1 x.1 ∙ ap₂ (λ (ws : List (Option Item)) (r : ℕ). asdus_at octets r e >>= λ xs. Ok (ws ∷ xs)) (sym same.0) (sym same.1)

  -- an ASDU at fault
  pub asdus_stop : (p : ℕ) (f : Fault) → p < e → asdu_at octets p e ≡ Err f → asdus_at octets p e ≡ Err f
  unfolding asdu_at asdus_at
  asdus_stop p f more is =
      let one = each_step asdu_grammar asdu_in asdu_sound 0x30 tt refl octets e within p more in
      elim (bind_err (required_at 0x30 octets p e) (λ h. asdu_in tt octets h >>= λ x. Ok (x, h.contents_to)) f is) [
        | inl w ↦ one ∙ rw w refl
        | inr h ↦ elim (bind_err (asdu_in tt octets h.0) (λ x. Ok (x, h.0.contents_to)) f h.2) [
          | inl w ↦ one ∙ rw (h.1, w) refl
          | inr x ↦ absurd (let wrong = x.2 in cc)
        ]
      ]

  -- no ASDU is left
  pub asdus_end : (p : ℕ) → e ≤ p → asdus_at octets p e ≡ Ok []
  unfolding asdus_at
  asdus_end p done = each_done asdu_grammar asdu_in asdu_sound 0x30 tt refl octets e within p done

-- ---- a loop over them

abbrev pub with_front : List (List (Option Item)) → Result (List (List (Option Item))) Fault → Result (List (List (Option Item))) Fault
with_front front read = read >>= λ vss. Ok (front ++ vss)

none_before : (r : Result (List (List (Option Item))) Fault) → r ≡ with_front [] r
none_before (Ok vss) = refl
none_before (Err f) = refl

regroup : (front : List (List (Option Item))) (vs : List (Option Item)) (read : Result (List (List (Option Item))) Fault) → with_front front (read >>= λ vss. Ok (vs ∷ vss)) ≡ with_front (front ++ vs ∷ []) read
regroup front vs (Ok vss) = ap (λ (x : List (List (Option Item))). Ok x) (sym (append_assoc front (vs ∷ []) vss))
regroup front vs (Err f) = refl

one_more : {A : Type 0} (xs : List (Asdu A)) (a : Asdu A) → items_of_each (xs ++ a ∷ []) ≡ items_of_each xs ++ asdu_items a ∷ []
one_more [] a = refl
one_more (x ∷ xs) a = ap (λ (y : List (List (Option Item))). asdu_items x ∷ y) (one_more xs a)

one_written : {A : Type 0} (xs : List (Asdu A)) (a : Asdu A) → written_asdus (xs ++ a ∷ []) ≡ written_asdus xs ++ written_asdu a
one_written [] a = append-nil (written_asdu a)
one_written (x ∷ xs) a = ap (λ (y : List ℕ). written_asdu x ++ y) (one_written xs a) ∙ sym (append_assoc (written_asdu x) (written_asdus xs) (written_asdu a))

-- The ASDUs up to place are read, and there are so many: with those that are still read they are all. They stand in their
-- written form where this is told.
pub record Counts (octets : List ℕ) (at end place count : ℕ) (written : Bool) : Type 0 where
  pub done : List (Asdu (Unit {0}))
  pub counted : length done ≡ count
  pub few : count + at ≤ place
  pub order : place ≤ end
  pub goes : asdus_at octets at end ≡ with_front (items_of_each done) (asdus_at octets place end)
  pub stand : written ≡ true → slice_range octets at place ≡ written_asdus done

module _ (octets : List ℕ) (at end : ℕ) (within : end ≤ length octets) where
  pub counts_none : (written : Bool) → at ≤ end → Counts octets at end at 0 written
  counts_none written order = record { done = []; counted = refl; few = omega arith; order = order; goes = none_before (asdus_at octets at end); stand = λ _. nothing octets at at (omega arith) }

  pub counts_on : (place next count : ℕ) (written stands : Bool) (a : Asdu (Unit {0})) → place < end → place < next → next ≤ end → asdu_at octets place end ≡ Ok (asdu_items a, next)
      → (stands ≡ true → slice_range octets place next ≡ written_asdu a) → Counts octets at end place count written → Counts octets at end next (count + 1) (written && stands)
  counts_on place next count written stands a more later order is stand so_far = record {
    done = so_far.done ++ a ∷ [];
    counted = omega (arith, length-append so_far.done (a ∷ []), so_far.counted);
    few = omega (arith, so_far.few);
    order = order;
    goes = so_far.goes ∙ ap (with_front (items_of_each so_far.done)) (asdus_step octets end within place next (asdu_items a) more is) ∙ regroup (items_of_each so_far.done) (asdu_items a) (asdus_at octets next end)
        ∙ ap (λ (x : List (List (Option Item))). with_front x (asdus_at octets next end)) (sym (one_more so_far.done a));
    stand = λ t.
        let both = and_parts written stands t in
        join octets at place next (omega (arith, so_far.few)) (omega (arith, later)) (so_far.stand both.0) (stand both.1) ∙ sym (one_written so_far.done a);
  }

  pub counts_stop : (place count : ℕ) (written : Bool) (f : Fault) → place < end → asdu_at octets place end ≡ Err f → Counts octets at end place count written → asdus_at octets at end ≡ Err f
  counts_stop place count written f more is so_far = so_far.goes ∙ ap (with_front (items_of_each so_far.done)) (asdus_stop octets end within place f more is)

  pub counts_all : (place count : ℕ) (written : Bool) → end ≤ place → Counts octets at end place count written
      → (xs : List (Asdu (Unit {0}))) × (asdus_at octets at end ≡ Ok (items_of_each xs)) × (length xs ≡ count) × (written ≡ true → slice_range octets at end ≡ written_asdus xs)
  counts_all place count written done so_far =
      let there : place ≡ end = omega (arith, done, so_far.order) in
      (so_far.done, so_far.goes ∙ ap (with_front (items_of_each so_far.done)) (asdus_end octets end within place done) ∙ ap (λ (x : List (List (Option Item))). Ok x) (append-nil (items_of_each so_far.done)), so_far.counted, λ t. ap (slice_range octets at) (sym there) ∙ so_far.stand t)

-- ---- ASDUs that are known to stand somewhere

pub no_asdus : {A : Type 0} (octets : List ℕ) (p e : ℕ) → e ≤ length octets → e ≤ p → asdus_in {A = A} octets p e ≡ []
no_asdus octets p e within done = rw (asdus_end octets e within p done) refl

module _ (octets : List ℕ) (p e : ℕ) (within : e ≤ length octets) (more : p < e) (good : AreAsdus octets p e) where
  -- the first can be read
  pub first_reads : (f : Fault) → asdu_at octets p e ≡ Err f → ⊥
  first_reads f is = let read = sym good ∙ ap are_read (asdus_stop octets e within p f more is) in cc

  pub first_is_read : IsOk (asdu_at octets p e)
  first_is_read =
      elim (result_cases (asdu_at octets p e)) [
        | inl (x, r) ↦ rw r refl
        | inr (f, r) ↦ absurd (first_reads f r)
      ]

  -- and others stand behind it
  pub first_and_rest : {A : Type 0} (vs : List (Option Item)) (q : ℕ) → asdu_at octets p e ≡ Ok (vs, q) → AreAsdus octets q e × (asdus_in {A = A} octets p e ≡ asdu_of_items vs ∷ asdus_in octets q e)
  first_and_rest {A = A} vs q is =
      let one = asdus_step octets e within p q vs more is in
      elim (result_cases (asdus_at octets q e)) [
        | inl (vss, r) ↦
            let all : asdus_at octets p e ≡ Ok (vs ∷ vss) = one ∙ rw r refl in
            (rw r refl, rw (all, r) refl)
        | inr (f, r) ↦
            let none : asdus_at octets p e ≡ Err f = one ∙ rw r refl in
            absurd (let wrong = sym good ∙ ap are_read none in cc)
      ]

-- Reading of a UtcTime: what is read is spelled so, what is spelled so is read; and the same of faults.
use Rattle.std.proofs.Common.{◌≡◌, ℕ, ◌+◌, eqb, List, [], ◌∷◌, ◌++◌, length, take, drop, slice_index, Ok, Err, refl, sym, ap, ◌∙◌, arith, inl, inr}
use Rattle.std.proofs.lemmas.List.{length-append, length-take, length-drop, take-append-drop, drop-drop, drop_at}
use Rattle.std.proofs.lemmas.Bool.{eqb-true, eqb-false, eq-eqb, ne_eqb}
use Rattle.ber_core.specs.Contents.{CountedFault}
use Rattle.byteorder.specs.Endian.{big_number}
use Rattle.byteorder.specs.Numbers.{big_from-take, big_from-append}
use Rattle.ber_core.specs.declared.fault.Fault.{Fault}
use Rattle.ber_core.specs.declared.fault.Cause.TheVariants as causes
use Rattle.ber_core.proofs.Steps.{chosen, fault_is}
use Rattle.mms_data.specs.Utc.{SpellsUtc, utc_of}
use Rattle.mms_data.specs.computed.UtcReading.{utc_at}
use Rattle.mms_data.specs.declared.time.UtcTime.{UtcTime}

-- the last of eight octets
last_of : (c : List ℕ) → length c ≡ 8 → drop 7 c ≡ slice_index c 7 ∷ []
last_of (a ∷ b ∷ c ∷ d ∷ e ∷ f ∷ g ∷ h ∷ []) size = refl
last_of [] size = absurd (omega (arith, size))
last_of (a ∷ []) size = absurd (omega (arith, size))
last_of (a ∷ b ∷ []) size = absurd (omega (arith, size))
last_of (a ∷ b ∷ c ∷ []) size = absurd (omega (arith, size))
last_of (a ∷ b ∷ c ∷ d ∷ []) size = absurd (omega (arith, size))
last_of (a ∷ b ∷ c ∷ d ∷ e ∷ []) size = absurd (omega (arith, size))
last_of (a ∷ b ∷ c ∷ d ∷ e ∷ f ∷ []) size = absurd (omega (arith, size))
last_of (a ∷ b ∷ c ∷ d ∷ e ∷ f ∷ g ∷ []) size = absurd (omega (arith, size))
last_of (a ∷ b ∷ c ∷ d ∷ e ∷ f ∷ g ∷ h ∷ i ∷ more) size = absurd (omega (arith, size))

-- eight octets spell the time that is computed from them
pub eight_spell : (c : List ℕ) → length c ≡ 8 → SpellsUtc (utc_of c) c
eight_spell c size =
    let four : length (take 4 c) ≡ 4 = omega (arith, length-take 4 c) in
    let three : length (take 3 (drop 4 c)) ≡ 3 = omega (arith, length-take 3 (drop 4 c), length-drop 4 c) in
    let behind : drop 3 (drop 4 c) ≡ slice_index c 7 ∷ [] = drop-drop 3 4 c ∙ last_of c size in
    let rest : drop 4 c ≡ take 3 (drop 4 c) ++ (slice_index c 7 ∷ []) = sym (take-append-drop 3 (drop 4 c)) ∙ ap (λ (x : List ℕ). take 3 (drop 4 c) ++ x) behind in (
      take 4 c,
      take 3 (drop 4 c),
      four,
      three,
      ap (λ (n : ℕ). big_number n (take 4 c)) four ∙ big_from-take 0 4 4 c (omega arith),
      ap (λ (n : ℕ). big_number n (take 3 (drop 4 c))) three ∙ big_from-take 0 3 3 (drop 4 c) (omega arith),
      sym (take-append-drop 4 c) ∙ ap (λ (x : List ℕ). take 4 c ++ x) rest,
    )

-- what is spelled is eight octets, from which the time is computed
spelled_eight : (t : UtcTime) (c : List ℕ) → SpellsUtc t c → (length c ≡ 8) × (utc_of c ≡ t)
spelled_eight t c (seconds, fraction, four, three, s, f, parts) =
    let back = fraction ++ t.quality ∷ [] in
    let size : length c ≡ 8 = omega (arith, ap length parts, length-append seconds back, length-append fraction (t.quality ∷ []), four, three) in
    let behind : drop 4 c ≡ back = ap (drop 4) parts ∙ drop_at seconds back 4 four in
    let front : big_number 4 c ≡ t.seconds = ap (big_number 4) parts ∙ big_from-append 4 seconds back (omega (arith, four)) ∙ ap (λ (n : ℕ). big_number n seconds) (sym four) ∙ s in
    let middle : big_number 3 (drop 4 c) ≡ t.fraction = ap (big_number 3) behind ∙ big_from-append 3 fraction (t.quality ∷ []) (omega (arith, three)) ∙ ap (λ (n : ℕ). big_number n fraction) (sym three) ∙ f in
    let tail : (slice_index c 7 ∷ []) ≡ t.quality ∷ [] = sym (last_of c size) ∙ sym (drop-drop 3 4 c) ∙ ap (drop 3) behind ∙ drop_at fraction (t.quality ∷ []) 3 three in
    let last : slice_index c 7 ≡ t.quality = cc in
    (size, rw (front, middle, last) refl)

module _ (at : ℕ) (c : List ℕ) where
  pub utc_found : (t : UtcTime) → utc_at at c ≡ Ok t → SpellsUtc t c
  unfolding utc_at
  utc_found t e = elim (chosen (eqb (length c) 8) _ _ _ e) [
    | inl x ↦ let same : utc_of c ≡ t = (let is = x.1 in cc) in rw (sym same) (eight_spell c (eqb-true (length c) 8 x.0))
    | inr x ↦ absurd (let wrong = x.1 in cc)
  ]

  pub utc_again : (t : UtcTime) → SpellsUtc t c → utc_at at c ≡ Ok t
  unfolding utc_at
  utc_again t s = let x = spelled_eight t c s in rw (eq-eqb (length c) 8 x.0) (ap (λ (y : UtcTime). Ok y) x.1)

  pub utc_wrong : (f : Fault) → utc_at at c ≡ Err f → CountedFault f 8 at c
  unfolding utc_at
  utc_wrong f e = elim (chosen (eqb (length c) 8) _ _ _ e) [
    | inl x ↦ absurd (let wrong = x.1 in cc)
    | inr x ↦ (eqb-false (length c) 8 x.0, fault_is {A = UtcTime} (at + 1) causes.FixedLength f x.1)
  ]

  pub utc_wrong_again : (f : Fault) → CountedFault f 8 at c → utc_at at c ≡ Err f
  unfolding utc_at
  utc_wrong_again f (n, is) = rw (ne_eqb (length c) 8 n, is) refl

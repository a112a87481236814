-- Booleans of three octets: an identifier, a length of 1, and one octet of contents.
use Rattle.std.proofs.Common.{◌≡◌, ℕ, suc, ◌+◌, ◌-◌, ◌<◌, ◌≤◌, List, [], ◌∷◌, ◌++◌, Result, Ok, refl, sym, ap, ap₂, ◌∙◌, arith, inl, inr}
use Rattle.std.specs.Prelude.{◌==◌, ◌⊎◌, not, slice_range}
use Rattle.ber_core.specs.declared.fault.Fault.{Fault}
use Rattle.ber_core.specs.Written.{short_length, written_element}
use Rattle.ber_core.specs.computed.ContentsReading.{boolean_at}
use Rattle.ber_core.proofs.Regions.{region-split}
use Rattle.ber_core.proofs.Steps.{pair_is}
use Rattle.mms_data.specs.Data.{Data, boolean, simple}
use Rattle.mms_data.specs.Written.{written}
use Rattle.mms_data.specs.computed.ContentsReading.{simple_at}
use Rattle.mms_data.specs.computed.Left.{less}
use Rattle.mms_data.specs.computed.Reading.{member_at}
use Rattle.mms_data.specs.declared.kinds.Kind.TheVariants.{Simple as of_kind}
use Rattle.mms_data.specs.declared.kinds.SimpleKind.TheVariants.{Boolean}
use Rattle.mms_data.proofs.Again.{member_is}

-- the member that such octets begin with
boolean_here : (depth p n : ℕ) (rest : List ℕ) → member_at (suc depth) p (0x83 ∷ 1 ∷ n ∷ rest) ≡ Ok (simple (boolean (not (n == 0))), p + 1 + 1 + 1)
unfolding simple_at boolean_at
boolean_here depth p n rest = member_is depth p (of_kind Boolean) (1 ∷ []) (n ∷ []) rest (inl (refl, refl, omega arith))

-- its written form
boolean_written : (n : ℕ) → (n ≡ 0) ⊎ (n ≡ 255) → 0x83 ∷ 1 ∷ n ∷ [] ≡ written (simple (boolean (not (n == 0))))
unfolding written_element short_length
boolean_written n (inl zero_is) = rw zero_is refl
boolean_written n (inr full) = rw full refl

module _ (depth at : ℕ) (octets : List ℕ) (end n : ℕ) (some : 0 < depth) (next : at + 3 ≤ end) (there : slice_range octets at (at + 3) ≡ 0x83 ∷ 1 ∷ n ∷ []) where
  boolean_at_front : member_at depth at (slice_range octets at end) ≡ Ok (simple (boolean (not (n == 0))), at + 3)
  boolean_at_front =
      let level : depth ≡ suc (depth - 1) = omega (arith, some) in
      let parts : slice_range octets at end ≡ 0x83 ∷ 1 ∷ n ∷ slice_range octets (at + 3) end =
      region-split octets at (at + 3) end (omega arith) next ∙ ap (λ (l : List ℕ). l ++ slice_range octets (at + 3) end) there in
      let behind : at + 1 + 1 + 1 ≡ at + 3 = omega arith in
      ap₂ (λ (m : ℕ) (o : List ℕ). member_at m at o) level parts ∙ boolean_here (depth - 1) at n (slice_range octets (at + 3) end)
      ∙ ap (λ (q : ℕ). Ok (simple (boolean (not (n == 0))), q)) behind

  -- the place after it
  pub boolean_passed : Ok (at + 3) ≡ less (λ (x : Data × ℕ). x.1) (member_at depth at (slice_range octets at end))
  boolean_passed = sym (ap (λ (r : Result (Data × ℕ) Fault). less (λ (x : Data × ℕ). x.1) r) boolean_at_front)

  -- it stands in its written form, where its octet is 0 or FF
  pub boolean_stands : (n ≡ 0) ⊎ (n ≡ 255) → (d : Data) → member_at depth at (slice_range octets at end) ≡ Ok (d, at + 3) → slice_range octets at (at + 3) ≡ written d
  boolean_stands plain d is =
      let same = pair_is (simple (boolean (not (n == 0)))) d (at + 3) (at + 3) (sym boolean_at_front ∙ is) in
      there ∙ boolean_written n plain ∙ ap written (sym same.0)

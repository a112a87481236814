-- What is kept without memory of its own.
use Rattle.std.proofs.Common.{◌≡◌, ℕ, ◌-◌, ◌≤◌, true, false, List, [], ◌∷◌, refl, sym, ap, ◌∙◌, arith}
use Rattle.std.specs.Prelude.{slice_range}
use Rattle.mms_data.specs.Data.{Data, no_items, items_of}
use Rattle.mms_data.specs.Spelling.{SpellsAll}
use Rattle.mms_data.proofs.Front.{one_value}

-- memory was not refused
pub refused : {P : Type 0} → false ≡ true → P
refused e = absurd (cc)

-- no items are those of no members
pub no_items_of : (ds : List Data) → items_of ds ≡ no_items → ds ≡ []
no_items_of [] e = refl
no_items_of (d ∷ ds) e = absurd (cc)

-- an empty region spells no members, and no others
pub empty_region : (octets : List ℕ) (at : ℕ) → slice_range octets at at ≡ []
empty_region octets at = let none : at - at ≡ 0 = omega arith in rw none refl

pub none_in : (octets : List ℕ) (at end L : ℕ) (ds : List Data) → L ≤ 17 → at ≡ end → SpellsAll ds L (slice_range octets at end) → ds ≡ []
none_in octets at end L ds last same s = one_value L last (slice_range octets at end) ds [] s (ap (slice_range octets at) (sym same) ∙ empty_region octets at)

pub spells_none : (octets : List ℕ) (at end L : ℕ) → at ≡ end → SpellsAll [] L (slice_range octets at end)
spells_none octets at end L same = ap (slice_range octets at) (sym same) ∙ empty_region octets at

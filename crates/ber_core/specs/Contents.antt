-- What the contents of one element spell, kind by kind (ISO/IEC 8825-1, 8.2, 8.3 and 8.23), and their fault where they
-- spell nothing of the kind. In each fault the element begins at the place at, so that its length stands at at + 1;
-- its contents c begin at the place from.
use Rattle.std.specs.Prelude.{◌≡◌, ◌≢◌, ◌≤◌, ◌<◌, ◌≤ℤ◌, ◌+◌, ◌==◌, ℕ, ℤ, Bool, not, List, [], ◌∷◌, ◌++◌, length, ◌&&◌, nat_le}
use Rattle.std.specs.Borrow.{Bor}
use Rattle.std.specs.List.{AllByRecursion}
use Rattle.ber_core.specs.Integer.{Int}
use Rattle.ber_core.specs.Element.{contents_of}
use Rattle.ber_core.specs.Faults.{fault_of}
use Rattle.ber_core.specs.declared.element.Header.{Header}
use Rattle.ber_core.specs.declared.fault.Fault.{Fault}
use Rattle.ber_core.specs.declared.fault.Cause.TheVariants as causes

-- c is one octet, 0 for false and any other for true (ISO/IEC 8825-1, 8.2)
abbrev pub SpellsBoolean : Bool → List ℕ → Type 0
SpellsBoolean b c = (n : ℕ) × (c ≡ n ∷ []) × (b ≡ not (n == 0))

-- contents of another count of octets than one spell no boolean: the fault is at the length
abbrev pub BooleanFault : Fault → ℕ → List ℕ → Type 0
BooleanFault f at c = (length c ≢ 1) × (f ≡ fault_of (at + 1) causes.BooleanLength)

-- c is a spelling of the integer n, which lies between low and high (ISO/IEC 8825-1, 8.3)
abbrev pub SpellsInteger : ℤ → ℤ → ℤ → List ℕ → Type 0
SpellsInteger low high n c = (low ≤ℤ n) × (n ≤ℤ high) × Int n c

-- contents of no octet, or of more than nine, spell no integer: the fault is at the length; or they spell one outside
-- its range: the fault is at the contents
pub data IntegerFault (f : Fault) (low high : ℤ) (at from : ℕ) (c : List ℕ) : Type 0 where
  no_octet : length c ≡ 0 → f ≡ fault_of (at + 1) causes.IntegerLength → IntegerFault f low high at from c
  over_nine : 9 < length c → f ≡ fault_of (at + 1) causes.IntegerLength → IntegerFault f low high at from c
  outside : (n : ℤ) → Int n c → ¬ ((low ≤ℤ n) × (n ≤ℤ high)) → f ≡ fault_of from causes.IntegerRange → IntegerFault f low high at from c

-- a visible octet is one from the space to the tilde
abbrev pub IsVisible : ℕ → Type 0
IsVisible x = (0x20 ≤ x) × (x ≤ 0x7e)

-- whether an octet is visible, as a test
abbrev pub is_visible : ℕ → Bool
is_visible x = nat_le 0x20 x && nat_le x 0x7e

-- each of the octets is visible
abbrev pub AreVisible : List ℕ → Type 0
AreVisible o = AllByRecursion IsVisible o

-- c is the text itself, and each of its octets is visible (ISO/IEC 8825-1, 8.23)
abbrev pub SpellsVisible : List ℕ → List ℕ → Type 0
SpellsVisible text c = (c ≡ text) × AreVisible text

-- the fault of a text is its first octet that is not visible
abbrev pub VisibleFault : Fault → ℕ → List ℕ → Type 0
VisibleFault f from c = (a b : List ℕ) × (x : ℕ) × (c ≡ a ++ x ∷ b) × AreVisible a × ¬ IsVisible x × (f ≡ fault_of (from + length a) causes.NotVisible)

-- c is these octets, and their count is the stated one
abbrev pub SpellsCounted : ℕ → List ℕ → List ℕ → Type 0
SpellsCounted count octets c = (c ≡ octets) × (length octets ≡ count)

-- contents of another count of octets than the stated one are at fault: at the length
abbrev pub CountedFault : Fault → ℕ → ℕ → List ℕ → Type 0
CountedFault f count at c = (length c ≢ count) × (f ≡ fault_of (at + 1) causes.FixedLength)

-- the slice is the contents behind the header, in the source's own memory
pub record IsContents (slice source : Bor (List ℕ)) (h : Header) : Type 0 where
  pub block : slice.ref_ptr.0 ≡ source.ref_ptr.0
  pub place : slice.ref_ptr.1 ≡ h.contents_from + source.ref_ptr.1
  pub octets : slice.now ≡ contents_of source.now h

-- The spellings of an element (ISO/IEC 8825-1, 8.1.2), and where one stands.
use Rattle.std.specs.Prelude.{◌≡◌, ◌≢◌, ◌≤◌, ◌%◌, ℕ, List, ◌∷◌, ◌++◌, length, slice_range}
use Rattle.ber_core.specs.Length.{Len}
use Rattle.ber_core.specs.declared.element.Header.{Header}

-- an identifier of one octet: its low five bits are not all ones
abbrev pub IsIdentifier : ℕ → Type 0
IsIdentifier id = id % 32 ≢ 31

-- o is the element of this identifier and these contents: the identifier, their length in any spelling, the contents
pub record Elem (id : ℕ) (contents o : List ℕ) : Type 0 where
  pub identifier : IsIdentifier id
  pub size : List ℕ
  pub sized : Len (length contents) size
  pub parts : o ≡ id ∷ size ++ contents

-- the contents of the element behind a header
abbrev pub contents_of : List ℕ → Header → List ℕ
contents_of octets h = slice_range octets h.contents_from h.contents_to

-- an element stands at this place, inside the region that ends at end, and the header says where
pub record IsHeader (octets : List ℕ) (at end : ℕ) (h : Header) : Type 0 where
  pub here : h.at ≡ at
  pub inside : h.contents_to ≤ end
  pub ordered : h.contents_from ≤ h.contents_to
  pub element : Elem h.identifier (contents_of octets h) (slice_range octets at h.contents_to)

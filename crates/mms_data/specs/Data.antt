-- Values of Data (ISO 9506-2): what a `Value` and a `View` of the code stand for.
use Rattle.std.specs.Prelude.{ℕ, ℤ, Bool, List, [], ◌∷◌}
use Rattle.mms_data.specs.declared.time.UtcTime.{UtcTime}

-- a value without members, by its kind; bits are the count of the unused ones and the octets
pub data Simple : Type 0 where
  boolean : Bool → Simple
  bits : ℕ → List ℕ → Simple
  integer : ℤ → Simple
  unsigned : ℕ → Simple
  floating : List ℕ → Simple
  octets : List ℕ → Simple
  visible : List ℕ → Simple
  binary_time : List ℕ → Simple
  mms_text : List ℕ → Simple
  utc : UtcTime → Simple

mutual
  -- a simple value, or members in their order
  pub data Data : Type 0 where
    simple : Simple → Data
    array : Items → Data
    structure : Items → Data

  -- the members of an array or a structure, one after the other
  pub data Items : Type 0 where
    no_items : Items
    item : Data → Items → Items

-- a list of values as the members of an array or a structure
abbrev pub items_of : List Data → Items
items_of [] = no_items
items_of (d ∷ ds) = item d (items_of ds)

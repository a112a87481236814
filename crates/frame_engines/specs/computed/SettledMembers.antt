-- Members whose array is settled: no float stands in them at any depth, so that there is one text of it.
use Rattle.std.specs.Prelude.{ℕ, Bool, true, false, ◌&&◌, List, [], ◌∷◌, codes}
use Rattle.std.specs.Fmt.{decimal, signed_decimal}
use Rattle.mms_data.specs.Data.{Simple, boolean, bits, integer, unsigned, floating, octets, visible, binary_time, mms_text, utc, Data, simple, array, structure, Items, no_items, item, items_of}
use Rattle.text_core.specs.Pieces.{bits_text, boolean_text, quoted}
use Rattle.object_core.specs.MemberObject.{one_field}
use Rattle.object_core.specs.Objects as objects
use Rattle.object_core.specs.Objects.{object, octets_value, in_quotes}
use Rattle.object_core.specs.Times.{time_fields}

-- a value without members is settled unless it is a float
abbrev pub simple_is_settled : Simple → Bool
simple_is_settled (boolean b) = true
simple_is_settled (bits unused os) = true
simple_is_settled (integer z) = true
simple_is_settled (unsigned n) = true
simple_is_settled (floating os) = false
simple_is_settled (octets os) = true
simple_is_settled (binary_time os) = true
simple_is_settled (mms_text os) = true
simple_is_settled (utc t) = true
simple_is_settled (visible os) = true

abbrev mutual
  -- an array and a structure are settled as their members are
  pub is_settled : Data → Bool
  is_settled (simple s) = simple_is_settled s
  is_settled (array ds) = items_are_settled ds
  is_settled (structure ds) = items_are_settled ds

  -- all of these are
  pub items_are_settled : Items → Bool
  items_are_settled no_items = true
  items_are_settled (item d ds) = is_settled d && items_are_settled ds

-- all members are
abbrev pub are_settled : List Data → Bool
are_settled ds = items_are_settled (items_of ds)

-- the text of a value without members, where it is settled
abbrev pub simple_object : Simple → List ℕ
simple_object (boolean b) = boolean_text b
simple_object (bits unused os) = one_field (codes "bits") (in_quotes (bits_text unused os))
simple_object (integer z) = one_field (codes "int") (signed_decimal z)
simple_object (unsigned n) = one_field (codes "uint") (decimal n)
simple_object (floating os) = []
simple_object (octets os) = one_field (codes "oct") (octets_value os)
simple_object (binary_time os) = one_field (codes "btime") (octets_value os)
simple_object (mms_text os) = one_field (codes "mms") (octets_value os)
simple_object (utc t) = object (time_fields (codes "utc") (codes "time") (codes "quality") t)
simple_object (visible os) = quoted os

abbrev mutual
  -- of a value
  pub member_object : Data → List ℕ
  member_object (simple s) = simple_object s
  member_object (array ds) = one_field (codes "array") (objects.array (item_objects ds))
  member_object (structure ds) = one_field (codes "structure") (objects.array (item_objects ds))

  -- of each member
  pub item_objects : Items → List (List ℕ)
  item_objects no_items = []
  item_objects (item d ds) = member_object d ∷ item_objects ds

-- the array of members, where they are settled
abbrev pub settled_array : List Data → List ℕ
settled_array ds = objects.array (item_objects (items_of ds))

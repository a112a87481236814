-- How many values stand inside a value.
use Rattle.std.specs.Prelude.{ℕ, ◌+◌, List}
use Rattle.mms_data.specs.Data.{Data, simple, array, structure, Items, no_items, item, items_of}

abbrev mutual
  -- inside a value
  pub weight : Data → ℕ
  weight (simple s) = 0
  weight (array ds) = weight_of_items ds
  weight (structure ds) = weight_of_items ds

  -- members, and inside them
  pub weight_of_items : Items → ℕ
  weight_of_items no_items = 0
  weight_of_items (item d ds) = 1 + weight d + weight_of_items ds

-- the same of a list
abbrev pub weight_of_all : List Data → ℕ
weight_of_all ds = weight_of_items (items_of ds)

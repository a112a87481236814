-- The lines of the control blocks that `replay` takes of a file.
use Rattle.std.specs.Prelude.{ℕ, ◌+◌, List, [], ◌∷◌, ◌++◌, codes, filter}
use Rattle.std.specs.Fmt.{decimal}
use Rattle.engine_core.specs.declared.style.Style.{Style}
use Rattle.engine_core.specs.EventsText.{line_in}
use Rattle.inventory_engine.specs.declared.listed_block.ListedBlock.{ListedBlock}

-- a control block at its position among those that are subscribed to: a line with its BLOCK
abbrev pub subscribed_line : {A : Type 0} → ℕ → ListedBlock A → List ℕ
subscribed_line position block = codes "subscribed " ++ (decimal position ++ (codes " " ++ (block.text ++ codes "\n")))

-- or an object with the fields of `blocks`
abbrev pub subscribed_object : {A : Type 0} → ℕ → ListedBlock A → List ℕ
subscribed_object position block = codes "{\"kind\":\"subscribed\",\"block\":" ++ (decimal position ++ (block.fields ++ codes "}\n"))

-- the same in a style
abbrev pub subscribed_in : {A : Type 0} → Style → ℕ → ListedBlock A → List ℕ
subscribed_in style position block = line_in style (subscribed_line position block) (subscribed_object position block)

-- those of several, from this position on
abbrev pub subscribed_from : {A : Type 0} → Style → ℕ → List (ListedBlock A) → List ℕ
subscribed_from style position [] = []
subscribed_from style position (block ∷ blocks) = subscribed_in style position block ++ subscribed_from style (position + 1) blocks

-- those that a BLOCK can name
abbrev pub named_in : {A : Type 0} → List (ListedBlock A) → List (ListedBlock A)
named_in listed = filter (λ block. block.is_named) listed

-- what is written of the control blocks that are listed: the lines of those that a BLOCK can name
abbrev pub subscribed_text : {A : Type 0} → Style → List (ListedBlock A) → List ℕ
subscribed_text style listed = subscribed_from style 0 (named_in listed)

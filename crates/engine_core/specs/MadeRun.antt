-- An input of which something is made of each item.
use Rattle.std.specs.Prelude.{◌≡◌, ℕ, List, map, Some, None, Ok, Err}
use Rattle.list_core.specs.declared.device.InputEnd.{InputEnd}
use Rattle.list_core.specs.Items.{Numbered}
use Rattle.list_core.specs.ReadItems.{AnswerOf}
use Rattle.engine_core.specs.Input.{Input}

-- what is made of each of these items, under their numbers
abbrev pub each_made : {X : Type 0} → (X → X) → List (ℕ × X) → List (ℕ × X)
each_made make items = map (λ e. (e.0, make e.1)) items

-- the same of items and how they stop
abbrev pub with_each : {X F : Type 0} → (X → X) → Numbered X F → Numbered X F
with_each make l = record { items = each_made make l.items; stop = l.stop }

-- an answer with this made of its item
abbrev pub answer_made : {X F : Type 0} → (X → X) → AnswerOf X F → AnswerOf X F
answer_made make (Ok (Some e)) = Ok (Some (e.0, make e.1))
answer_made make (Ok None) = Ok None
answer_made make (Err f) = Err f

-- an input stands so of which these are made
pub record StandsMade {X C F : Type 0} (input : Input X C F) (make : X → X) (z : InputEnd) (read : List ℕ) (items : List (ℕ × X)) (answer : AnswerOf X F) : Type 0 where
  pub said : List (ℕ × X)
  pub are_made : items ≡ each_made make said
  pub told : AnswerOf X F
  pub is_made : answer ≡ answer_made make told
  pub stands : input.stands z read said told

-- the input with this made of each of its items
abbrev pub made : {X C F : Type 0} → (X → X) → Input X C F → Input X C F
made make input = record { says = λ z read. with_each make (input.says z read); stands = λ z read items answer. StandsMade input make z read items answer; faults = input.faults }

-- What follows a text at the start of another.
use Rattle.std.specs.Prelude.{◌≡◌, ℕ, List, ◌++◌, Option, Some, None}
use Rattle.std.specs.Borrow.{Bor}

-- what follows this front of a text, or the text does not begin with it
abbrev pub IsAfter : List ℕ → List ℕ → Option (Bor (List ℕ)) → Type 0
IsAfter text front None = (rest : List ℕ) → text ≡ front ++ rest → ⊥
IsAfter text front (Some rest) = text ≡ front ++ rest.now

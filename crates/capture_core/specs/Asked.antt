-- When a source is asked for octets.
use Rattle.std.specs.Prelude.{◌≡◌, ◌≢◌, ◌⊎◌, ℕ, List, [], ◌++◌}
use Rattle.list_core.specs.declared.device.InputEnd.{InputEnd}

-- octets were asked for only while this was so of those given before: of each front of them behind which others were given, and of all where the source then told another ending
abbrev pub OnlyWhile : (List ℕ → Type 0) → List ℕ → InputEnd → InputEnd → Type 0
OnlyWhile IsOpen given z w = (front rest : List ℕ) → given ≡ front ++ rest → (rest ≢ []) ⊎ (w ≢ z) → IsOpen front

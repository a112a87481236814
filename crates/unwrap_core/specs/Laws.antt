-- What the definitions say together.
use Rattle.std.specs.Prelude.{◌≡◌, ℕ, List}
use Rattle.unwrap_core.specs.Unwrapped.{IsBare, TakesOut, Unwraps, unwrapped}

-- what is left of a frame where tags are taken out until there is none is one, and it is computed
abbrev pub UnwrappedIsOne : Type 0
UnwrappedIsOne = (o u : List ℕ) → Unwraps o u → u ≡ unwrapped o

-- there is such for each frame
abbrev pub EachIsUnwrapped : Type 0
EachIsUnwrapped = (o : List ℕ) → Unwraps o (unwrapped o)

-- it has no tag left that is taken out
abbrev pub UnwrappedIsBare : Type 0
UnwrappedIsBare = (o : List ℕ) → IsBare (unwrapped o)

-- and a frame without one is left as it is
abbrev pub BareIsLeft : Type 0
BareIsLeft = (o : List ℕ) → IsBare o → unwrapped o ≡ o

-- never are two tags to be taken out at once: what is left is the same whichever is taken
abbrev pub TakenOutIsOne : Type 0
TakenOutIsOne = (o p q : List ℕ) → TakesOut o p → TakesOut o q → p ≡ q

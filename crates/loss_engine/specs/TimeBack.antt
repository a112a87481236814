-- Where time goes back: the moment of an event lies a second or more below the greatest one of those before it, and that of the event
-- right before it did not.
use Rattle.std.specs.Prelude.{◌≡◌, ℕ, ◌-◌, nat_le, Bool, true, false, List, [], ◌∷◌, ◌++◌, Option, Some, None}
use Rattle.list_core.specs.declared.event.Event.{Event}
use Rattle.loss_engine.specs.Sights.{greatest_moment}

-- a moment lies far below another: 1,000,000 microseconds or more
abbrev pub is_far_below : ℕ → ℕ → Bool
is_far_below greatest moment = nat_le 1000000 (greatest - moment)

-- an event is far back behind others: its moment lies far below the greatest one of theirs
abbrev pub is_far_back : {A : Type 0} → List (ℕ × Event A) → ℕ × Event A → Bool
is_far_back before e = is_far_below (greatest_moment before) e.1.moment

-- Time goes back at an event behind others by so many microseconds: the event is far back by them, and the last of the others was not.
pub record GoesBack {A : Type 0} (before : List (ℕ × Event A)) (e : ℕ × Event A) (by : ℕ) : Type 0 where
  pub is_far : is_far_back before e ≡ true
  pub is_by : by ≡ greatest_moment before - e.1.moment
  pub is_first : (earlier : List (ℕ × Event A)) (last : ℕ × Event A) → before ≡ earlier ++ last ∷ [] → is_far_back earlier last ≡ false

-- by how much time goes back at an event is told exactly where it does
abbrev pub TellsBack : {A : Type 0} → List (ℕ × Event A) → ℕ × Event A → Option ℕ → Type 0
TellsBack before e None = (by : ℕ) → GoesBack before e by → ⊥
TellsBack before e (Some by) = GoesBack before e by

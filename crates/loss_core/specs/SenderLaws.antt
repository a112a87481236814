-- What the definitions of senders say together.
use Rattle.std.specs.Prelude.{◌≡◌, ◌⊎◌, ◌↔◌, ℕ, ◌+◌, ◌<◌, ◌≤◌, true, Some, List, slice_get}
use Rattle.loss_core.specs.declared.sender.Pair.{Pair}
use Rattle.loss_core.specs.declared.sender.Arrival.{Arrival}
use Rattle.loss_core.specs.declared.sender.Standing.TheVariants.{Newer}
use Rattle.loss_core.specs.declared.sender.Told.{Told}
use Rattle.loss_core.specs.Sender.{AreTold, NoneRestarts, is_above, restarts}
use Rattle.loss_core.specs.Missing.{IsNamed, missing_between}

-- a stretch without a restart from its first frame up to a position
pub record IsStretch (told : List Told) (first i : ℕ) : Type 0 where
  pub order : first ≤ i
  pub begins : (first ≡ 0) ⊎ ((t : Told) × (slice_get told first ≡ Some t) × (restarts t ≡ true))
  pub goes_on : NoneRestarts told first (i + 1)

-- the pair is above those of all frames of a stretch before a position
abbrev pub IsAboveAll : List Arrival → ℕ → ℕ → Pair → Type 0
IsAboveAll frames first i x = (k : ℕ) (f : Arrival) → first ≤ k → k < i → slice_get frames k ≡ Some f → is_above x f.pair ≡ true

-- the pair is of the state of the newest one, which another state followed: nobody knows whether there was such a frame
abbrev pub EndsState : Pair → Pair → Pair → Type 0
EndsState newest came x = (x.state ≡ newest.state) × (newest.state < came.state)

-- the frame at a position is above the newest pair before it
pub record IsNewerAt (frames : List Arrival) (told : List Told) (i : ℕ) (newest came : Pair) : Type 0 where
  pub frame : Arrival
  pub answer : Told
  pub is : slice_get frames i ≡ Some frame
  pub said : slice_get told i ≡ Some answer
  pub newer : answer.standing ≡ Newer newest
  pub has : frame.pair ≡ came

-- What a frame names missing are exactly the pairs below its own that are above those of all frames of its stretch before it, so that none of them came there; the end of a state that another followed aside.
abbrev pub MissingAreNamed : Type 0
MissingAreNamed =
    (frames : List Arrival) (told : List Told) → AreTold frames told → (first i : ℕ) → IsStretch told first i → first < i → (newest came : Pair) → IsNewerAt frames told i newest came
    → (x : Pair) → IsNamed (missing_between newest came) came x ↔ (IsAboveAll frames first i x × (is_above came x ≡ true) × (EndsState newest came x → ⊥))

-- of a pair this frame of a stretch tells: it is its own, or it lies between the newest pair before and its own
pub record IsToldOf (frames : List Arrival) (told : List Told) (first i : ℕ) (x : Pair) : Type 0 where
  pub at : ℕ
  pub behind : first < at
  pub within : at ≤ i
  pub frame : Arrival
  pub is : slice_get frames at ≡ Some frame
  pub how : (frame.pair ≡ x) ⊎ ((newest : Pair) × IsNewerAt frames told at newest frame.pair × (is_above x newest ≡ true) × (is_above frame.pair x ≡ true))

-- Each pair between that of the first frame of a stretch and that of a later one came by then, or lies between two pairs of which the second came above the first: it is named missing there, or the end of a state that another followed.
abbrev pub EachIsTold : Type 0
EachIsTold =
    (frames : List Arrival) (told : List Told) → AreTold frames told → (first i : ℕ) → IsStretch told first i → (begin last : Arrival) → slice_get frames first ≡ Some begin → slice_get frames i ≡ Some last
    → (x : Pair) → is_above x begin.pair ≡ true → is_above last.pair x ≡ true → IsToldOf frames told first i x

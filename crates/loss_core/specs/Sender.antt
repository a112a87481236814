-- What comes of one sender (IEC 61850-8-1: a control block, its real frames or its simulated ones): the newest pair of stNum and
-- sqNum since the last restart, the lifetime that is over or not, and what each frame tells by them. All is said by positions in
-- the list of frames as they came.
use Rattle.std.specs.Prelude.{◌≡◌, ℕ, ◌+◌, ◌<◌, ◌==◌, ◌&&◌, ◌||◌, nat_lt, nat_le, Bool, true, false, is_some, Option, Some, None, List, [], ◌∷◌, ◌++◌, length, slice_get, if◌then◌else◌}
use Rattle.loss_core.specs.declared.sender.Pair.{Pair}
use Rattle.loss_core.specs.declared.sender.Arrival.{Arrival}
use Rattle.loss_core.specs.declared.sender.Standing.{Standing}
use Rattle.loss_core.specs.declared.sender.Standing.TheVariants as standing
use Rattle.loss_core.specs.declared.sender.Told.{Told}
use Rattle.loss_core.specs.declared.sender.Sender.{Sender}

-- a pair is above another: a greater status number, or the same one and a greater sequence number
abbrev pub is_above : Pair → Pair → Bool
is_above a b = nat_lt b.state a.state || (b.state == a.state && nat_lt b.sequence a.sequence)

-- the moment at which the lifetime of a frame is over
abbrev pub deadline_of : Arrival → ℕ
deadline_of a = a.moment + a.lifetime

-- the pair is below the newest one
abbrev pub is_below : Standing → Bool
is_below standing.First = false
is_below (standing.Newer p) = false
is_below standing.Same = false
is_below standing.Below = true

-- the pair is the first one, or above the newest one
abbrev pub is_newer : Standing → Bool
is_newer standing.First = true
is_newer (standing.Newer p) = true
is_newer standing.Same = false
is_newer standing.Below = false

-- the lifetime before was over
abbrev pub was_silent : Told → Bool
was_silent t = is_some t.silent_since

-- the sender was started anew: a pair below the newest one behind a lifetime that was over
abbrev pub restarts : Told → Bool
restarts t = was_silent t && is_below t.standing

-- the frame sets the lifetime: its pair is newer, or the lifetime before was over
abbrev pub sets : Told → Bool
sets t = was_silent t || is_newer t.standing

-- no frame behind one position and before another restarts the sender
abbrev pub NoneRestarts : List Told → ℕ → ℕ → Type 0
NoneRestarts told from to = (k : ℕ) (t : Told) → from < k → k < to → slice_get told k ≡ Some t → restarts t ≡ false

-- the newest pair before a position: that of a frame, none behind which restarts, and above it is no other such frame's
pub record IsNewest (frames : List Arrival) (told : List Told) (i : ℕ) (p : Pair) : Type 0 where
  pub at : ℕ
  pub frame : Arrival
  pub before : at < i
  pub is : slice_get frames at ≡ Some frame
  pub has : frame.pair ≡ p
  pub since : NoneRestarts told at i
  pub greatest : (k : ℕ) (a : Arrival) → k < i → slice_get frames k ≡ Some a → NoneRestarts told k i → is_above a.pair p ≡ false

-- the deadline before a position: that of the last frame before it that sets one
pub record IsDeadline (frames : List Arrival) (told : List Told) (i d : ℕ) : Type 0 where
  pub at : ℕ
  pub frame : Arrival
  pub answer : Told
  pub before : at < i
  pub is : slice_get frames at ≡ Some frame
  pub said : slice_get told at ≡ Some answer
  pub set : sets answer ≡ true
  pub has : deadline_of frame ≡ d
  pub none_later : (k : ℕ) (t : Told) → at < k → k < i → slice_get told k ≡ Some t → sets t ≡ false

-- what is known before a position: nothing before the first, and else the newest pair and the deadline
abbrev pub IsKnown : List Arrival → List Told → ℕ → Option Sender → Type 0
IsKnown frames told i None = i ≡ 0
IsKnown frames told i (Some s) = IsNewest frames told i s.newest × IsDeadline frames told i s.deadline

-- how a pair stands to the newest one
abbrev pub standing_by : Pair → Pair → Standing
standing_by newest p = if is_above p newest then standing.Newer newest else if is_above newest p then standing.Below else standing.Same

-- the lifetime that is over at a moment
abbrev pub over_at : ℕ → ℕ → Option ℕ
over_at deadline moment = if nat_le deadline moment then Some deadline else None

-- what a frame tells by what is known before it
abbrev pub told_after : Option Sender → Arrival → Told
told_after None a = record { silent_since = None; standing = standing.First }
told_after (Some s) a = record { silent_since = over_at s.deadline a.moment; standing = standing_by s.newest a.pair }

-- what frames tell: each by what is known before it
pub record AreTold (frames : List Arrival) (told : List Told) : Type 0 where
  pub sizes : length told ≡ length frames
  pub each : (i : ℕ) (a : Arrival) (t : Told) → slice_get frames i ≡ Some a → slice_get told i ≡ Some t →
      (known : Option Sender) × IsKnown frames told i known × (t ≡ told_after known a)

-- what a frame tells after others
abbrev pub IsToldLast : List Arrival → Arrival → Told → Type 0
IsToldLast frames a t = (told : List Told) × AreTold (frames ++ a ∷ []) (told ++ t ∷ [])

-- what is kept after frames is what is known of them
abbrev pub StandsAfter : List Arrival → Sender → Type 0
StandsAfter frames s = (told : List Told) × AreTold frames told × IsKnown frames told (length frames) (Some s)

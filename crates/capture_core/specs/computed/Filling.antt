-- What reading a stated count of octets answers.
use Rattle.std.specs.Prelude.{◌≡◌, ◌≢◌, ◌<◌, ◌≤◌, ℕ, List, length, take, Option, Bool, true, false, Result, Ok, Err}
use Rattle.std.specs.Io.KnownBytes.{Consumes}
use Rattle.list_core.specs.Device.{GivesOctets, OnlyOpen}
use Rattle.list_core.specs.declared.device.InputEnd.{InputEnd}
use Rattle.list_core.specs.declared.device.InputEnd.TheVariants.{Open}
use Rattle.capture_core.specs.declared.filling.Filled.{Filled}
use Rattle.capture_core.specs.declared.filling.Filled.TheVariants as filled
use Rattle.capture_core.specs.declared.filling.Short.{Short}
use Rattle.capture_core.specs.declared.filling.Unread.{Unread}
use Rattle.capture_core.specs.declared.filling.Unread.TheVariants as unread

-- all of these octets were read, and the source tells the same ending; or the first of them before the source ended
abbrev pub Fills : Option (List ℕ) → InputEnd → Filled → List ℕ → Option (List ℕ) → InputEnd → Type 0
Fills old z filled.Whole octets new w = Consumes old new octets × OnlyOpen z octets w × (w ≡ z)
Fills old z (filled.Short n) octets new w = (n < length octets) × GivesOctets old new (take n octets) × OnlyOpen z (take n octets) w × (w ≢ Open)

-- as many octets were read over as were asked for, or fewer before the source ended
abbrev pub Passes : Option (List ℕ) → InputEnd → ℕ → Bool → Option (List ℕ) → InputEnd → Type 0
Passes old z size true new w = (given : List ℕ) × (length given ≡ size) × Consumes old new given × OnlyOpen z given w × (w ≡ z)
Passes old z size false new w = (given : List ℕ) × (length given < size) × GivesOctets old new given × OnlyOpen z given w × (w ≢ Open)

-- fewer octets than so many were read, and the source has ended
abbrev pub IsShort : ℕ → Option (List ℕ) → InputEnd → Option (List ℕ) → InputEnd → Type 0
IsShort size old z new w = (given : List ℕ) × (length given < size) × GivesOctets old new given × OnlyOpen z given w × (w ≢ Open)

-- so many octets were read, of which this is so; the source tells the same ending
abbrev pub IsWhole : (List ℕ → Type 0) → ℕ → Option (List ℕ) → InputEnd → Option (List ℕ) → InputEnd → Type 0
IsWhole Is size old z new w = (given : List ℕ) × (length given ≡ size) × Consumes old new given × OnlyOpen z given w × (w ≡ z) × Is given

-- memory was wanted once so many octets at most were read, of which this is so
abbrev pub IsWanted : (List ℕ → Type 0) → ℕ → Option (List ℕ) → InputEnd → Option (List ℕ) → InputEnd → Type 0
IsWanted Wants size old z new w = (given : List ℕ) × (length given ≤ size) × GivesOctets old new given × OnlyOpen z given w × (w ≡ z) × Wants given

-- a part of so many octets was read, of which this is said; or the source has ended before
abbrev pub ReadsPart : {T : Type 0} → (T → List ℕ → Type 0) → ℕ → Option (List ℕ) → InputEnd → Result T Short → Option (List ℕ) → InputEnd → Type 0
ReadsPart Says size old z (Ok t) new w = IsWhole (Says t) size old z new w
ReadsPart Says size old z (Err e) new w = IsShort size old z new w

-- the same, where memory may be wanted once this is so of what was read
abbrev pub ReadsKept : {T : Type 0} → (T → List ℕ → Type 0) → (List ℕ → Type 0) → ℕ → Option (List ℕ) → InputEnd → Result T Unread → Option (List ℕ) → InputEnd → Type 0
ReadsKept Says Wants size old z (Ok t) new w = IsWhole (Says t) size old z new w
ReadsKept Says Wants size old z (Err unread.Short) new w = IsShort size old z new w
ReadsKept Says Wants size old z (Err (unread.Memory e)) new w = IsWanted Wants size old z new w

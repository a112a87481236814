-- The one line that is written of an event, and what can be written.
use Rattle.std.specs.Prelude.{ℕ, ◌^◌, ◌<◌, ◌≤◌, List, [], ◌∷◌, ◌++◌, length, Bool, true, false, codes}
use Rattle.std.specs.List.{All}
use Rattle.hex.specs.Hex.{encode_lower}
use Rattle.std.specs.Fmt.{decimal}
use Rattle.list_core.specs.declared.event.EventKind.{EventKind}
use Rattle.list_core.specs.declared.event.Event.{Event}
use Rattle.list_core.specs.declared.event.EventKind.TheVariants.{Frame, Clock, Mode}

-- the word for a mode
abbrev pub mode_text : Bool → List ℕ
mode_text true = codes "on"
mode_text false = codes "off"

-- the one line of an event of this kind, with its LF, of which the moment is written so
abbrev pub kind_text : {A : Type 0} → List ℕ → EventKind A → List ℕ
kind_text moment Clock = codes "C " ++ moment ++ 10 ∷ []
kind_text moment (Frame octets) = codes "F " ++ moment ++ codes " " ++ encode_lower octets ++ 10 ∷ []
kind_text moment (Mode on) = codes "M " ++ moment ++ codes " " ++ mode_text on ++ 10 ∷ []

-- the one line that is written of an event, with its LF
abbrev pub event_text : {A : Type 0} → Event A → List ℕ
event_text e = kind_text (decimal e.moment) e.kind

-- what can stand in a list: a frame of 1 to 2,000 octets, the clock, or a mode
abbrev pub IsListableKind : {A : Type 0} → EventKind A → Type 0
IsListableKind Clock = Unit {0}
IsListableKind (Frame octets) = (0 < length octets) × (length octets ≤ 2000)
IsListableKind (Mode on) = Unit {0}

-- what can stand in a list: a moment of at most 18 digits, and a kind that can
abbrev pub IsListable : {A : Type 0} → Event A → Type 0
IsListable e = (e.moment < 10 ^ 18) × IsListableKind e.kind

-- every number of the frame is an octet
abbrev pub HoldsOctets : {A : Type 0} → EventKind A → Type 0
HoldsOctets Clock = Unit {0}
HoldsOctets (Frame octets) = All (λ x. x < 256) octets
HoldsOctets (Mode on) = Unit {0}

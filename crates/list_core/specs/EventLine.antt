-- What a line of a list of events says.
use Rattle.std.specs.Prelude.{◌≡◌, ℕ, ◌*◌, ◌<◌, ◌≤◌, List, [], ◌∷◌, length, Option, Some, None, is_some, Result, Ok, Err, Bool, true, false, ◌==◌, ◌&&◌, nat_le, nat_lt, if◌then◌else◌}
use Rattle.list_core.specs.Cuts.{cut_at}
use Rattle.list_core.specs.Decimal.{is_decimal}
use Rattle.std.specs.Str.Parse.{digits_value, AllDigits}
use Rattle.hex.specs.Hex.{decode_of}
use Rattle.hex.specs.declared.error.FromHexError.{FromHexError}
use Rattle.list_core.specs.declared.event.Event.{Event}
use Rattle.list_core.specs.declared.event.EventKind.TheVariants.{Frame, Clock, Mode}
use Rattle.list_core.specs.declared.event_lines.MomentUnit.{MomentUnit}
use Rattle.list_core.specs.declared.event_lines.MomentUnit.TheVariants.{Milliseconds, Microseconds}
use Rattle.list_core.specs.declared.event_lines.EventLines.{EventLines}
use Rattle.list_core.specs.declared.event_lines.EventLines.TheVariants.{First, After}
use Rattle.list_core.specs.Items.{Rules}
use Rattle.list_core.specs.declared.list_fault.ListCause.{ListCause}
use Rattle.list_core.specs.declared.list_fault.ListCause.TheVariants.{LineForm, Moment, Hex}

-- the fields of a line: the octets, cut at each space
abbrev pub fields : List ℕ → List (List ℕ)
fields line = cut_at 32 line

-- the most digits of a moment: 15 of milliseconds, 18 of microseconds
abbrev pub most_digits : MomentUnit → ℕ
most_digits Milliseconds = 15
most_digits Microseconds = 18

-- how many microseconds one unit is
abbrev pub microseconds_in : MomentUnit → ℕ
microseconds_in Milliseconds = 1000
microseconds_in Microseconds = 1

-- a field that can be a moment: 1 to 15 decimal digits of milliseconds, or 1 to 18 of microseconds
abbrev pub is_moment : MomentUnit → List ℕ → Bool
is_moment unit digits = is_decimal (most_digits unit) digits

-- the moment that a field writes, in microseconds
abbrev pub moment_of : MomentUnit → List ℕ → Option ℕ
moment_of unit digits = if is_moment unit digits then Some (digits_value 10 digits * microseconds_in unit) else None

-- what was decoded, if it was
abbrev pub decoded : Result (List ℕ) FromHexError → Option (List ℕ)
decoded (Ok octets) = Some octets
decoded (Err e) = None

-- the octets that a field writes: 2 to 4,000 hexadecimal digits, two for each octet
abbrev pub frame_octets_by : List ℕ → Option (List ℕ)
frame_octets_by digits = if nat_lt 0 (length digits) && nat_le (length digits) 4000 then decoded (decode_of digits) else None

-- the clock at a moment
abbrev pub clock_event : {A : Type 0} → Option ℕ → Result (Option (Event A)) ListCause
clock_event None = Err Moment
clock_event (Some m) = Ok (Some (record { moment = m; kind = Clock }))

-- a frame at a moment
abbrev pub frame_event : {A : Type 0} → Option ℕ → Option (List ℕ) → Result (Option (Event A)) ListCause
frame_event None octets = Err Moment
frame_event (Some m) None = Err Hex
frame_event (Some m) (Some octets) = Ok (Some (record { moment = m; kind = Frame octets }))

-- the mode that a field names
abbrev pub mode_of : List ℕ → Option Bool
mode_of (a ∷ b ∷ []) = if a == 111 && b == 110 then Some true else None
mode_of (a ∷ b ∷ c ∷ []) = if a == 111 && b == 102 && c == 102 then Some false else None
mode_of _ = None

-- a mode set at a moment
abbrev pub mode_event : {A : Type 0} → Option ℕ → Option Bool → Result (Option (Event A)) ListCause
mode_event m None = Err LineForm
mode_event None (Some on) = Err Moment
mode_event (Some m) (Some on) = Ok (Some (record { moment = m; kind = Mode on }))

-- what the fields say: `C` and a moment, `F`, a moment and the octets of a frame, or `M`, a moment and a mode, none of them empty
abbrev pub event_of_fields : {A : Type 0} → MomentUnit → List (List ℕ) → Result (Option (Event A)) ListCause
event_of_fields unit ((c ∷ []) ∷ (m ∷ ms) ∷ []) = if c == 67 then clock_event (moment_of unit (m ∷ ms)) else Err LineForm
event_of_fields unit ((c ∷ []) ∷ (m ∷ ms) ∷ (h ∷ hs) ∷ []) =
    if c == 70 then frame_event (moment_of unit (m ∷ ms)) (frame_octets_by (h ∷ hs)) else (if c == 77 then mode_event (moment_of unit (m ∷ ms)) (mode_of (h ∷ hs)) else Err LineForm)
event_of_fields unit _ = Err LineForm

-- whether the fields give something to keep: those of a frame, with a moment and digits that write octets
abbrev pub fields_keep : MomentUnit → List (List ℕ) → Bool
fields_keep unit ((c ∷ []) ∷ (m ∷ ms) ∷ (h ∷ hs) ∷ []) = c == 70 && (is_moment unit (m ∷ ms) && is_some (frame_octets_by (h ∷ hs)))
fields_keep unit _ = false

-- what a line says: nothing where it is empty or begins with `#`, else an event, or why it says none
abbrev pub event_of : {A : Type 0} → MomentUnit → List ℕ → Result (Option (Event A)) ListCause
event_of unit [] = Ok None
event_of unit (x ∷ xs) = if x == 35 then Ok None else event_of_fields unit (fields (x ∷ xs))

-- the line `V2`
abbrev pub is_version : List ℕ → Bool
is_version (a ∷ b ∷ []) = a == 86 && b == 50
is_version _ = false

-- what a line says, after which moments have this unit
abbrev pub meant : {A : Type 0} → MomentUnit → Result (Option (Event A)) ListCause → Result (Option (Event A) × EventLines) ListCause
meant unit (Ok e) = Ok (e, After unit)
meant unit (Err why) = Err why

-- the first line settles the unit of moments: microseconds where it is `V2`, else milliseconds
abbrev pub event_said : {A : Type 0} → EventLines → List ℕ → Result (Option (Event A) × EventLines) ListCause
event_said First line = if is_version line then Ok (None, After Microseconds) else meant Milliseconds (event_of Milliseconds line)
event_said (After unit) line = meant unit (event_of unit line)

-- the unit of moments in the next line, if that is no version
abbrev pub unit_after : EventLines → MomentUnit
unit_after First = Milliseconds
unit_after (After unit) = unit

-- the rules of a list of events, of which frames alone are kept in memory
abbrev pub event_rules : {A : Type 0} → Rules EventLines (Event A) ListCause
event_rules = record { said = event_said; keeps = λ s line. fields_keep (unit_after s) (fields line); lacks = λ s. None }

-- these digits write a moment
abbrev pub WritesMoment : MomentUnit → List ℕ → ℕ → Type 0
WritesMoment unit digits moment = (0 < length digits) × (length digits ≤ most_digits unit) × AllDigits 10 digits × (digits_value 10 digits * microseconds_in unit ≡ moment)

-- these digits write the octets of a frame
abbrev pub WritesOctets : List ℕ → List ℕ → Type 0
WritesOctets digits octets = (0 < length digits) × (length digits ≤ 4000) × (decode_of digits ≡ Ok octets)

-- The line of a change, MOMENT, T, MEMBERS, and that of a poll, MOMENT. They stand behind the steps.
use Rattle.std.specs.Prelude.{ℕ, ◌==◌, ◌&&◌, Bool, false, List, [], ◌∷◌, Option, Some, None, is_none, Result, Ok, Err, is_ok, if◌then◌else◌}
use Rattle.ber_core.specs.declared.fault.Fault.{Fault}
use Rattle.mms_data.specs.Data.{Data}
use Rattle.mms_data.specs.computed.Reading.{members_at}
use Rattle.mms_data.specs.declared.time.UtcTime.{UtcTime}
use Rattle.list_core.specs.EventLine.{moment_of}
use Rattle.list_core.specs.declared.event_lines.MomentUnit.{MomentUnit}
use Rattle.script_core.specs.declared.script.ScriptCause.{ScriptCause}
use Rattle.script_core.specs.declared.script.ScriptCause.TheVariants as cause
use Rattle.script_core.specs.declared.script.ScriptItem.{ScriptItem}
use Rattle.script_core.specs.declared.script.ScriptItem.TheVariants as item
use Rattle.script_core.specs.declared.script.ScriptPart.{ScriptPart}
use Rattle.script_core.specs.declared.script.ScriptPart.TheVariants as part
use Rattle.script_core.specs.ScriptFields.{all_octets_in, time_in}

-- why no change or poll may stand here: there is no control line, or no step
abbrev pub too_early : ScriptPart → Option ScriptCause
too_early part.Control = Some cause.ScriptForm
too_early (part.Steps n) = if n == 0 then Some cause.StepCount else None
too_early part.Calls = None

-- a change or a poll, behind which changes and polls stand
abbrev pub call_said : {A : Type 0} → Option ScriptCause → Result (ScriptItem A) ScriptCause → Result (Option (ScriptItem A) × ScriptPart) ScriptCause
call_said (Some why) call = Err why
call_said None (Err why) = Err why
call_said None (Ok call) = Ok (Some call, part.Calls)

-- a change to the members that octets spell
abbrev pub change_to : {A : Type 0} → ℕ → UtcTime → Result (List Data) Fault → Result (ScriptItem A) ScriptCause
change_to moment t (Ok values) = Ok (item.Change moment t values)
change_to moment t (Err fault) = Err (cause.Members fault)

-- MOMENT, T, MEMBERS, of which the first that says nothing is told
abbrev pub change_said_by : {A : Type 0} → Option ℕ → Option UtcTime → Option (List ℕ) → Result (ScriptItem A) ScriptCause
change_said_by None t octets = Err cause.Moment
change_said_by (Some moment) None octets = Err cause.Hex
change_said_by (Some moment) (Some t) None = Err cause.Hex
change_said_by (Some moment) (Some t) (Some octets) = change_to moment t (members_at 16 0 octets)

-- MOMENT
abbrev pub poll_of : {A : Type 0} → Option ℕ → Result (ScriptItem A) ScriptCause
poll_of None = Err cause.Moment
poll_of (Some moment) = Ok (item.Poll moment)

-- the line of a change: MOMENT, T, MEMBERS
abbrev pub change_said : {A : Type 0} → MomentUnit → ScriptPart → List (List ℕ) → Result (Option (ScriptItem A) × ScriptPart) ScriptCause
change_said unit p (moment ∷ t ∷ members ∷ []) = call_said (too_early p) (change_said_by (moment_of unit moment) (time_in t) (all_octets_in members))
change_said unit p _ = Err cause.ScriptForm

-- the line of a poll: MOMENT
abbrev pub poll_said : {A : Type 0} → MomentUnit → ScriptPart → List (List ℕ) → Result (Option (ScriptItem A) × ScriptPart) ScriptCause
poll_said unit p (moment ∷ []) = call_said (too_early p) (poll_of (moment_of unit moment))
poll_said unit p _ = Err cause.ScriptForm

-- whether something of these octets is kept in memory: they are the members of a change, and there are some
abbrev pub octets_keep : List ℕ → Bool
octets_keep [] = false
octets_keep (o ∷ os) = is_ok (members_at 16 0 (o ∷ os))

-- whether the members of a change are kept: its moment and its time of change say something
abbrev pub members_keep : Option ℕ → Option UtcTime → Option (List ℕ) → Bool
members_keep (Some moment) (Some t) (Some octets) = octets_keep octets
members_keep _ _ _ = false

-- whether something of a change is kept: it may stand here, and its members are
abbrev pub change_keeps : MomentUnit → ScriptPart → List (List ℕ) → Bool
change_keeps unit p (moment ∷ t ∷ members ∷ []) = is_none (too_early p) && members_keep (moment_of unit moment) (time_in t) (all_octets_in members)
change_keeps unit p _ = false

-- What a task hands out beside what it leaves: the fault that is told, the frames of other protocols that it passed over, and the packets that were not captured on Ethernet.
use Rattle.std.specs.Prelude.{◌≡◌, ◌≢◌, ◌⊎◌, ◌≤◌, ◌-◌, ◌&&◌, ℕ, Bool, true, false, List, [], ◌++◌, length, take, Option, Some, None, option_map, ⊤}
use Rattle.std.specs.Global.{Global}
use Rattle.list_core.specs.declared.device.InputEnd.{InputEnd}
use Rattle.list_core.specs.declared.device.InputEnd.TheVariants.{Open}
use Rattle.list_core.specs.declared.event.Event.{Event}
use Rattle.list_core.specs.declared.event_lines.EventLines.TheVariants.{First}
use Rattle.list_core.specs.Device.{GivesOctets}
use Rattle.list_core.specs.EventLine.{event_rules}
use Rattle.list_core.specs.Items.{Numbered, listing}
use Rattle.tally_core.specs.Tally.{Tally, count_all, no_tally}
use Rattle.capture_core.specs.Captured.{captured_events, captured_packets}
use Rattle.capture_core.specs.Packets.{Packet, other_links_in}
use Rattle.frame_core.specs.SkipOther.{passed_in}
use Rattle.engine_core.specs.declared.ending.Ending.{Ending}
use Rattle.engine_core.specs.declared.ending.Ending.TheVariants.{Done, Findings, InputFault, ReadFault, WriteFault, Memory}
use Rattle.engine_core.specs.CaptureRun.{capture_input}
use Rattle.engine_core.specs.Run.{AtLine, list_input}
use Rattle.task_engine.specs.declared.stop.Stop.{Stop}
use Rattle.task_engine.specs.declared.told.Told.{Told}
use Rattle.words_core.specs.CommandLine.{Asked, takes_options}
use Rattle.words_core.specs.declared.option_words.Options.{Options}
use Rattle.task_engine.specs.InputText.{unwrapped}

-- the fault that is told
abbrev pub stop_of : Option Told → Option Stop
stop_of told = option_map (λ t. t.stop) told

-- ---- the frames passed over

-- the input was read until it stops, at its end or by its fault
abbrev pub ReadsAll : Ending → Type 0
ReadsAll Done = ⊤
ReadsAll Findings = ⊤
ReadsAll InputFault = ⊤
ReadsAll ReadFault = ⊤
ReadsAll WriteFault = ⊥
ReadsAll Memory = ⊥

-- What is kept of the frames of other protocols among the first events of an input, as many as were read: all, unless writing failed or memory was refused; and never fewer than reach so far.
pub record PassesOver {F : Type 0} (l : Numbered (Event Global) F) (ending : Ending) (ReachesFar : ℕ → Type 0) (tally : Tally) : Type 0 where
  pub read : ℕ
  pub all : ReadsAll ending → length l.items ≤ read
  pub far : ReachesFar read
  pub is_tally : tally ≡ count_all (passed_in (take read l.items)) no_tally

-- so many events are all that the octets read of a capture tell before the last octet
abbrev pub ReachesInCapture : List ℕ → ℕ → Type 0
ReachesInCapture octets read = (front rest : List ℕ) → octets ≡ front ++ rest → rest ≢ [] → length (captured_events {A = Global} Open front).items ≤ read

-- the octets read of a list end at the line behind so many events, or at that of the last of them: at most 8,192 octets from its start on were read
abbrev pub ReachesInList : InputEnd → List ℕ → ℕ → Type 0
ReachesInList z octets read =
    AtLine (event_rules {A = Global}) First z octets (take read (listing (event_rules {A = Global}) First z 0 octets).items)
    ⊎ AtLine (event_rules {A = Global}) First z octets (take (read - 1) (listing (event_rules {A = Global}) First z 0 octets).items)

-- what is handed out of the frames that were passed over among events that octets say, as far as so many of them reach
abbrev pub PassesAmong : {F : Type 0} → (InputEnd → List ℕ → Numbered (Event Global) F) → (InputEnd → List ℕ → ℕ → Type 0) → Ending → InputEnd → Option (List ℕ) → Option (List ℕ) → Option Tally → Type 0
PassesAmong says Reaches ending z left after passed =
    (tally : Tally) × (passed ≡ Some tally) × ((given : List ℕ) × GivesOctets left after given × PassesOver (says z given) ending (Reaches z given) tally)

-- so among what a capture tells, or what a list says, each frame unwrapped where options ask for that
abbrev pub PassesInput : Bool → Options → Ending → InputEnd → Option (List ℕ) → Option (List ℕ) → Option Tally → Type 0
PassesInput true options ending z left after passed = PassesAmong (unwrapped options capture_input).says (λ y read. ReachesInCapture read) ending z left after passed
PassesInput false options ending z left after passed = PassesAmong (unwrapped options (list_input event_rules First)).says ReachesInList ending z left after passed

-- what is handed out of the frames that were passed over: that, where frames are, and else nothing
abbrev pub PassesWhere : Bool → Options → Ending → InputEnd → Option (List ℕ) → Option (List ℕ) → Option Tally → Type 0
PassesWhere true options ending z left after passed = PassesInput options.is_capture options ending z left after passed
PassesWhere false options ending z left after passed = passed ≡ None

-- The frames of other protocols that are handed out are those among the events that were read, where they are passed over.
abbrev pub RequestPasses : Options → Asked → Ending → InputEnd → Option (List ℕ) → Option (List ℕ) → Option Tally → Type 0
RequestPasses options asked ending z left after passed = PassesWhere (takes_options asked && options.skips_other) options ending z left after passed

-- ---- the packets that were not captured on Ethernet

-- What is kept of the link types, other than Ethernet, of the first packets of a capture, as many as were read: all, unless writing failed or memory was refused; and never fewer than reach so far.
pub record CountsLinks {F : Type 0} (l : Numbered Packet F) (ending : Ending) (ReachesFar : ℕ → Type 0) (tally : Tally) : Type 0 where
  pub read : ℕ
  pub all : ReadsAll ending → length l.items ≤ read
  pub far : ReachesFar read
  pub is_tally : tally ≡ count_all (other_links_in (take read l.items)) no_tally

-- octets that the reader gave are a capture of which that is kept
abbrev pub LinksGiven : Ending → InputEnd → Option (List ℕ) → Option (List ℕ) → Tally → Type 0
LinksGiven ending z left after tally = (given : List ℕ) × GivesOctets left after given × CountsLinks (captured_packets z given) ending (ReachesInCapture given) tally

-- what is handed out of the packets that were not captured on Ethernet: that, where a capture is read, and else nothing
abbrev pub LinksWhere : Bool → Ending → InputEnd → Option (List ℕ) → Option (List ℕ) → Option Tally → Type 0
LinksWhere true ending z left after links = (tally : Tally) × (links ≡ Some tally) × LinksGiven ending z left after tally
LinksWhere false ending z left after links = links ≡ None

-- The packets that are handed out as not captured on Ethernet are those among the packets that were read, where events of a capture are.
abbrev pub RequestLinks : Options → Asked → Ending → InputEnd → Option (List ℕ) → Option (List ℕ) → Option Tally → Type 0
RequestLinks options asked ending z left after links = LinksWhere (takes_options asked && options.is_capture) ending z left after links

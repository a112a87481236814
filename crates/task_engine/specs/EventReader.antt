-- What a reader of events looks at by options, what it keeps beside, and how it stands.
use Rattle.std.specs.Prelude.{◌≡◌, ◌⊎◌, ◌+◌, ℕ, true, false, List, [], length, Option, Some, None, Ok, Err, ⊤}
use Rattle.std.specs.Global.{Global}
use Rattle.list_core.specs.declared.device.InputEnd.{InputEnd}
use Rattle.list_core.specs.declared.device.InputEnd.TheVariants.{Open, Failed}
use Rattle.list_core.specs.declared.event.Event.{Event}
use Rattle.list_core.specs.declared.event_lines.EventLines.TheVariants.{First}
use Rattle.list_core.specs.declared.line_rules.ItemFault.{ItemFault}
use Rattle.list_core.specs.declared.list_fault.ListCause.{ListCause}
use Rattle.list_core.specs.Device.{GivesOctets}
use Rattle.list_core.specs.EventLine.{event_rules}
use Rattle.list_core.specs.ItemReader.{ReaderState}
use Rattle.list_core.specs.Lines.{faulty}
use Rattle.list_core.specs.ReadItems.{AnswerOf}
use Rattle.tally_core.specs.Tally.{Tally}
use Rattle.capture_core.specs.declared.capture_fault.CaptureCause.{CaptureCause}
use Rattle.capture_core.specs.declared.capture_fault.CaptureFault.{CaptureFault}
use Rattle.capture_core.specs.PacketReader.{PacketState}
use Rattle.frame_core.specs.SkipOther.{skip_other}
use Rattle.engine_core.specs.declared.ending.Ending.{Ending}
use Rattle.engine_core.specs.CaptureRun.{capture_input}
use Rattle.engine_core.specs.Input.{GaveThen, Input, IsRead, Reader}
use Rattle.engine_core.specs.MadeRun.{made}
use Rattle.engine_core.specs.Run.{list_input}
use Rattle.task_engine.specs.HandedOut.{LinksWhere, PassesAmong, ReachesInCapture, ReachesInList, ReadsAll}

-- ---- what is looked at

-- What a task looks at: the events of an input, how far so many of them reach in its octets, and what is handed out of the frames that were passed over, and of the packets that were not captured on Ethernet.
pub record Look (C F : Type 0) : Type 1 where
  pub input : Input (Event Global) C F
  pub reaches : InputEnd → List ℕ → ℕ → Type 0
  pub passes : Ending → InputEnd → Option (List ℕ) → Option (List ℕ) → Option Tally → Type 0
  pub links : Ending → InputEnd → Option (List ℕ) → Option (List ℕ) → Option Tally → Type 0

-- the events of a list
abbrev pub list_look : Look ListCause (ItemFault ListCause)
list_look = record { input = list_input event_rules First; reaches = ReachesInList; passes = λ ending z left after passed. passed ≡ None; links = LinksWhere false }

-- those of a capture
abbrev pub capture_look : Look CaptureCause CaptureFault
capture_look = record { input = capture_input; reaches = λ z read. ReachesInCapture read; passes = λ ending z left after passed. passed ≡ None; links = LinksWhere true }

-- the same, with this made of each event
abbrev pub made_look : {C F : Type 0} → (Event Global → Event Global) → Look C F → Look C F
made_look make look = record look { input = made make look.input }

-- what is left of each event where frames of other protocols are passed over, which are handed out
abbrev pub skipped_look : {C F : Type 0} → Look C F → Look C F
skipped_look look = record (made_look skip_other look) { passes = PassesAmong look.input.says look.reaches }

-- ---- how a reader stands

-- how a reader stands: the octets left to its source, and how that stands; and what is kept of frames that were passed over, and of packets that were not captured on Ethernet, where it is
pub record InputState : Type 0 where
  pub left : Option (List ℕ)
  pub source : InputEnd
  pub passed : Option Tally
  pub links : Option Tally

-- the reader of a list
abbrev pub list_state : {S : Type 0} → ReaderState S → InputState
list_state s = record { left = s.left; source = s.ending; passed = None; links = None }

-- that of a capture
abbrev pub capture_state : PacketState → InputState
capture_state s = record { left = s.left; source = s.ending; passed = None; links = Some s.other_links }

-- ---- what a reader looks at

-- an answer tells how an input stops
abbrev pub TellsStop : {X F : Type 0} → AnswerOf X F → Type 0
TellsStop (Ok None) = ⊤
TellsStop (Ok (Some e)) = ⊥
TellsStop (Err (Some f)) = ⊤
TellsStop (Err None) = ⊥

-- a task read events: those that it was given, and one answer behind them, which tells how the input stops if all was read
pub record Reads {I C F : Type 0} (reader : Reader I (Event Global) C F) (start end : I) (ending : Ending) : Type 0 where
  pub items : List (ℕ × Event Global)
  pub answer : AnswerOf (Event Global) F
  pub gave : GaveThen reader start end items answer
  pub all : ReadsAll ending → TellsStop answer

-- it left its reader untouched, or read
abbrev pub LeftOrReads : {I C F : Type 0} → Reader I (Event Global) C F → I → I → Ending → Type 0
LeftOrReads reader start end ending = (end ≡ start) ⊎ Reads reader start end ending

-- What a reader looks at from how it stands: what it gives is read of the input, and what it keeps is what is handed out.
pub record LooksFrom {I C F : Type 0} (reader : Reader I (Event Global) C F) (look : Look C F) (state : I → InputState) (start : I) : Type 0 where
  -- items are refused, and reads fail, as those of the input
  pub faults : reader.faults ≡ look.input.faults
  -- the input stops by a failed read only where its source failed
  pub blames : (z : InputEnd) (read : List ℕ) (f : F) → (look.input.says z read).stop ≡ faulty f → look.input.faults.failed f ≡ true → z ≡ Failed
  -- where nothing was read there is no event
  pub none : ((look.input.says Open []).items ≡ []) × look.reaches Open [] 0
  -- behind these events no more was read than for them, or for one more
  pub reaches : (z : InputEnd) (read : List ℕ) (items : List (ℕ × Event Global)) (answer : AnswerOf (Event Global) F) → look.input.stands z read items answer → look.reaches z read (length items) × look.reaches z read (length items + 1)
  pub is_open : (state start).source ≡ Open
  pub reads : (end : I) (items : List (ℕ × Event Global)) (answer : AnswerOf (Event Global) F) → GaveThen reader start end items answer →
      (given : List ℕ) × GivesOctets (state start).left (state end).left given × IsRead look.input (state end).source given items answer
  pub passes : (end : I) (ending : Ending) → LeftOrReads reader start end ending → look.passes ending (state end).source (state start).left (state end).left (state end).passed
  pub links : (end : I) (ending : Ending) → LeftOrReads reader start end ending → look.links ending (state end).source (state start).left (state end).left (state end).links

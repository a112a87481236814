-- The text of `watch`: what the counter of a stream of samples (IEC 61850-9-2, smpCnt) does, ASDU by ASDU.
use Rattle.std.specs.Prelude.{◌≡◌, ℕ, ◌+◌, List, [], ◌∷◌, ◌++◌, length, map, Bool, true, false, if◌then◌else◌, Result, Ok, Err}
use Rattle.std.specs.List.{flat_map, list_any}
use Rattle.std.specs.Str.{bytes_eq}
use Rattle.ber_core.specs.declared.fault.Fault.{Fault}
use Rattle.pdu_core.specs.declared.sampled.asdu.Asdu.{Asdu}
use Rattle.list_core.specs.declared.event.Event.{Event}
use Rattle.list_core.specs.declared.event.EventKind.{EventKind}
use Rattle.list_core.specs.declared.event.EventKind.TheVariants as kinds
use Rattle.frame_core.specs.declared.frame.Apdu.{Apdu}
use Rattle.frame_core.specs.declared.frame.Apdu.TheVariants as apdus
use Rattle.frame_core.specs.declared.frame.Frame.{Frame}
use Rattle.list_core.specs.declared.line_rules.ItemFault.{ItemFault}
use Rattle.list_core.specs.declared.list_fault.ListCause.{ListCause}
use Rattle.frame_core.specs.computed.FrameReading.{frame_at}
use Rattle.list_core.specs.ListReader.{list_fault_of}
use Rattle.subscribe_core.specs.declared.watch.Seen.{Seen}
use Rattle.subscribe_core.specs.declared.watch.Seen.TheVariants as seen
use Rattle.subscribe_core.specs.Watch.{AreSeen}
use Rattle.engine_core.specs.EngineText.{Text}
use Rattle.engine_core.specs.EventsText.{EventText}
use Rattle.text_core.specs.LineText.{fault_line, list_fault_line}
use Rattle.object_core.specs.declared.counted.Form.{Form}
use Rattle.object_core.specs.declared.counted.Form.TheVariants.{Text as Lines, Object}
use Rattle.object_core.specs.EventObject.{fault_object}
use Rattle.exchange_engines.specs.SampleLine.{Sample, sample_line}
use Rattle.exchange_engines.specs.SampleObject.{sample_object}

-- the sample of an ASDU, if it is of the stream with this svID
abbrev pub sample_at : {A : Type 0} → ℕ → List ℕ → Asdu A → List Sample
sample_at k id a = if bytes_eq a.sv_id id then record { position = k; count = a.smp_cnt } ∷ [] else []

-- the samples of several ASDUs that are of the stream; the first ASDU has this position
abbrev pub samples_from : {A : Type 0} → ℕ → List ℕ → List (Asdu A) → List Sample
samples_from k id [] = []
samples_from k id (a ∷ others) = sample_at k id a ++ samples_from (k + 1) id others

-- those of the ASDUs of an APDU; one of GOOSE has none
abbrev pub samples_in : {A : Type 0} → List ℕ → Apdu A → List Sample
samples_in id (apdus.Goose p) = []
samples_in id (apdus.Sampled p) = samples_from 0 id p.asdus

-- those of the frame that octets spell; octets with a fault have none
abbrev pub samples_read : {A : Type 0} → List ℕ → Result (Frame A) Fault → List Sample
samples_read id (Ok f) = samples_in id f.apdu
samples_read id (Err f) = []

-- those of an event; the clock and modes have none
abbrev pub samples_of : {A : Type 0} → List ℕ → EventKind A → List Sample
samples_of id (kinds.Frame octets) = samples_read {A = Unit {0}} id (frame_at octets)
samples_of id kinds.Clock = []
samples_of id (kinds.Mode on) = []

-- the smpCnt of samples
abbrev pub counts : List Sample → List ℕ
counts samples = map (λ s. s.count) samples

-- the counts of a stream over several events
abbrev pub counts_of : {A : Type 0} → List ℕ → List (ℕ × Event A) → List ℕ
counts_of id items = flat_map (λ e. counts (samples_of id e.1.kind)) items

-- how a sample with an answer, and a fault of a frame, are told
pub record Telling : Type 0 where
  pub of_sample : Sample → Seen → List ℕ
  pub of_fault : Fault → List ℕ

-- at a line and a moment: by lines, or by objects
abbrev pub telling : Form → ℕ → ℕ → Telling
telling Lines n moment = record { of_sample = sample_line n; of_fault = fault_line n }
telling (Object counted) n moment = record { of_sample = sample_object counted n moment; of_fault = fault_object counted n moment }

-- by lines
abbrev pub in_lines : ℕ → Telling
in_lines n = telling Lines n 0

-- the lines of samples with these answers
abbrev pub sample_lines : Telling → List Sample → List Seen → List ℕ
sample_lines t [] answers = []
sample_lines t (s ∷ samples) [] = []
sample_lines t (s ∷ samples) (answer ∷ answers) = t.of_sample s answer ++ sample_lines t samples answers

-- neither the first count nor the next one
abbrev pub is_unexpected : Seen → Bool
is_unexpected seen.First = false
is_unexpected seen.Next = false
is_unexpected (seen.Skipped missing) = true
is_unexpected seen.Same = true
is_unexpected seen.Late = true
is_unexpected seen.OutOfRange = true

-- what is written of octets, which read so, and whether it is a finding: a fault, or a count that is unexpected
abbrev pub frame_watched : {A : Type 0} → Telling → List ℕ → Result (Frame A) Fault → List Seen → List ℕ × Bool
frame_watched t id (Err f) answers = (t.of_fault f, true)
frame_watched t id (Ok f) answers = (sample_lines t (samples_in id f.apdu) answers, list_any is_unexpected answers)

-- what is written of an event, with the answers to its counts: nothing of the clock and of modes
abbrev pub watched : {A : Type 0} → Telling → List ℕ → EventKind A → List Seen → List ℕ × Bool
watched t id (kinds.Frame octets) answers = frame_watched {A = Unit {0}} t id (frame_at octets) answers
watched t id kinds.Clock answers = ([], false)
watched t id (kinds.Mode on) answers = ([], false)

-- What is written of an event after others. Each count of the stream in it is answered after all its counts before, and the answers
-- are written; so is a frame's fault. A fault is a finding, and so is a count that is neither the first nor the next.
pub record WatchesEvent {A : Type 0} (t : Telling) (period : ℕ) (id : List ℕ) (before : List (ℕ × Event A)) (e : ℕ × Event A) (written : Result (List ℕ × Bool) ListCause) : Type 0 where
  pub earlier : List Seen
  pub answers : List Seen
  pub one_each : length answers ≡ length (samples_of id e.1.kind)
  pub are_seen : AreSeen period (counts_of id before ++ counts (samples_of id e.1.kind)) (earlier ++ answers)
  pub lines : written ≡ Ok (watched t id e.1.kind answers)

-- what is written in a form of events that a watch over this stream is handed, whatever input they come from
abbrev pub IsWatchIn : {A : Type 0} → Form → ℕ → List ℕ → EventText A → Type 0
IsWatchIn {A} form period id text = (before : List (ℕ × Event A)) (e : ℕ × Event A) → WatchesEvent (telling form e.0 e.1.moment) period id before e (Ok (text before e))

-- so are texts for each form
abbrev pub AreWatchTexts : {A : Type 0} → ℕ → List ℕ → (Form → EventText A) → Type 0
AreWatchTexts {A} period id texts = (form : Form) → IsWatchIn {A = A} form period id (texts form)

-- What `watch` writes of the stream with this svID: for each of its ASDUs what its count is, over all counts of the stream up to it.
pub record IsWatchText {A : Type 0} (period : ℕ) (id : List ℕ) (t : Text (Event A) ListCause) : Type 0 where
  pub first : t.first ≡ []
  pub each_item : (before : List (ℕ × Event A)) (e : ℕ × Event A) → WatchesEvent (in_lines e.0) period id before e (t.of_item before e)
  pub last : (f : ItemFault ListCause) → t.last f ≡ list_fault_line (list_fault_of f)

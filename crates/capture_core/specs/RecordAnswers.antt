-- What reading a capture answers, of the text before and the text after.
use Rattle.std.specs.Prelude.{◌≡◌, ◌⊎◌, ◌<◌, ◌≤◌, ◌+◌, ◌^◌, ℕ, List, ◌++◌, length, take, Option, Some, None, Result, Ok, Err, MatchResult}
use Rattle.std.specs.Io.KnownBytes.{Consumes}
use Rattle.list_core.specs.declared.device.InputEnd.{InputEnd}
use Rattle.list_core.specs.Device.{GivesOctets, OnlyOpen}
use Rattle.list_core.specs.Lines.{CanFollow, finished, faulty}
use Rattle.capture_core.specs.Capture.{Capture, CaptureRecord, capture, captured_size, records_after, put_record, no_records}
use Rattle.capture_core.specs.declared.form.CaptureForm.{CaptureForm}
use Rattle.capture_core.specs.declared.capture_fault.CaptureFault.{CaptureFault}
use Rattle.capture_core.specs.declared.record.Captured.{Captured}
use Rattle.capture_core.specs.declared.record.Captured.TheVariants.{Frame, LeftOut}

-- the capture whose header was answered so, by the octets behind it
abbrev pub behind_header : Result CaptureForm CaptureFault → InputEnd → List ℕ → Capture
behind_header (Ok form) z octets = records_after form z 0 octets
behind_header (Err f) z octets = no_records (faulty f)

-- The header of a capture was read, and no octet behind it: whatever comes, the capture is what follows the answer.
pub record ReadsHeader (old : Option (List ℕ)) (z : InputEnd) (answer : Result CaptureForm CaptureFault) (new : Option (List ℕ)) (w : InputEnd) : Type 0 where
  pub given : List ℕ
  pub took : MatchResult answer (λ _. Consumes old new given) (λ _. GivesOctets old new given)
  pub only_open : OnlyOpen z given w
  pub few : length given ≤ 24
  pub reads : (more : List ℕ) (y : InputEnd) → CanFollow w more y → capture y (given ++ more) ≡ behind_header answer y more

-- the records after n others, of which the next was answered so, by the octets behind it
abbrev pub behind_record : CaptureForm → ℕ → Result (Option CaptureRecord) CaptureFault → InputEnd → List ℕ → Capture
behind_record form n (Ok (Some r)) z octets = put_record (n + 1, r) (records_after form z (n + 1) octets)
behind_record form n (Ok None) z octets = no_records finished
behind_record form n (Err f) z octets = no_records (faulty f)

-- there is room for a record that was answered
abbrev pub HasRoom : ℕ → Result (Option CaptureRecord) CaptureFault → Type 0
HasRoom n (Ok (Some r)) = n < 999999
HasRoom n (Ok None) = Unit {0}
HasRoom n (Err f) = Unit {0}

-- these octets were taken; only after a record does the source tell what is left, if it told it before
abbrev pub TakesFor : Result (Option CaptureRecord) CaptureFault → Option (List ℕ) → Option (List ℕ) → List ℕ → Type 0
TakesFor (Ok (Some r)) old new given = Consumes old new given
TakesFor (Ok None) old new given = GivesOctets old new given
TakesFor (Err f) old new given = GivesOctets old new given

-- at most the octets of the record after n others: its head of 16, and behind a head that is accepted as many as it says, 262,144 at most
abbrev pub WithinRecord : CaptureForm → ℕ → List ℕ → Type 0
WithinRecord form n octets = (length octets ≤ 16) ⊎ ((n < 999999) × (captured_size form (take 16 octets) ≤ 262144) × (length octets ≤ 16 + captured_size form (take 16 octets)))

-- The record after n others was read, of which these octets were held, and no octet behind it: whatever comes, the records are what follows the answer.
pub record ReadsRecord (form : CaptureForm) (n : ℕ) (held : List ℕ) (old : Option (List ℕ)) (z : InputEnd) (answer : Result (Option CaptureRecord) CaptureFault) (new : Option (List ℕ)) (w : InputEnd) : Type 0 where
  pub given : List ℕ
  pub took : TakesFor answer old new given
  pub only_open : OnlyOpen z given w
  pub room : HasRoom n answer
  pub within : WithinRecord form n (held ++ given)
  pub reads : (more : List ℕ) (y : InputEnd) → CanFollow w more y → records_after form y n (held ++ (given ++ more)) ≡ behind_record form n answer y more

-- a frame of a size that a list can hold
abbrev pub IsFrameSize : ℕ → Type 0
IsFrameSize n = (0 < n) × (n ≤ 2000)

-- how a record is told: a frame by its moment and the octets at the front of an array, any other record by its size alone
abbrev pub IsRecordToldAs : Result (Option CaptureRecord) CaptureFault → Result (Option Captured) CaptureFault → List ℕ → Type 0
IsRecordToldAs answer (Ok (Some (Frame moment size))) array =
    IsFrameSize size × (size ≤ length array) × (moment < 10 ^ 18) × (answer ≡ Ok (Some (record { moment = moment; octets = take size array })))
IsRecordToldAs answer (Ok (Some (LeftOut size))) array = (r : CaptureRecord) × (answer ≡ Ok (Some r)) × (length r.octets ≡ size) × (IsFrameSize size → ⊥)
IsRecordToldAs answer (Ok None) array = answer ≡ Ok None
IsRecordToldAs answer (Err f) array = answer ≡ Err f

-- A capture is a text of octets: a header of 24, then records, and what ends them.
use Rattle.std.specs.Prelude.{ℕ, ◌+◌, ◌-◌, ◌*◌, ◌/◌, ◌∷◌, zero, suc, List, [], length, take, drop, Option, Some, None, nat_lt, if◌then◌else◌}
use Rattle.list_core.specs.declared.device.InputEnd.{InputEnd}
use Rattle.list_core.specs.declared.device.InputEnd.TheVariants.{Open, End, Failed}
use Rattle.list_core.specs.Lines.{Stop, finished, unfinished, faulty}
use Rattle.capture_core.specs.Numbers.{number_at}
use Rattle.capture_core.specs.Header.{header_of}
use Rattle.capture_core.specs.declared.form.FractionUnit.{FractionUnit}
use Rattle.capture_core.specs.declared.form.FractionUnit.TheVariants.{Microseconds, Nanoseconds}
use Rattle.capture_core.specs.declared.form.CaptureForm.{CaptureForm}
use Rattle.capture_core.specs.declared.capture_fault.CaptureCause.{CaptureCause}
use Rattle.capture_core.specs.declared.capture_fault.CaptureCause.TheVariants.{CaptureHeader, CaptureShort, RecordLength, TooManyRecords, ReadFailed}
use Rattle.capture_core.specs.declared.capture_fault.CaptureFault.{CaptureFault}

-- what a record says: the moment in microseconds, and the captured octets
pub record CaptureRecord : Type 0 where
  pub moment : ℕ
  pub octets : List ℕ

-- the records of a capture with their numbers, up to the first fault, and how they end
pub record Capture : Type 0 where
  pub records : List (ℕ × CaptureRecord)
  pub stop : Stop CaptureFault

-- no record before this stop
abbrev pub no_records : Stop CaptureFault → Capture
no_records s = record { records = []; stop = s }

-- a numbered record before the others
abbrev pub put_record : ℕ × CaptureRecord → Capture → Capture
put_record e c = record { records = e ∷ c.records; stop = c.stop }

-- a fault of this cause in this record; 0 is the header
abbrev pub fault_in : ℕ → CaptureCause → Stop CaptureFault
fault_in n why = faulty (record { number = n; cause = why })

-- how a capture stops whose octets end inside this record
abbrev pub cut : InputEnd → ℕ → Stop CaptureFault
cut End n = fault_in n CaptureShort
cut Failed n = fault_in n ReadFailed
cut Open n = unfinished

-- how a capture stops whose octets end before this record
abbrev pub ended : InputEnd → ℕ → Stop CaptureFault
ended End n = finished
ended Failed n = fault_in n ReadFailed
ended Open n = unfinished

-- microseconds of a fraction of a second
abbrev pub microseconds_of : FractionUnit → ℕ → ℕ
microseconds_of Microseconds fraction = fraction
microseconds_of Nanoseconds fraction = fraction / 1000

-- the moment in a record's head: seconds, and a fraction
abbrev pub moment_in_head : CaptureForm → List ℕ → ℕ
moment_in_head form head = number_at form.order 4 head 0 * 1000000 + microseconds_of form.unit (number_at form.order 4 head 4)

-- the count of captured octets in a record's head; the original length behind it is not looked at
abbrev pub captured_size : CaptureForm → List ℕ → ℕ
captured_size form head = number_at form.order 4 head 8

-- record number n, of which the head and what follows it are these, before the others
abbrev pub read_one : CaptureForm → InputEnd → ℕ → List ℕ → List ℕ → Capture → Capture
read_one form z n head rest others =
    if nat_lt (length head) 16 then no_records (cut z n) else
    (if nat_lt 262144 (captured_size form head) then no_records (fault_in n RecordLength) else
    (if nat_lt (length rest) (captured_size form head) then no_records (cut z n) else
    put_record (n, record { moment = moment_in_head form head; octets = take (captured_size form head) rest }) others))

-- the records that follow n others in these octets, of which so many may come
unfoldable pub records_of : CaptureForm → InputEnd → ℕ → ℕ → List ℕ → Capture
records_of form z n most [] = no_records (ended z (n + 1))
records_of form z n zero (x ∷ xs) = no_records (fault_in (n + 1) TooManyRecords)
records_of form z n (suc most) (x ∷ xs) =
    let head = take 16 (x ∷ xs) in
    let rest = drop 16 (x ∷ xs) in
    read_one form z (n + 1) head rest (records_of form z (n + 1) most (drop (captured_size form head) rest))

-- the records that follow n others in these octets; a capture has at most 999,999
abbrev pub records_after : CaptureForm → InputEnd → ℕ → List ℕ → Capture
records_after form z n octets = records_of form z n (999999 - n) octets

-- the records behind a header
abbrev pub records_behind : Option CaptureForm → InputEnd → List ℕ → Capture
records_behind None z octets = no_records (fault_in 0 CaptureHeader)
records_behind (Some form) z octets = records_after form z 0 octets

-- a text, with the ending of its source, as a capture
abbrev pub capture : InputEnd → List ℕ → Capture
capture z octets = if nat_lt (length octets) 24 then no_records (cut z 0) else records_behind (header_of (take 24 octets)) z (drop 24 octets)

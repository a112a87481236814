-- What octets are a record of a capture, records, and a whole capture.
use Rattle.std.specs.Prelude.{◌≡◌, ◌≤◌, ◌+◌, ℕ, List, [], ◌∷◌, ◌++◌, length, Some}
use Rattle.list_core.specs.Lines.{finished}
use Rattle.capture_core.specs.Header.{header_of}
use Rattle.capture_core.specs.Capture.{Capture, CaptureRecord, captured_size, moment_in_head}
use Rattle.capture_core.specs.declared.form.CaptureForm.{CaptureForm}

-- a head of 16 octets, which says the moment and how many octets were captured, at most 262,144, and then these
abbrev pub SpellsRecord : CaptureForm → CaptureRecord → List ℕ → Type 0
SpellsRecord form r o = (head : List ℕ) × (length head ≡ 16) × (moment_in_head form head ≡ r.moment) × (captured_size form head ≡ length r.octets) × (length r.octets ≤ 262144) × (o ≡ head ++ r.octets)

-- one record behind another
abbrev pub SpellsRecords : CaptureForm → List CaptureRecord → List ℕ → Type 0
SpellsRecords form [] o = o ≡ []
SpellsRecords form (r ∷ rs) o = (front : List ℕ) × (rest : List ℕ) × (o ≡ front ++ rest) × SpellsRecord form r front × SpellsRecords form rs rest

-- a header of 24 octets that is read, and then records in its form, so many at most
abbrev pub SpellsClassic : ℕ → List CaptureRecord → List ℕ → Type 0
SpellsClassic most rs o = (form : CaptureForm) × (header : List ℕ) × (rest : List ℕ) × (o ≡ header ++ rest) × (length header ≡ 24) × (header_of header ≡ Some form) × (length rs ≤ most) × SpellsRecords form rs rest

-- the same, 999,999 records at most
abbrev pub SpellsCapture : List CaptureRecord → List ℕ → Type 0
SpellsCapture rs o = SpellsClassic 999999 rs o

-- records with their numbers, behind n others
abbrev pub numbered : ℕ → List CaptureRecord → List (ℕ × CaptureRecord)
numbered n [] = []
numbered n (r ∷ rs) = (n + 1, r) ∷ numbered (n + 1) rs

-- a capture of these records, which ends without a fault
abbrev pub whole_capture : List CaptureRecord → Capture
whole_capture rs = record { records = numbered 0 rs; stop = finished }

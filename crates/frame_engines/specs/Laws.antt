-- What `import` writes of a capture, beside what the capture says.
use Rattle.std.specs.Prelude.{◌≡◌, ◌<◌, ◌≤◌, ◌+◌, ◌^◌, ℕ, List, length, map}
use Rattle.std.specs.List.{All}
use Rattle.list_core.specs.declared.device.InputEnd.TheVariants.{End}
use Rattle.list_core.specs.declared.event.Event.{Event}
use Rattle.list_core.specs.declared.event_lines.EventLines.TheVariants.{First}
use Rattle.list_core.specs.declared.list_fault.ListCause.{ListCause}
use Rattle.list_core.specs.EventLine.{event_rules}
use Rattle.list_core.specs.Items.{Listing, listing}
use Rattle.list_core.specs.Lines.{finished}
use Rattle.capture_core.specs.Capture.{CaptureRecord, capture}
use Rattle.capture_core.specs.Captured.{captured_events}
use Rattle.capture_core.specs.Packets.{Numbered}
use Rattle.capture_core.specs.Spelling.{SpellsCapture}
use Rattle.frame_engines.specs.ImportText.{import_text}

-- a record that a list can hold: 1 to 2,000 octets, and a moment of at most 18 digits
abbrev pub IsListedRecord : CaptureRecord → Type 0
IsListedRecord r = (r.moment < 10 ^ 18) × (0 < length r.octets) × (length r.octets ≤ 2000) × All (λ x. x < 256) r.octets

-- events whose lines have numbers that are one more than those of their packets: the first line is `V2`
abbrev pub one_line_later : {A : Type 0} → List (ℕ × Event A) → List (ℕ × Event A)
one_line_later es = map (λ e. (e.0 + 1, e.1)) es

-- A list says the events of a capture, and both end without a fault.
pub record SaysTheSame {A : Type 0} (list : Listing (Event A) ListCause) (events : Numbered (Event A)) : Type 0 where
  pub items : list.items ≡ one_line_later events.items
  pub list_ends : list.stop ≡ finished
  pub capture_ends : events.stop ≡ finished

-- the list that `import` writes of a header and records that a list can hold says the events of this capture
abbrev pub ImportedListsSayTheirCapture : Type 0 → Type 0
ImportedListsSayTheirCapture A = (rs : List CaptureRecord) (o : List ℕ) → SpellsCapture rs o → All IsListedRecord rs →
    SaysTheSame (listing (event_rules {A = A}) First End 0 (import_text (capture End o))) (captured_events End o)

-- What the definitions of captures say together.
use Rattle.std.specs.Prelude.{◌≡◌, ◌⊎◌, ℕ, List, [], ◌∷◌, ◌++◌, map, Some, None, Ok, Err}
use Rattle.list_core.specs.Lines.{WhateverComes, faulty, finished}
use Rattle.list_core.specs.declared.event.Event.{Event}
use Rattle.list_core.specs.declared.device.InputEnd.{InputEnd}
use Rattle.list_core.specs.declared.device.InputEnd.TheVariants.{End, Failed}
use Rattle.capture_core.specs.Capture.{CaptureRecord, capture}
use Rattle.capture_core.specs.Packets.{Numbered, Packet, event_of, packets_of_records}
use Rattle.capture_core.specs.Blocks.{Block}
use Rattle.capture_core.specs.Captured.{captured_events, captured_packets}
use Rattle.capture_core.specs.Spelling.{SpellsCapture, SpellsClassic, whole_capture}
use Rattle.capture_core.specs.SpelledBlocks.{SpellsSections, packets_said}
use Rattle.capture_core.specs.FirstFault.{IsCaptureFault}
use Rattle.capture_core.specs.PacketReader.{AnswersPacket, PacketState, at_start}
use Rattle.capture_core.specs.declared.capture_fault.CaptureFault.{CaptureFault}

-- a text that spells records is a capture of these
abbrev pub SpelledIsRead : Type 0
SpelledIsRead = (rs : List CaptureRecord) (o : List ℕ) → SpellsCapture rs o → capture End o ≡ whole_capture rs

-- a capture that ends without a fault has ended with its input, and its text spells its records
abbrev pub ReadIsSpelled : Type 0
ReadIsSpelled = (z : InputEnd) (o : List ℕ) → (capture z o).stop ≡ finished → (z ≡ End) × ((rs : List CaptureRecord) × SpellsCapture rs o × (capture z o ≡ whole_capture rs))

-- octets that are a capture of these packets: a header and records of the classic form, or sections of blocks; 999,999,999,999,999,998 records or blocks at most
abbrev pub SpellsPackets : Numbered Packet → List ℕ → Type 0
SpellsPackets l o = ((rs : List CaptureRecord) × SpellsClassic 999999999999999998 rs o × (l ≡ packets_of_records (whole_capture rs)))
    ⊎ ((bs : List Block) × SpellsSections bs o × (l ≡ packets_said 0 bs))

-- octets that are a capture of packets say these
abbrev pub SpelledPacketsAreRead : Type 0
SpelledPacketsAreRead = (l : Numbered Packet) (o : List ℕ) → SpellsPackets l o → captured_packets End o ≡ l

-- a capture that ends without a fault has ended with its input, and its octets are a capture of its packets
abbrev pub ReadPacketsAreSpelled : Type 0
ReadPacketsAreSpelled = (z : InputEnd) (o : List ℕ) → (captured_packets z o).stop ≡ finished → (z ≡ End) × SpellsPackets (captured_packets z o) o

-- octets with a first fault: what is read is the packets before it, and then that fault
abbrev pub FirstFaultIsRead : Type 0
FirstFaultIsRead = (z : InputEnd) (before : List (ℕ × Packet)) (f : CaptureFault) (o : List ℕ) → IsCaptureFault z before f o → captured_packets z o ≡ record { items = before; stop = faulty f }

-- the events of packets, with the packets' numbers
abbrev pub events_in : {A : Type 0} → List (ℕ × Packet) → List (ℕ × Event A)
events_in ps = map (λ p. (p.0, event_of p.1)) ps

-- and the events are those of these packets
abbrev pub FirstFaultEndsEvents : Type 0 → Type 0
FirstFaultEndsEvents A = (z : InputEnd) (before : List (ℕ × Packet)) (f : CaptureFault) (o : List ℕ) → IsCaptureFault z before f o → captured_events {A = A} z o ≡ record { items = events_in before; stop = faulty f }

-- a fault by which reading stops is the first that the octets have, and the packets that were read stand before it
abbrev pub ReadFaultIsFirst : Type 0
ReadFaultIsFirst = (z : InputEnd) (f : CaptureFault) (o : List ℕ) → (captured_packets z o).stop ≡ faulty f → IsCaptureFault z (captured_packets z o).items f o

-- no octets have two first faults
abbrev pub FirstFaultIsOne : Type 0
FirstFaultIsOne = (z : InputEnd) (before others : List (ℕ × Packet)) (f g : CaptureFault) (o : List ℕ) → IsCaptureFault z before f o → IsCaptureFault z others g o → (before ≡ others) × (f ≡ g)

-- octets that end so have a first fault
abbrev pub HasFirstFault : InputEnd → List ℕ → Type 0
HasFirstFault z o = (before : List (ℕ × Packet)) × (f : CaptureFault) × IsCaptureFault z before f o

-- octets behind which no more come are a capture of packets or have a first fault, and never both; where reading failed they have one in any case
abbrev pub EndedIsWholeOrFaulty : Type 0
EndedIsWholeOrFaulty = ((o : List ℕ) → ((l : Numbered Packet) × SpellsPackets l o) ⊎ HasFirstFault End o)
    × ((o : List ℕ) (l : Numbered Packet) → SpellsPackets l o → HasFirstFault End o → ⊥)
    × ((o : List ℕ) → HasFirstFault Failed o)

-- events that a reader of packets answers one behind another, from one state to another, for which its source gives these octets
abbrev pub AnswersEvents : {A : Type 0} → PacketState → List (ℕ × Event A) → List ℕ → PacketState → Type 0
AnswersEvents old [] given new = (given ≡ []) × (old ≡ new)
AnswersEvents old (e ∷ es) given new = (mid : PacketState) × (a : AnswersPacket old (Ok (Some e)) mid) × (rest : List ℕ) × (given ≡ a.given ++ rest) × AnswersEvents mid es rest new

-- a fault that a reader answers is the first that the octets given have, whatever still comes, and the events answered are those of the packets before it
abbrev pub AnsweredFaultIsFirst : Type 0 → Type 0
AnsweredFaultIsFirst A = (old mid new : PacketState) (es : List (ℕ × Event A)) (given : List ℕ) (f : CaptureFault) → old.stage ≡ at_start → AnswersEvents old es given mid →
    (a : AnswersPacket {A = A} mid (Err (Some f)) new) →
    WhateverComes new.ending (λ z more. (before : List (ℕ × Packet)) × IsCaptureFault z before f (given ++ (a.given ++ more)) × (es ≡ events_in before))

-- an end that a reader answers is that of a whole capture, and the events answered are those of its packets
abbrev pub AnsweredEndIsWhole : Type 0 → Type 0
AnsweredEndIsWhole A = (old mid new : PacketState) (es : List (ℕ × Event A)) (given : List ℕ) → old.stage ≡ at_start → AnswersEvents old es given mid → (a : AnswersPacket {A = A} mid (Ok None) new) →
    WhateverComes new.ending (λ z more. (z ≡ End) × ((l : Numbered Packet) × SpellsPackets l (given ++ (a.given ++ more)) × (es ≡ events_in l.items)))

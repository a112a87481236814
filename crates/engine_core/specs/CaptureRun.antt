-- A capture as an input: its events, and how far it was read for an answer.
use Rattle.std.specs.Prelude.{◌≡◌, ◌⊎◌, ℕ, ◌+◌, List, ◌++◌, length, None, Ok, Err}
use Rattle.list_core.specs.declared.device.InputEnd.{InputEnd}
use Rattle.list_core.specs.declared.device.InputEnd.TheVariants.{Open}
use Rattle.list_core.specs.declared.event.Event.{Event}
use Rattle.list_core.specs.Items.{put_items}
use Rattle.list_core.specs.Lines.{WhateverComes, unfinished}
use Rattle.list_core.specs.ReadItems.{AnswerOf}
use Rattle.capture_core.specs.declared.capture_fault.CaptureFault.{CaptureFault}
use Rattle.capture_core.specs.declared.capture_fault.CaptureCause.{CaptureCause}
use Rattle.capture_core.specs.declared.interface.Interface.{Interface}
use Rattle.capture_core.specs.Asked.{OnlyWhile}
use Rattle.capture_core.specs.Blocks.{Settled, describes, next_block, packets_of_blocks}
use Rattle.capture_core.specs.Captured.{captured_events}
use Rattle.capture_core.specs.PacketReader.{NextIsFrame, SomethingComes, TellsFrameNext}
use Rattle.capture_core.specs.Packets.{Numbered, events_of, is_failed_read}
use Rattle.engine_core.specs.EngineText.{Allowed}
use Rattle.engine_core.specs.Input.{Faults, Input}

-- what may be written of the events of a capture
abbrev pub CaptureText : Type 0 → Type 1
CaptureText A = Allowed (Event A) CaptureCause CaptureFault

-- Behind these events a frame is to be kept, which the octets read have begun: whatever comes behind them, the capture tells the events and then the frame, or that it stops inside it; and with some octets it tells the frame.
pub record KeepsFrame {A : Type 0} (z : InputEnd) (read : List ℕ) (events : List (ℕ × Event A)) : Type 0 where
  pub next : WhateverComes z (λ y more. (rest : Numbered (Event A)) × (captured_events y (read ++ more) ≡ put_items events rest) × NextIsFrame rest)
  pub can_come : SomethingComes z (λ y more. (rest : Numbered (Event A)) × (captured_events y (read ++ more) ≡ put_items events rest) × TellsFrameNext rest)

-- Behind these events an interface is to be kept: the last octets read are a block that describes it.
pub record KeepsInterface {A : Type 0} (z : InputEnd) (read : List ℕ) (events : List (ℕ × Event A)) : Type 0 where
  pub front : List ℕ
  pub block : List ℕ
  pub parts : read ≡ front ++ block
  -- what is settled before the block, how many packets are before it, and how many blocks may come
  pub settled : Settled
  pub packets : ℕ
  pub most : ℕ
  pub behind : WhateverComes z (λ y more. captured_events y (read ++ more) ≡ put_items events (events_of (packets_of_blocks y settled packets most (block ++ more))))
  pub interface : Interface
  pub is_interface : WhateverComes z (λ y more. next_block y (packets + 1) settled (block ++ more) ≡ Ok (describes interface, length block))

-- these octets tell no more than these events or the first of them, and not how the capture stops
pub record TellsNoMore {A : Type 0} (events : List (ℕ × Event A)) (octets : List ℕ) : Type 0 where
  pub told : List (ℕ × Event A)
  pub others : List (ℕ × Event A)
  pub parts : events ≡ told ++ others
  pub tells : captured_events Open octets ≡ record { items = told; stop = unfinished }

-- Behind these events no more of a capture was read than this answer needs: octets were asked for only while those read before them told no more than the events. Memory is wanted only where a frame or an interface is to be kept.
pub record StandsInCapture {A : Type 0} (z : InputEnd) (read : List ℕ) (events : List (ℕ × Event A)) (answer : AnswerOf (Event A) CaptureFault) : Type 0 where
  pub asked : OnlyWhile (TellsNoMore events) read Open z
  pub keeps : answer ≡ Err None → KeepsFrame z read events ⊎ KeepsInterface z read events

-- a refused event is a fault of its packet, and a capture has failed where its source has
abbrev pub capture_faults : Faults CaptureCause CaptureFault
capture_faults = record { refused = λ number cause. record { number = number; cause = cause }; failed = is_failed_read }

-- a capture, in either form
abbrev pub capture_input : {A : Type 0} → Input (Event A) CaptureCause CaptureFault
capture_input = record { says = captured_events; stands = λ z read events answer. StandsInCapture z read events answer; faults = capture_faults }

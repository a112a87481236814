-- What one step of a reader of packets promises: a header, a record or a block was read.
use Rattle.std.specs.Prelude.{◌≡◌, ◌⊎◌, ◌<◌, ℕ, ◌+◌, List, [], ◌∷◌, ◌++◌, Option, Some, Result, Ok, Err, IfOk, IfSome}
use Rattle.std.specs.Io.KnownBytes.{Consumes}
use Rattle.list_core.specs.declared.device.InputEnd.TheVariants.{Open}
use Rattle.list_core.specs.declared.event.Event.{Event}
use Rattle.list_core.specs.declared.event.EventKind.TheVariants.{Clock}
use Rattle.list_core.specs.Device.{OnlyOpen}
use Rattle.list_core.specs.Lines.{WhateverComes, unfinished}
use Rattle.tally_core.specs.Tally.{count_one}
use Rattle.capture_core.specs.Packets.{stopped}
use Rattle.capture_core.specs.Asked.{OnlyWhile}
use Rattle.capture_core.specs.PacketReader.{AnswersPacket, PacketState, packets_behind, packet_number_told, things_left}
use Rattle.capture_core.specs.declared.body.Said.{Said}
use Rattle.capture_core.specs.declared.body.Said.TheVariants as said
use Rattle.list_core.specs.ReadItems.{told_as}
use Rattle.capture_core.specs.declared.capture_fault.CaptureFault.{CaptureFault}
use Rattle.list_core.specs.declared.read_error.ReadError.{ReadError}
use Rattle.list_core.specs.declared.read_error.ReadError.TheVariants as error
use Rattle.capture_core.specs.declared.packet_reader.PacketReader.{PacketReader}
use Rattle.capture_core.specs.declared.packet_reader.Progress.{Progress}
use Rattle.capture_core.specs.declared.packet_reader.Progress.TheVariants as progress
use Rattle.capture_core.specs.declared.packet_reader.Step.{Step}
use Rattle.capture_core.specs.declared.packet_reader.Step.TheVariants.{Passed, Answered}

-- What was read has no packet: whatever comes, the packets are those of what follows.
pub record PassesOver (old new : PacketState) : Type 0 where
  pub given : List ℕ
  pub took : Consumes old.left new.left given
  pub only_open : OnlyOpen old.ending given new.ending
  pub asked : OnlyWhile (λ front. packets_behind old Open front ≡ stopped unfinished) given old.ending new.ending
  pub reads : WhateverComes new.ending (λ z more. packets_behind old z (given ++ more) ≡ packets_behind new z more)
  pub counted : new.other_links ≡ old.other_links

-- fewer headers, records or blocks may come after an event
abbrev pub FewerAfter : {A : Type 0} → Result (Option (Event A)) (ReadError CaptureFault) → PacketState → PacketState → Type 0
FewerAfter answer old new = IfOk answer (λ o. IfSome o (λ _. things_left new < things_left old))

-- what a step gave: nothing, and then fewer may come, or an answer
abbrev pub Steps : {A : Type 0} → PacketState → Step A → ℕ → PacketState → ℕ → Type 0
Steps old Passed m new n = PassesOver old new × (things_left new < things_left old) × (n ≡ m)
Steps old (Answered a) m new n = AnswersPacket old (told_as n a) new × (n ≡ packet_number_told (told_as n a) m) × FewerAfter a old new

-- a step gave this event
abbrev pub GivesEvent : {A : Type 0} → PacketState → Event A → ℕ → PacketState → ℕ → Type 0
GivesEvent old e m new n = Steps old (Answered (Ok (Some e))) m new n

-- nothing was read
abbrev pub IsAsBefore : PacketState → ℕ → PacketState → ℕ → Type 0
IsAsBefore old m new n = (new ≡ old) × (n ≡ m)

-- records or blocks are being read
abbrev pub IsReading : Progress → Type 0
IsReading progress.Nothing = ⊥
IsReading (progress.Records form) = Unit {0}
IsReading (progress.Blocks order) = Unit {0}
IsReading (progress.Over fault) = ⊥
IsReading progress.GivenUp = ⊥

-- memory was wanted
abbrev pub IsWantOfMemory : {A : Type 0} → Step A → Type 0
IsWantOfMemory Passed = ⊥
IsWantOfMemory (Answered (Ok o)) = ⊥
IsWantOfMemory (Answered (Err (error.Fault f))) = ⊥
IsWantOfMemory (Answered (Err (error.Memory e))) = Unit {0}

-- what a reader of blocks settles by what a block said: one block fewer may come, unless memory was wanted
abbrev pub Settles : {R A : Type 0} → PacketReader R A → Said A → Step A → PacketReader R A → Type 0
Settles old (said.Begins order) step new = (step ≡ Passed) × (new.progress ≡ progress.Blocks order) × (new.interfaces.items ≡ []) × (new.moment ≡ old.moment)
    × (new.answered ≡ old.answered) × (new.most + 1 ≡ old.most) × (new.other_links ≡ old.other_links)
Settles old (said.Describes i) step new =
    ((step ≡ Passed) × (new.progress ≡ old.progress) × (new.interfaces.items ≡ old.interfaces.items ++ i ∷ []) × (new.moment ≡ old.moment) × (new.answered ≡ old.answered) × (new.most + 1 ≡ old.most) × (new.other_links ≡ old.other_links))
    ⊎ (IsWantOfMemory step × (new.progress ≡ progress.GivenUp) × (new.answered ≡ old.answered) × (new.other_links ≡ old.other_links))
Settles old (said.Captures e) step new = (step ≡ Answered (Ok (Some e))) × (new.progress ≡ old.progress) × (new.interfaces.items ≡ old.interfaces.items) × (new.moment ≡ e.moment)
    × (new.answered ≡ old.answered + 1) × (new.most + 1 ≡ old.most) × (new.other_links ≡ old.other_links)
Settles old (said.CapturesOther moment link) step new = (step ≡ Answered (Ok (Some (record { moment = moment; kind = Clock })))) × (new.progress ≡ old.progress) × (new.interfaces.items ≡ old.interfaces.items)
    × (new.moment ≡ moment) × (new.answered ≡ old.answered + 1) × (new.most + 1 ≡ old.most) × (new.other_links ≡ count_one (old.answered + 1) link old.other_links)
Settles old said.Passes step new = (step ≡ Passed) × (new.progress ≡ old.progress) × (new.interfaces.items ≡ old.interfaces.items) × (new.moment ≡ old.moment)
    × (new.answered ≡ old.answered) × (new.most + 1 ≡ old.most) × (new.other_links ≡ old.other_links)

-- What the definitions say together: octets have one reading, and what is written is spelled.
use Rattle.std.specs.Prelude.{◌≡◌, ◌⊎◌, ℕ, ◌≤◌, List, length, slice_range, Ok, Err}
use Rattle.ber_core.specs.declared.fault.Fault.{Fault}
use Rattle.ber_core.specs.Length.{AreOctets}
use Rattle.pdu_core.specs.Goose.{SpellsGoose, GooseFault, goose_items}
use Rattle.pdu_core.specs.computed.GooseReading.{goose_at}
use Rattle.pdu_core.specs.Spellable.{IsSpellableGoose}
use Rattle.pdu_core.specs.Written.{HasWrittenGoose, written_goose}
use Rattle.pdu_core.specs.declared.goose.GoosePdu.{GoosePdu}

-- no octets spell two APDUs
abbrev pub PduIsOne : Type 0 → Type 0
PduIsOne A = (o : List ℕ) (p q : GoosePdu A) → SpellsGoose p o → SpellsGoose q o → p ≡ q

-- octets that spell an APDU have no fault, wherever they stand
abbrev pub PduOrFault : Type 0 → Type 0
PduOrFault A = (o : List ℕ) (at : ℕ) (p : GoosePdu A) (f : Fault) → SpellsGoose p o → GooseFault f at o → ⊥

-- octets that spell no APDU have one, wherever they stand
abbrev pub PduElseFault : Type 0 → Type 0
PduElseFault A = (o : List ℕ) (at : ℕ) → ((p : GoosePdu A) × SpellsGoose p o) ⊎ ((f : Fault) × GooseFault f at o)

-- no octets have two first faults
abbrev pub FaultIsOne : Type 0
FaultIsOne = (o : List ℕ) (at : ℕ) (f g : Fault) → GooseFault f at o → GooseFault g at o → f ≡ g

-- the values of the APDU that octets from p to e spell are read, and so is the first fault that they have
abbrev pub ReadingTells : Type 0 → Type 0
ReadingTells A = (o : List ℕ) (p e : ℕ) → p ≤ e → e ≤ length o →
    ((q : GoosePdu A) → SpellsGoose q (slice_range o p e) → goose_at o p e ≡ Ok (goose_items q)) × ((f : Fault) → GooseFault f p (slice_range o p e) → goose_at o p e ≡ Err f)

-- what is read are the values of an APDU that the octets spell, or the first fault that they have
abbrev pub ReadingIsTrue : Type 0 → Type 0
ReadingIsTrue A = (o : List ℕ) (p e : ℕ) → p ≤ e → e ≤ length o →
    ((q : GoosePdu A) → goose_at o p e ≡ Ok (goose_items q) → SpellsGoose q (slice_range o p e)) × ((f : Fault) → goose_at o p e ≡ Err f → GooseFault f p (slice_range o p e))

-- the written form of an APDU that has a spelling is one, unless its contents have more than 4294967295 octets
abbrev pub WrittenIsSpelled : Type 0 → Type 0
WrittenIsSpelled A = (p : GoosePdu A) → IsSpellableGoose p → HasWrittenGoose p → SpellsGoose p (written_goose p)

-- an APDU that octets spell has a spelling in the sense of its fields: what is read can be written
abbrev pub SpelledIsSpellable : Type 0 → Type 0
SpelledIsSpellable A = (p : GoosePdu A) (o : List ℕ) → AreOctets o → SpellsGoose p o → IsSpellableGoose p

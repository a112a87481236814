-- What the definitions of Sampled Values say together: octets have one reading, and what is written is spelled.
use Rattle.std.specs.Prelude.{◌≡◌, ◌⊎◌, ℕ, ◌≤◌, List, length, slice_range, Ok, Err}
use Rattle.ber_core.specs.declared.fault.Fault.{Fault}
use Rattle.ber_core.specs.Length.{AreOctets}
use Rattle.pdu_core.specs.Sampled.{SpellsAsdus, SpellsSv, SvFault, items_of_each}
use Rattle.pdu_core.specs.computed.SampledReading.{sv_at}
use Rattle.pdu_core.specs.SampledSpellable.{IsSpellableSv}
use Rattle.pdu_core.specs.SampledViews.{asdus_left, asdus_region}
use Rattle.pdu_core.specs.SampledWritten.{HasWrittenSv, written_sv}
use Rattle.pdu_core.specs.declared.sampled.asdu.Asdu.{Asdu}
use Rattle.pdu_core.specs.declared.sampled.asdu.SvPdu.{SvPdu}
use Rattle.pdu_core.specs.declared.sampled.view.Asdus.{Asdus}

-- no octets spell two APDUs
abbrev pub SvPduIsOne : Type 0 → Type 0
SvPduIsOne A = (o : List ℕ) (p q : SvPdu A) → SpellsSv p o → SpellsSv q o → p ≡ q

-- octets that spell an APDU have no fault, wherever they stand
abbrev pub SvPduOrFault : Type 0 → Type 0
SvPduOrFault A = (o : List ℕ) (at : ℕ) (p : SvPdu A) (f : Fault) → SpellsSv p o → SvFault f at o → ⊥

-- octets that spell no APDU have one, wherever they stand
abbrev pub SvPduElseFault : Type 0 → Type 0
SvPduElseFault A = (o : List ℕ) (at : ℕ) → ((p : SvPdu A) × SpellsSv p o) ⊎ ((f : Fault) × SvFault f at o)

-- no octets have two first faults
abbrev pub SvFaultIsOne : Type 0
SvFaultIsOne = (o : List ℕ) (at : ℕ) (f g : Fault) → SvFault f at o → SvFault g at o → f ≡ g

-- the values of the ASDUs of the APDU that octets from p to e spell are read, and so is the first fault that they have
abbrev pub SvReadingTells : Type 0 → Type 0
SvReadingTells A = (o : List ℕ) (p e : ℕ) → p ≤ e → e ≤ length o →
    ((q : SvPdu A) → SpellsSv q (slice_range o p e) → sv_at o p e ≡ Ok (items_of_each q.asdus)) × ((f : Fault) → SvFault f p (slice_range o p e) → sv_at o p e ≡ Err f)

-- what is read are the values of the ASDUs of an APDU that the octets spell, or the first fault that they have
abbrev pub SvReadingIsTrue : Type 0 → Type 0
SvReadingIsTrue A = (o : List ℕ) (p e : ℕ) → p ≤ e → e ≤ length o →
    ((q : SvPdu A) → sv_at o p e ≡ Ok (items_of_each q.asdus) → SpellsSv q (slice_range o p e)) × ((f : Fault) → sv_at o p e ≡ Err f → SvFault f p (slice_range o p e))

-- the written form of an APDU that has a spelling is one, unless its contents have more than 4294967295 octets
abbrev pub WrittenSvIsSpelled : Type 0 → Type 0
WrittenSvIsSpelled A = (p : SvPdu A) → IsSpellableSv p → HasWrittenSv p → SpellsSv p (written_sv p)

-- an APDU that octets spell has a spelling in the sense of its fields: what is read can be written
abbrev pub SpelledSvIsSpellable : Type 0 → Type 0
SpelledSvIsSpellable A = (p : SvPdu A) (o : List ℕ) → AreOctets o → SpellsSv p o → IsSpellableSv p

-- the octets that ASDUs are seen in spell the ASDUs that they stand for
abbrev pub SeenIsSpelled : Type 0 → Type 0
SeenIsSpelled A = (s : Asdus) → SpellsAsdus {A = A} (asdus_left s) (asdus_region s)

-- and no other ASDUs
abbrev pub SeenIsOne : Type 0 → Type 0
SeenIsOne A = (s : Asdus) (xs : List (Asdu A)) → SpellsAsdus xs (asdus_region s) → asdus_left s ≡ xs

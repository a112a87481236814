-- What the definitions say together: octets have one reading, and written forms are spellings, none of which is shorter.
use Rattle.std.specs.Prelude.{◌≡◌, ◌≤◌, ◌<◌, ◌-◌, ◌^◌, ◌⊎◌, ℕ, List, Ok, Err, length}
use Rattle.ber_core.specs.declared.fault.Fault.{Fault}
use Rattle.ber_core.specs.Length.{AreOctets}
use Rattle.mms_data.specs.Data.{Data}
use Rattle.mms_data.specs.Spelling.{Spells, SpellsAll, SpellSome, FaultIn}
use Rattle.mms_data.specs.Spellable.{IsSpellableAt, AllAreSpellable}
use Rattle.mms_data.specs.Written.{HasWritten, written, written_all}
use Rattle.mms_data.specs.Meaning.{left}
use Rattle.mms_data.specs.Place.{level_of, source_of}
use Rattle.mms_data.specs.computed.Reading.{members_at}
use Rattle.mms_data.specs.declared.view.Members.{Members}

-- octets spell one list of members at most
abbrev pub MembersAreOne : Type 0
MembersAreOne = (L : ℕ) (o : List ℕ) (ds es : List Data) → L ≤ 17 → SpellsAll ds L o → SpellsAll es L o → ds ≡ es

-- octets that spell members have no fault
abbrev pub MembersOrFault : Type 0
MembersOrFault = (L p : ℕ) (o : List ℕ) (ds : List Data) (f : Fault) → L ≤ 17 → SpellsAll ds L o → FaultIn f L p o → ⊥

-- octets that spell no members have one
abbrev pub MembersElseFault : Type 0
MembersElseFault = (L p : ℕ) (o : List ℕ) → L ≤ 17 → SpellSome L o ⊎ ((f : Fault) × FaultIn f L p o)

-- octets have one first fault at most
abbrev pub FaultIsOne : Type 0
FaultIsOne = (L p : ℕ) (o : List ℕ) (f g : Fault) → L ≤ 17 → FaultIn f L p o → FaultIn g L p o → f ≡ g

-- the members that octets spell at a level are read, and so is the first fault that they have
abbrev pub ReadingTells : Type 0
ReadingTells = (L p : ℕ) (o : List ℕ) → L ≤ 17 → ((ds : List Data) → SpellsAll ds L o → members_at (17 - L) p o ≡ Ok ds) × ((f : Fault) → FaultIn f L p o → members_at (17 - L) p o ≡ Err f)

-- what is read are members that the octets spell, or the first fault that they have
abbrev pub ReadingIsTrue : Type 0
ReadingIsTrue = (L p : ℕ) (o : List ℕ) → L ≤ 17 → ((ds : List Data) → members_at (17 - L) p o ≡ Ok ds → SpellsAll ds L o) × ((f : Fault) → members_at (17 - L) p o ≡ Err f → FaultIn f L p o)

-- the written form of a value that has a spelling, and contents of at most 4294967295 octets, spells it
abbrev pub WrittenIsSpelled : Type 0
WrittenIsSpelled = (d : Data) (L : ℕ) → IsSpellableAt d L → HasWritten d → Spells d L (written d)

-- the same of members, one after the other
abbrev pub AllWrittenAreSpelled : Type 0
AllWrittenAreSpelled = (ds : List Data) (L : ℕ) → AllAreSpellable ds L → length (written_all ds) < 2 ^ 32 → SpellsAll ds L (written_all ds)

-- a value that octets spell at a level has a spelling there in the sense of its fields: what is read can be written
abbrev pub SpelledIsSpellable : Type 0
SpelledIsSpellable = (d : Data) (L : ℕ) (o : List ℕ) → AreOctets o → Spells d L o → IsSpellableAt d L

-- no spelling of a value has fewer octets than its written form
abbrev pub WrittenIsShortest : Type 0
WrittenIsShortest = (d : Data) (L : ℕ) (o : List ℕ) → AreOctets o → Spells d L o → length (written d) ≤ length o

-- the same of members, one after the other
abbrev pub AllWrittenAreShortest : Type 0
AllWrittenAreShortest = (ds : List Data) (L : ℕ) (o : List ℕ) → AreOctets o → SpellsAll ds L o → length (written_all ds) ≤ length o

-- the octets that members are seen in spell the members that they stand for
abbrev pub SeenIsSpelled : Type 0
SeenIsSpelled = (m : Members) → SpellsAll (left m) (level_of m) (source_of m).now

-- and no other members
abbrev pub SeenIsOne : Type 0
SeenIsOne = (m : Members) (ds : List Data) → SpellsAll ds (level_of m) (source_of m).now → left m ≡ ds

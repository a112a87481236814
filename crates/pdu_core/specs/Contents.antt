-- The kinds of contents that the fields of a GOOSE APDU and of an ASDU have (IEC 61850-8-1, annex A; IEC 61850-9-2,
-- 8.5), what contents of each kind spell, and their faults.
use Rattle.std.specs.Prelude.{◌≡◌, ℕ, pos, ◌^◌, ◌+◌, ◌-◌, Bool, List, length}
use Rattle.ber_core.specs.Contents.{SpellsBoolean, BooleanFault, SpellsInteger, IntegerFault, SpellsVisible, VisibleFault, CountedFault}
use Rattle.ber_core.specs.Faults.{fault_of}
use Rattle.ber_core.specs.Fields.{Grammar}
use Rattle.ber_core.specs.Length.{number as octets_number}
use Rattle.ber_core.specs.declared.fault.Fault.{Fault}
use Rattle.ber_core.specs.declared.fault.Cause.TheVariants as causes
use Rattle.mms_data.specs.Contents.{IsFewOctets}
use Rattle.mms_data.specs.Data.{Data}
use Rattle.mms_data.specs.Spelling.{SpellsAll, FaultIn}
use Rattle.mms_data.specs.Utc.{SpellsUtc}
use Rattle.mms_data.specs.declared.time.UtcTime.{UtcTime}

-- a visible text, an integer, a boolean, a time, members of Data, a number in a stated count of octets, octets of
-- any count, and one to sixteen octets
pub data Kind : Type 0 where
  text : Kind
  number : Kind
  flag : Kind
  time : Kind
  members : Kind
  fixed : ℕ → Kind
  raw : Kind
  few : Kind

-- the value of a field that is there
pub data Item : Type 0 where
  a_text : List ℕ → Item
  a_number : ℕ → Item
  a_flag : Bool → Item
  a_time : UtcTime → Item
  some_members : List Data → Item
  a_fixed : ℕ → ℕ → Item
  some_octets : List ℕ → Item

-- c is the number n in so many octets, the most significant first
abbrev pub SpellsFixed : ℕ → ℕ → List ℕ → Type 0
SpellsFixed size n c = (length c ≡ size) × (octets_number c ≡ n)

-- contents of no octet, or of more than sixteen, are at fault
abbrev pub FewFault : Fault → ℕ → List ℕ → Type 0
FewFault f at c = ¬ IsFewOctets (length c) × (f ≡ fault_of (at + 1) causes.FixedLength)

-- the contents of a kind spell the value (profile: a number is at most 4294967295)
abbrev pub SpellsContents : Kind → Item → List ℕ → Type 0
SpellsContents text (a_text t) c = SpellsVisible t c
SpellsContents number (a_number n) c = SpellsInteger (pos 0) (pos (2 ^ 32 - 1)) (pos n) c
SpellsContents flag (a_flag b) c = SpellsBoolean b c
SpellsContents time (a_time t) c = SpellsUtc t c
SpellsContents members (some_members ds) c = SpellsAll ds 1 c
SpellsContents (fixed size) (a_fixed count n) c = (count ≡ size) × SpellsFixed size n c
SpellsContents raw (some_octets o) c = c ≡ o
SpellsContents few (some_octets o) c = (c ≡ o) × IsFewOctets (length o)
SpellsContents _ _ c = ⊥

-- the fault of contents of a kind that spell nothing, where the element stands at one place and its contents at another
abbrev pub ContentsFault : Fault → Kind → ℕ → ℕ → List ℕ → Type 0
ContentsFault f text at from c = VisibleFault f from c
ContentsFault f number at from c = IntegerFault f (pos 0) (pos (2 ^ 32 - 1)) at from c
ContentsFault f flag at from c = BooleanFault f at c
ContentsFault f time at from c = CountedFault f 8 at c
ContentsFault f members at from c = FaultIn f 1 from c
ContentsFault f (fixed size) at from c = CountedFault f size at c
ContentsFault f raw at from c = ⊥
ContentsFault f few at from c = FewFault f at c

-- what contents of each of these kinds spell, and what is wrong with those that spell nothing
abbrev pub contents_grammar : Grammar Kind Item
contents_grammar = record { spells = SpellsContents; fault = ContentsFault }

-- savPdu (IEC 61850-9-2, 8.5): its fields, its spellings, its faults.
use Rattle.std.specs.Prelude.{◌≡◌, ◌≢◌, ℕ, pos, ◌+◌, List, [], ◌∷◌, ◌++◌, length, Option, Some}
use Rattle.ber_core.specs.Contents.{SpellsInteger, IntegerFault}
use Rattle.ber_core.specs.Element.{Elem}
use Rattle.ber_core.specs.Faults.{fault_of}
use Rattle.ber_core.specs.Fields.{nested, Field, always, Grammar, SpellsFields, FieldsFault}
use Rattle.ber_core.specs.Length.{Len}
use Rattle.ber_core.specs.Repeated.{SpellsEach, EachFault}
use Rattle.ber_core.specs.declared.fault.Fault.{Fault}
use Rattle.ber_core.specs.declared.fault.Cause.TheVariants as causes
use Rattle.pdu_core.specs.Asdu.{asdu_fields, asdu_items}
use Rattle.pdu_core.specs.Contents.{Item, contents_grammar}
use Rattle.pdu_core.specs.declared.sampled.asdu.Asdu.{Asdu}
use Rattle.pdu_core.specs.declared.sampled.asdu.SvPdu.{SvPdu}

-- the contents of the element 30: the fields of an ASDU, in their order
abbrev pub asdu_grammar : Grammar (Unit {0}) (List (Option Item))
asdu_grammar = nested contents_grammar asdu_fields

-- the kinds of contents of the fields of a savPdu: the count of ASDUs, and the ASDUs, one after the other
pub data SvKind : Type 0 where
  asdu_count : SvKind
  asdus : SvKind

-- what such contents spell: a count, or for each ASDU the values of its fields
pub data SvItem : Type 0 where
  a_count : ℕ → SvItem
  some_asdus : List (List (Option Item)) → SvItem

-- the contents of a kind spell the value (a count is 1 to 65535)
abbrev pub SpellsSvContents : SvKind → SvItem → List ℕ → Type 0
SpellsSvContents asdu_count (a_count n) c = SpellsInteger (pos 1) (pos 65535) (pos n) c
SpellsSvContents asdus (some_asdus vss) c = SpellsEach asdu_grammar 0x30 tt vss c
SpellsSvContents _ _ c = ⊥

-- the fault of contents of a kind that spell nothing, where the element stands at one place and its contents at another
abbrev pub SvContentsFault : Fault → SvKind → ℕ → ℕ → List ℕ → Type 0
SvContentsFault f asdu_count at from c = IntegerFault f (pos 1) (pos 65535) at from c
SvContentsFault f asdus at from c = EachFault asdu_grammar 0x30 tt f from c

-- what contents of these kinds spell, and what is wrong with those that spell nothing
abbrev pub sv_grammar : Grammar SvKind SvItem
sv_grammar = record { spells = SpellsSvContents; fault = SvContentsFault }

-- the fields of a savPdu, in their order (IEC 61850-9-2, 8.5): noASDU, the count of ASDUs, and the ASDUs
abbrev pub sv_fields : List (Field SvKind SvItem)
sv_fields = record { identifier = 0x80; kind = asdu_count; presence = always } ∷ record { identifier = 0xa2; kind = asdus; presence = always } ∷ []

-- the values of the fields of each ASDU
abbrev pub items_of_each : {A : Type 0} → List (Asdu A) → List (List (Option Item))
items_of_each [] = []
items_of_each (a ∷ more) = asdu_items a ∷ items_of_each more

-- o is one ASDU after the other
abbrev pub SpellsAsdus : {A : Type 0} → List (Asdu A) → List ℕ → Type 0
SpellsAsdus xs o = SpellsEach asdu_grammar 0x30 tt (items_of_each xs) o

-- the values of the fields, in their order
abbrev pub sv_items : {A : Type 0} → SvPdu A → List (Option SvItem)
sv_items p = Some (a_count (length p.asdus)) ∷ Some (some_asdus (items_of_each p.asdus)) ∷ []

-- o is the element 60, and its contents are the count of the ASDUs (profile), and the ASDUs
abbrev pub SpellsSv : {A : Type 0} → SvPdu A → List ℕ → Type 0
SpellsSv p o = (c : List ℕ) × Elem 0x60 c o × SpellsFields sv_grammar sv_fields (sv_items p) c

-- what the contents of the element 60 spell: the values of the fields, whatever the count says
abbrev pub sv_apdu_grammar : Grammar (Unit {0}) (List (Option SvItem))
sv_apdu_grammar = nested sv_grammar sv_fields

-- the element 60 as the one field of a sequence
abbrev pub sv_apdu_fields : List (Field (Unit {0}) (List (Option SvItem)))
sv_apdu_fields = record { identifier = 0x60; kind = tt; presence = always } ∷ []

-- o, which stands at the place p, spells an APDU but for the count of ASDUs: the fault is at the identifier of the count
pub record AsduCountFault (f : Fault) (p : ℕ) (o : List ℕ) : Type 0 where
  pub size : List ℕ
  pub fields : List ℕ
  pub count : ℕ
  pub values : List (List (Option Item))
  pub parts : o ≡ 0x60 ∷ size ++ fields
  pub sized : Len (length fields) size
  pub spelled : SpellsFields sv_grammar sv_fields (Some (a_count count) ∷ Some (some_asdus values) ∷ []) fields
  pub differs : count ≢ length values
  pub fault : f ≡ fault_of (p + 1 + length size) causes.AsduCount

-- The fault of octets that stand at the place p and spell no APDU: the first fault of the fields; or, where the fields
-- have none, that of the count of ASDUs.
pub data SvFault (f : Fault) (p : ℕ) (o : List ℕ) : Type 0 where
  in_sv_fields : FieldsFault sv_apdu_grammar f sv_apdu_fields p o → SvFault f p o
  in_asdu_count : AsduCountFault f p o → SvFault f p o

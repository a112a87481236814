-- IECGoosePdu (IEC 61850-8-1, annex A): its fields, its spellings, its faults.
use Rattle.std.specs.Prelude.{◌≡◌, ◌≢◌, ℕ, ◌+◌, false, List, [], ◌∷◌, ◌++◌, length, Option, Some, None}
use Rattle.ber_core.specs.Length.{Len}
use Rattle.ber_core.specs.Element.{Elem}
use Rattle.ber_core.specs.Faults.{fault_of}
use Rattle.ber_core.specs.Fields.{Field, always, optional, default, Grammar, SpellsFields, FieldsFault, nested}
use Rattle.ber_core.specs.declared.fault.Fault.{Fault}
use Rattle.ber_core.specs.declared.fault.Cause.TheVariants as causes
use Rattle.mms_data.specs.Data.{Data}
use Rattle.pdu_core.specs.Contents.{Kind, text, number, flag, time, members, Item, a_text, a_number, a_flag, a_time, some_members, contents_grammar}
use Rattle.pdu_core.specs.declared.goose.GoosePdu.{GoosePdu}

-- the fields before the count of entries: gocbRef, timeAllowedtoLive, datSet, goID (optional), t, stNum, sqNum,
-- simulation (absent: false), confRev, ndsCom (absent: false)
abbrev pub goose_front : List (Field Kind Item)
goose_front =
    record { identifier = 0x80; kind = text; presence = always }
    ∷ record { identifier = 0x81; kind = number; presence = always }
    ∷ record { identifier = 0x82; kind = text; presence = always }
    ∷ record { identifier = 0x83; kind = text; presence = optional }
    ∷ record { identifier = 0x84; kind = time; presence = always }
    ∷ record { identifier = 0x85; kind = number; presence = always }
    ∷ record { identifier = 0x86; kind = number; presence = always }
    ∷ record { identifier = 0x87; kind = flag; presence = default (a_flag false) }
    ∷ record { identifier = 0x88; kind = number; presence = always }
    ∷ record { identifier = 0x89; kind = flag; presence = default (a_flag false) }
    ∷ []

-- numDatSetEntries, the count of entries, and allData, the entries
abbrev pub goose_end : List (Field Kind Item)
goose_end =
    record { identifier = 0x8a; kind = number; presence = always }
    ∷ record { identifier = 0xab; kind = members; presence = always }
    ∷ []

-- the fields of an IECGoosePdu, in their order (IEC 61850-8-1, annex A)
abbrev pub goose_fields : List (Field Kind Item)
goose_fields = goose_front ++ goose_end

-- the value of a field that holds a text, if it is there
abbrev pub text_if : Option (List ℕ) → Option Item
text_if None = None
text_if (Some t) = Some (a_text t)

-- the values of the fields, in their order
abbrev pub goose_items : {A : Type 0} → GoosePdu A → List (Option Item)
goose_items p =
    Some (a_text p.gocb_ref)
    ∷ Some (a_number p.live)
    ∷ Some (a_text p.dat_set)
    ∷ text_if p.go_id
    ∷ Some (a_time p.t)
    ∷ Some (a_number p.st_num)
    ∷ Some (a_number p.sq_num)
    ∷ Some (a_flag p.simulation)
    ∷ Some (a_number p.conf_rev)
    ∷ Some (a_flag p.nds_com)
    ∷ Some (a_number (length p.members))
    ∷ Some (some_members p.members)
    ∷ []

-- o is the element 61, and its contents are the fields in their order, with the values of the APDU, of which the count
-- of entries is that of its members (profile)
abbrev pub SpellsGoose : {A : Type 0} → GoosePdu A → List ℕ → Type 0
SpellsGoose p o = (c : List ℕ) × Elem 0x61 c o × SpellsFields contents_grammar goose_fields (goose_items p) c

-- what the contents of the element 61 spell: the values of the fields, whatever the count says
abbrev pub apdu_grammar : Grammar (Unit {0}) (List (Option Item))
apdu_grammar = nested contents_grammar goose_fields

-- the element 61 as the one field of a sequence
abbrev pub apdu_fields : List (Field (Unit {0}) (List (Option Item)))
apdu_fields = record { identifier = 0x61; kind = tt; presence = always } ∷ []

-- o, which stands at the place p, spells an APDU but for the count of entries: the fault is at the identifier of
-- the count
pub record CountFault (f : Fault) (p : ℕ) (o : List ℕ) : Type 0 where
  pub size : List ℕ
  pub front : List ℕ
  pub end : List ℕ
  pub values : List (Option Item)
  pub count : ℕ
  pub entries : List Data
  pub parts : o ≡ 0x61 ∷ size ++ (front ++ end)
  pub sized : Len (length (front ++ end)) size
  pub spelled : SpellsFields contents_grammar goose_front values front
  pub counted : SpellsFields contents_grammar goose_end (Some (a_number count) ∷ Some (some_members entries) ∷ []) end
  pub differs : count ≢ length entries
  pub fault : f ≡ fault_of (p + 1 + length size + length front) causes.EntryCount

-- The fault of octets that stand at the place p and spell no APDU: the first fault of the fields; or, where the fields
-- have none, that of the count of entries.
pub data GooseFault (f : Fault) (p : ℕ) (o : List ℕ) : Type 0 where
  in_fields : FieldsFault apdu_grammar f apdu_fields p o → GooseFault f p o
  in_entry_count : CountFault f p o → GooseFault f p o

-- An ASDU of Sampled Values (IEC 61850-9-2, 8.5): its fields and their values.
use Rattle.std.specs.Prelude.{ℕ, List, [], ◌∷◌, Option, Some, None}
use Rattle.ber_core.specs.Fields.{Field, always, optional}
use Rattle.mms_data.specs.declared.time.UtcTime.{UtcTime}
use Rattle.pdu_core.specs.Contents.{Kind, text, time, fixed, raw, few, Item, a_text, a_time, a_fixed, some_octets}
use Rattle.pdu_core.specs.Goose.{text_if}
use Rattle.pdu_core.specs.declared.sampled.asdu.Asdu.{Asdu}

-- the fields of an ASDU, in their order (IEC 61850-9-2, 8.5): svID, datSet (optional), smpCnt of two octets, confRev
-- of four, refrTm (optional), smpSynch of one, smpRate of two (optional), sample, and smpMod and the field 89 (both
-- optional, of one to sixteen octets: profile)
abbrev pub asdu_fields : List (Field Kind Item)
asdu_fields =
    record { identifier = 0x80; kind = text; presence = always }
    ∷ record { identifier = 0x81; kind = text; presence = optional }
    ∷ record { identifier = 0x82; kind = fixed 2; presence = always }
    ∷ record { identifier = 0x83; kind = fixed 4; presence = always }
    ∷ record { identifier = 0x84; kind = time; presence = optional }
    ∷ record { identifier = 0x85; kind = fixed 1; presence = always }
    ∷ record { identifier = 0x86; kind = fixed 2; presence = optional }
    ∷ record { identifier = 0x87; kind = raw; presence = always }
    ∷ record { identifier = 0x88; kind = few; presence = optional }
    ∷ record { identifier = 0x89; kind = few; presence = optional }
    ∷ []

-- the value of a field that holds a time, if it is there
abbrev pub time_if : Option UtcTime → Option Item
time_if None = None
time_if (Some t) = Some (a_time t)

-- the value of a field that holds a number in so many octets, if it is there
abbrev pub fixed_if : ℕ → Option ℕ → Option Item
fixed_if size None = None
fixed_if size (Some n) = Some (a_fixed size n)

-- the value of a field that holds octets, if it is there
abbrev pub some_octets_if : Option (List ℕ) → Option Item
some_octets_if None = None
some_octets_if (Some o) = Some (some_octets o)

-- the values of the fields, in their order
abbrev pub asdu_items : {A : Type 0} → Asdu A → List (Option Item)
asdu_items a =
    Some (a_text a.sv_id)
    ∷ text_if a.dat_set
    ∷ Some (a_fixed 2 a.smp_cnt)
    ∷ Some (a_fixed 4 a.conf_rev)
    ∷ time_if a.refr_tm
    ∷ Some (a_fixed 1 a.smp_synch)
    ∷ fixed_if 2 a.smp_rate
    ∷ Some (some_octets a.sample)
    ∷ some_octets_if a.smp_mod
    ∷ some_octets_if a.field_89
    ∷ []

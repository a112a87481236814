-- The object of a frame: its fields under the standard's names, in the order of the words of its line.
use Rattle.std.specs.Prelude.{◌≡◌, ℕ, List, [], ◌∷◌, ◌++◌, map, Option, Some, None, codes}
use Rattle.std.specs.Fmt.{decimal}
use Rattle.mms_data.specs.declared.time.UtcTime.{UtcTime}
use Rattle.pdu_core.specs.declared.goose.GoosePdu.{GoosePdu}
use Rattle.pdu_core.specs.declared.sampled.asdu.Asdu.{Asdu}
use Rattle.frame_core.specs.declared.frame.Apdu.{Apdu}
use Rattle.frame_core.specs.declared.frame.Apdu.TheVariants as apdu
use Rattle.frame_core.specs.declared.frame.Frame.{Frame}
use Rattle.frame_core.specs.declared.vlan_tag.VlanTag.{VlanTag}
use Rattle.text_core.specs.Pieces.{boolean_text, quoted, two_octets}
use Rattle.object_core.specs.Objects.{Field, array, decimal_or_null, null, object, object_line, octets_or_null, octets_value, text_or_null}
use Rattle.object_core.specs.Times.{time_fields}
use Rattle.object_core.specs.MemberObject.{AreMembers}
use Rattle.object_core.specs.EventObject.{event_fields}
use Rattle.object_core.specs.declared.counted.Counted.{Counted}

-- the control of a tag, all sixteen bits of it, or null
abbrev pub tag_value : Option VlanTag → List ℕ
tag_value None = null
tag_value (Some tag) = octets_value (two_octets tag.control)

-- the octets behind the APDU, or null
abbrev pub trailer_value : List ℕ → List ℕ
trailer_value [] = null
trailer_value (x ∷ xs) = octets_value (x ∷ xs)

-- what stands before the APDU: the addresses, the tag, the APPID, both reserved fields
abbrev pub envelope_fields : {A : Type 0} → Frame A → List Field
envelope_fields f =
    (codes "destination", octets_value f.destination)
    ∷ (codes "source", octets_value f.source)
    ∷ (codes "tag", tag_value f.tag)
    ∷ (codes "appid", octets_value (two_octets f.app_id))
    ∷ (codes "reserved1", octets_value (two_octets f.reserved1))
    ∷ (codes "reserved2", octets_value (two_octets f.reserved2))
    ∷ []

-- the fields of a GOOSE APDU, in their order in the standard, with this text of its members
abbrev pub goose_fields : {A : Type 0} → GoosePdu A → List ℕ → List Field
goose_fields p members =
    (codes "gocbRef", quoted p.gocb_ref)
    ∷ (codes "timeAllowedtoLive", decimal p.live)
    ∷ (codes "datSet", quoted p.dat_set)
    ∷ (codes "goID", text_or_null p.go_id)
    ∷ time_fields (codes "t") (codes "tTime") (codes "tQuality") p.t
    ++ (codes "stNum", decimal p.st_num)
    ∷ (codes "sqNum", decimal p.sq_num)
    ∷ (codes "simulation", boolean_text p.simulation)
    ∷ (codes "confRev", decimal p.conf_rev)
    ∷ (codes "ndsCom", boolean_text p.nds_com)
    ∷ (codes "members", members)
    ∷ []

-- the moment at which a buffer was refreshed, its date and its quality; null alone where there is none
abbrev pub refresh_fields : Option UtcTime → List Field
refresh_fields None = (codes "refrTm", null) ∷ []
refresh_fields (Some t) = time_fields (codes "refrTm") (codes "refrTime") (codes "refrQuality") t

-- the fields of an ASDU, in their order in the standard
abbrev pub asdu_fields : {A : Type 0} → Asdu A → List Field
asdu_fields a =
    (codes "svID", quoted a.sv_id)
    ∷ (codes "datSet", text_or_null a.dat_set)
    ∷ (codes "smpCnt", decimal a.smp_cnt)
    ∷ (codes "confRev", decimal a.conf_rev)
    ∷ refresh_fields a.refr_tm
    ++ (codes "smpSynch", decimal a.smp_synch)
    ∷ (codes "smpRate", decimal_or_null a.smp_rate)
    ∷ (codes "sample", octets_value a.sample)
    ∷ (codes "smpMod", octets_or_null a.smp_mod)
    ∷ (codes "field89", octets_or_null a.field_89)
    ∷ []

-- the object of an ASDU
abbrev pub asdu_object : {A : Type 0} → Asdu A → List ℕ
asdu_object a = object (asdu_fields a)

-- the kind of APDU
abbrev pub apdu_kind : {A : Type 0} → Apdu A → List ℕ
apdu_kind (apdu.Goose p) = codes "goose"
apdu_kind (apdu.Sampled p) = codes "sv"

-- The fields are those of an APDU: of GOOSE with some text of its members, which is settled but for the digits of floats.
abbrev pub AreApduFields : {A : Type 0} → Apdu A → List Field → Type 0
AreApduFields (apdu.Goose p) fields = (members : List ℕ) × AreMembers p.members members × (fields ≡ goose_fields p members)
AreApduFields (apdu.Sampled p) fields = fields ≡ (codes "asdus", array (map asdu_object p.asdus)) ∷ []

-- the text is the line of a frame's object: its number and moment, the envelope, the APDU, the trailer
abbrev pub IsFrameObject : {A : Type 0} → Counted → ℕ → ℕ → Frame A → List ℕ → Type 0
IsFrameObject counted n moment f text =
    (fields : List Field) × AreApduFields f.apdu fields
    × (text ≡ object_line (event_fields counted n moment (apdu_kind f.apdu) ++ envelope_fields f ++ fields ++ (codes "trailer", trailer_value f.trailer) ∷ []))

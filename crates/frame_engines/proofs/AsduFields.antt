-- The fields of an ASDU as its object is appended.
use Rattle.std.proofs.Common.{ℕ, List, [], ◌∷◌, ◌++◌}
use Rattle.std.specs.Prelude.{codes}
use Rattle.std.specs.Fmt.{decimal}
use Rattle.pdu_core.specs.declared.sampled.asdu.Asdu.{Asdu}
use Rattle.text_core.specs.Pieces.{quoted}
use Rattle.object_core.specs.Objects.{Field, decimal_or_null, octets_or_null, octets_value, text_or_null}
use Rattle.frame_engines.specs.FrameObject.{refresh_fields}
use Rattle.frame_engines.specs.computed.ObjectFields.{next_fields}

abbrev pub first_field : {A : Type 0} → Asdu A → Field
first_field a = (codes "svID", quoted a.sv_id)

-- between it and the moment of the refresh
abbrev pub front_fields : {A : Type 0} → Asdu A → List Field
front_fields a = (codes "datSet", text_or_null a.dat_set) ∷ (codes "smpCnt", decimal a.smp_cnt) ∷ (codes "confRev", decimal a.conf_rev) ∷ []

-- behind that moment
abbrev pub end_fields : {A : Type 0} → Asdu A → List Field
end_fields a =
    (codes "smpSynch", decimal a.smp_synch)
    ∷ (codes "smpRate", decimal_or_null a.smp_rate)
    ∷ (codes "sample", octets_value a.sample)
    ∷ (codes "smpMod", octets_or_null a.smp_mod)
    ∷ (codes "field89", octets_or_null a.field_89)
    ∷ []

-- from the count of the sample up to its rate
abbrev pub count_pieces : {A : Type 0} → Asdu A → List (List ℕ)
count_pieces a =
    (codes ",\"smpCnt\":" ++ decimal a.smp_cnt)
    ∷ (codes ",\"confRev\":" ++ decimal a.conf_rev)
    ∷ next_fields (refresh_fields a.refr_tm)
    ∷ (codes ",\"smpSynch\":" ++ decimal a.smp_synch)
    ∷ (codes ",\"smpRate\":" ++ decimal_or_null a.smp_rate)
    ∷ []

-- up to its sample
abbrev pub front_pieces : {A : Type 0} → Asdu A → List (List ℕ)
front_pieces a =
    (codes "{\"svID\":" ++ quoted a.sv_id) ∷ (codes ",\"datSet\":" ++ text_or_null a.dat_set) ∷ (count_pieces a ++ (codes ",\"sample\":" ++ octets_value a.sample) ∷ [])

-- behind its sample
abbrev pub end_pieces : {A : Type 0} → Asdu A → List (List ℕ)
end_pieces a = (codes ",\"smpMod\":" ++ octets_or_null a.smp_mod) ∷ (codes ",\"field89\":" ++ octets_or_null a.field_89) ∷ codes "}" ∷ []

-- The fields of a GOOSE APDU as its object is appended.
use Rattle.std.proofs.Common.{ℕ, List, [], ◌∷◌, ◌++◌}
use Rattle.std.specs.Prelude.{codes}
use Rattle.std.specs.Fmt.{decimal}
use Rattle.mms_data.specs.declared.time.UtcTime.{UtcTime}
use Rattle.pdu_core.specs.declared.goose.GoosePdu.{GoosePdu}
use Rattle.text_core.specs.Pieces.{boolean_text, quoted}
use Rattle.text_core.specs.ValueText.{time_text}
use Rattle.object_core.specs.Objects.{date_value, in_quotes, text_or_null}
use Rattle.object_core.specs.Times.{moment_of, quality_value}

-- the name of its members
abbrev pub name_pieces : List ℕ
name_pieces = codes ",\"members\":"

-- from its status number up to that name
abbrev pub state_pieces : {A : Type 0} → GoosePdu A → List (List ℕ)
state_pieces p =
    (codes ",\"stNum\":" ++ decimal p.st_num)
    ∷ (codes ",\"sqNum\":" ++ decimal p.sq_num)
    ∷ (codes ",\"simulation\":" ++ boolean_text p.simulation)
    ∷ (codes ",\"confRev\":" ++ decimal p.conf_rev)
    ∷ (codes ",\"ndsCom\":" ++ boolean_text p.nds_com)
    ∷ name_pieces
    ∷ []

-- its time
abbrev pub time_pieces : UtcTime → List (List ℕ)
time_pieces t =
    (codes ",\"t\":" ++ in_quotes (time_text t)) ∷ (codes ",\"tTime\":" ++ date_value (moment_of t)) ∷ (codes ",\"tQuality\":" ++ quality_value t.quality) ∷ []

-- up to ndsCom
abbrev pub front_pieces : {A : Type 0} → GoosePdu A → List (List ℕ)
front_pieces p =
    (codes ",\"gocbRef\":" ++ quoted p.gocb_ref)
    ∷ (codes ",\"timeAllowedtoLive\":" ++ decimal p.live)
    ∷ (codes ",\"datSet\":" ++ quoted p.dat_set)
    ∷ (codes ",\"goID\":" ++ text_or_null p.go_id)
    ∷ (codes ",\"t\":" ++ in_quotes (time_text p.t))
    ∷ (codes ",\"tTime\":" ++ date_value (moment_of p.t))
    ∷ (codes ",\"tQuality\":" ++ quality_value p.t.quality)
    ∷ (codes ",\"stNum\":" ++ decimal p.st_num)
    ∷ (codes ",\"sqNum\":" ++ decimal p.sq_num)
    ∷ (codes ",\"simulation\":" ++ boolean_text p.simulation)
    ∷ (codes ",\"confRev\":" ++ decimal p.conf_rev)
    ∷ (codes ",\"ndsCom\":" ++ boolean_text p.nds_com)
    ∷ []

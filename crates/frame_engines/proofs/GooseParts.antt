-- The fields of a GOOSE APDU, as they are written together.
use Rattle.std.proofs.Common.{ℕ, List, [], ◌∷◌, ◌++◌}
use Rattle.std.specs.Prelude.{codes}
use Rattle.std.specs.Fmt.{decimal}
use Rattle.pdu_core.specs.declared.goose.GoosePdu.{GoosePdu}
use Rattle.text_core.specs.Pieces.{boolean_text, quoted, quoted_or_dash}
use Rattle.text_core.specs.ValueText.{time_text}

-- from its time up to ndsCom, and a space
abbrev pub state_parts : {A : Type 0} → GoosePdu A → List (List ℕ)
state_parts p =
    codes " t="
    ∷ time_text p.t
    ∷ (codes " st=" ++ decimal p.st_num)
    ∷ (codes " sq=" ++ decimal p.sq_num)
    ∷ (codes " sim=" ++ boolean_text p.simulation)
    ∷ (codes " rev=" ++ decimal p.conf_rev)
    ∷ (codes " com=" ++ boolean_text p.nds_com)
    ∷ codes " "
    ∷ []

-- up to its members
abbrev pub front_parts : {A : Type 0} → GoosePdu A → List (List ℕ)
front_parts p =
    (codes " ref=" ++ quoted p.gocb_ref)
    ∷ (codes " live=" ++ decimal p.live)
    ∷ (codes " set=" ++ quoted p.dat_set)
    ∷ (codes " id=" ++ quoted_or_dash p.go_id)
    ∷ state_parts p

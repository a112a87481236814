-- The line of a frame.
use Rattle.std.specs.Prelude.{ℕ, List, [], ◌∷◌, ◌++◌, Option, Some, None, codes}
use Rattle.std.specs.List.{concat}
use Rattle.std.specs.Fmt.{decimal}
use Rattle.hex.specs.Hex.{encode_lower}
use Rattle.pdu_core.specs.declared.goose.GoosePdu.{GoosePdu}
use Rattle.frame_core.specs.declared.frame.Apdu.{Apdu}
use Rattle.frame_core.specs.declared.frame.Apdu.TheVariants as apdu
use Rattle.frame_core.specs.declared.frame.Frame.{Frame}
use Rattle.frame_core.specs.declared.vlan_tag.VlanTag.{VlanTag}
use Rattle.text_core.specs.Pieces.{quoted, quoted_or_dash, boolean_text, four_digits}
use Rattle.frame_engines.specs.SampledText.{sv_text}
use Rattle.text_core.specs.ValueText.{members_text, time_text}

-- the control of a tag, or a dash
abbrev pub tag_text : Option VlanTag → List ℕ
tag_text None = codes "-"
tag_text (Some tag) = four_digits tag.control

-- the octets behind the APDU, or a dash
abbrev pub trailer_text : List ℕ → List ℕ
trailer_text [] = codes "-"
trailer_text (x ∷ xs) = encode_lower (x ∷ xs)

-- what stands before the APDU: the addresses, the tag, the APPID, both reserved fields
abbrev pub envelope_parts : {A : Type 0} → Frame A → List (List ℕ)
envelope_parts f =
    encode_lower f.destination
    ∷ codes " "
    ∷ encode_lower f.source
    ∷ (codes " tag=" ++ tag_text f.tag)
    ∷ (codes " appid=" ++ four_digits f.app_id)
    ∷ (codes " r1=" ++ four_digits f.reserved1)
    ∷ (codes " r2=" ++ four_digits f.reserved2)
    ∷ []

-- the text of what stands before the APDU
abbrev pub envelope_text : {A : Type 0} → Frame A → List ℕ
envelope_text f = concat (envelope_parts f)

-- the fields of a GOOSE APDU, in their order in the standard
abbrev pub goose_parts : {A : Type 0} → GoosePdu A → List (List ℕ)
goose_parts p =
    (codes " ref=" ++ quoted p.gocb_ref)
    ∷ (codes " live=" ++ decimal p.live)
    ∷ (codes " set=" ++ quoted p.dat_set)
    ∷ (codes " id=" ++ quoted_or_dash p.go_id)
    ∷ codes " t="
    ∷ time_text p.t
    ∷ (codes " st=" ++ decimal p.st_num)
    ∷ (codes " sq=" ++ decimal p.sq_num)
    ∷ (codes " sim=" ++ boolean_text p.simulation)
    ∷ (codes " rev=" ++ decimal p.conf_rev)
    ∷ (codes " com=" ++ boolean_text p.nds_com)
    ∷ codes " "
    ∷ members_text p.members
    ∷ []

-- the text of a GOOSE APDU
abbrev pub goose_text : {A : Type 0} → GoosePdu A → List ℕ
goose_text p = concat (goose_parts p)

-- the word for the kind of APDU
abbrev pub apdu_word : {A : Type 0} → Apdu A → List ℕ
apdu_word (apdu.Goose p) = codes " goose "
apdu_word (apdu.Sampled p) = codes " sv "

-- the text of an APDU
abbrev pub apdu_text : {A : Type 0} → Apdu A → List ℕ
apdu_text (apdu.Goose p) = goose_text p
apdu_text (apdu.Sampled p) = sv_text p

-- the number of the line, the kind of APDU, the envelope, the APDU, the trailer
abbrev pub line_parts : {A : Type 0} → ℕ → Frame A → List (List ℕ)
line_parts n f =
    decimal n
    ∷ apdu_word f.apdu
    ∷ envelope_text f
    ∷ apdu_text f.apdu
    ∷ (codes " trailer=" ++ trailer_text f.trailer)
    ∷ codes "\n"
    ∷ []

-- the line of a frame
abbrev pub frame_line : {A : Type 0} → ℕ → Frame A → List ℕ
frame_line n f = concat (line_parts n f)

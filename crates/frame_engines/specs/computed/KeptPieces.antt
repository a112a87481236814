-- The pieces of the line of a frame of GOOSE around its two numbers.
use Rattle.std.specs.Prelude.{ℕ, Bool, true, false, List, [], ◌∷◌, ◌++◌, codes}
use Rattle.std.specs.List.{concat}
use Rattle.std.specs.Fmt.{decimal}
use Rattle.pdu_core.specs.declared.goose.GoosePdu.{GoosePdu}
use Rattle.frame_core.specs.declared.frame.Frame.{Frame}
use Rattle.text_core.specs.Pieces.{boolean_text, quoted, quoted_or_dash}
use Rattle.text_core.specs.ValueText.{members_text, time_text}
use Rattle.object_core.specs.Objects.{date_value, in_quotes, text_or_null}
use Rattle.object_core.specs.Times.{moment_of, quality_value}
use Rattle.frame_engines.specs.FrameText.{envelope_text, trailer_text}
use Rattle.frame_engines.specs.FrameObject.{envelope_fields}
use Rattle.frame_engines.specs.computed.KeptLine.{object_end}
use Rattle.frame_engines.specs.computed.ObjectFields.{next_fields}
use Rattle.frame_engines.specs.computed.SettledMembers.{settled_array}

-- of its line of text: before timeAllowedtoLive
abbrev pub line_front : {A : Type 0} → Frame A → GoosePdu A → List ℕ
line_front f p = concat (codes " goose " ∷ envelope_text f ∷ (codes " ref=" ++ quoted p.gocb_ref) ∷ codes " live=" ∷ [])

-- between the two
abbrev pub line_middle : {A : Type 0} → GoosePdu A → List ℕ
line_middle p = concat ((codes " set=" ++ quoted p.dat_set) ∷ (codes " id=" ++ quoted_or_dash p.go_id) ∷ (codes " t=" ++ time_text p.t) ∷ (codes " st=" ++ decimal p.st_num) ∷ codes " sq=" ∷ [])

-- behind sqNum
abbrev pub line_back : {A : Type 0} → Frame A → GoosePdu A → List ℕ
line_back f p =
    concat ((codes " sim=" ++ boolean_text p.simulation) ∷ (codes " rev=" ++ decimal p.conf_rev) ∷ (codes " com=" ++ boolean_text p.nds_com)
    ∷ codes " " ∷ members_text p.members ∷ (codes " trailer=" ++ trailer_text f.trailer ++ codes "\n") ∷ [])

-- of its object: from its head to timeAllowedtoLive
abbrev pub object_front : {A : Type 0} → Frame A → GoosePdu A → List ℕ
object_front f p = concat (next_fields (envelope_fields f) ∷ (codes ",\"gocbRef\":" ++ quoted p.gocb_ref) ∷ codes ",\"timeAllowedtoLive\":" ∷ [])

-- between the two
abbrev pub object_middle : {A : Type 0} → GoosePdu A → List ℕ
object_middle p =
    concat ((codes ",\"datSet\":" ++ quoted p.dat_set) ∷ (codes ",\"goID\":" ++ text_or_null p.go_id)
    ∷ (codes ",\"t\":" ++ in_quotes (time_text p.t)) ∷ (codes ",\"tTime\":" ++ date_value (moment_of p.t)) ∷ (codes ",\"tQuality\":" ++ quality_value p.t.quality)
    ∷ (codes ",\"stNum\":" ++ decimal p.st_num) ∷ codes ",\"sqNum\":" ∷ [])

-- from sqNum to its members
abbrev pub object_back : {A : Type 0} → GoosePdu A → List ℕ
object_back p =
    concat ((codes ",\"simulation\":" ++ boolean_text p.simulation) ∷ (codes ",\"confRev\":" ++ decimal p.conf_rev) ∷ (codes ",\"ndsCom\":" ++ boolean_text p.nds_com)
    ∷ codes ",\"members\":" ∷ [])

-- from its members to its end, where it is kept whole
abbrev pub object_tail : {A : Type 0} → Bool → Frame A → GoosePdu A → List ℕ
object_tail true f p = settled_array p.members ++ object_end f.trailer
object_tail false f p = []

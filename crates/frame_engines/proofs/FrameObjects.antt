-- The object of a frame, as its parts are appended.
use Rattle.std.proofs.Common.{◌≡◌, ℕ, List, [], ◌∷◌, ◌++◌, ap, sym, ◌∙◌, append_assoc, append-nil}
use Rattle.std.specs.Prelude.{codes}
use Rattle.frame_core.specs.declared.frame.Frame.{Frame}
use Rattle.object_core.specs.declared.counted.Counted.{Counted}
use Rattle.object_core.specs.EventObject.{event_fields, counted_name}
use Rattle.object_core.specs.Objects.{Field, date_value, in_quotes, opened}
use Rattle.std.specs.Fmt.{decimal}
use Rattle.frame_engines.specs.FrameObject.{AreApduFields, IsFrameObject, apdu_kind, envelope_fields, trailer_value}
use Rattle.frame_engines.specs.computed.ObjectFields.{next_fields}
use Rattle.frame_engines.proofs.ObjectTexts.{four_parts, line_end}

-- what follows the envelope: the fields of the APDU, the trailer, and the end of the line
abbrev pub IsRest : {A : Type 0} → Frame A → List ℕ → Type 0
IsRest f text = (fields : List Field) × AreApduFields f.apdu fields × (text ≡ next_fields fields ++ (codes ",\"trailer\":" ++ trailer_value f.trailer ++ codes "}\n"))

pub frame_parts : {A : Type 0} (counted : Counted) (n moment : ℕ) (f : Frame A) (rest : List ℕ) → IsRest f rest
    → IsFrameObject counted n moment f ((opened (event_fields counted n moment (apdu_kind f.apdu)) ++ next_fields (envelope_fields f)) ++ rest)
frame_parts counted n moment f rest is =
    let head = opened (event_fields counted n moment (apdu_kind f.apdu)) in
    let trailer = codes ",\"trailer\":" ++ trailer_value f.trailer in
    let whole : head ++ (next_fields (envelope_fields f) ++ (next_fields is.0 ++ (next_fields ((codes "trailer", trailer_value f.trailer) ∷ []) ++ codes "}\n")))
    ≡ opened (event_fields counted n moment (apdu_kind f.apdu) ++ (envelope_fields f ++ (is.0 ++ (codes "trailer", trailer_value f.trailer) ∷ []))) ++ codes "}\n" =
    four_parts (counted_name counted, decimal n) ((codes "microseconds", decimal moment) ∷ (codes "time", date_value moment) ∷ (codes "kind", in_quotes (apdu_kind f.apdu)) ∷ [])
    (envelope_fields f) is.0 ((codes "trailer", trailer_value f.trailer) ∷ []) (codes "}\n") in (
      is.0,
      is.1,
      append_assoc head (next_fields (envelope_fields f)) rest
          ∙ ap (λ (l : List ℕ). head ++ (next_fields (envelope_fields f) ++ l)) (is.2 ∙ ap (λ (l : List ℕ). next_fields is.0 ++ (l ++ codes "}\n")) (sym (append-nil trailer)))
          ∙ whole
          ∙ line_end (event_fields counted n moment (apdu_kind f.apdu) ++ (envelope_fields f ++ (is.0 ++ (codes "trailer", trailer_value f.trailer) ∷ []))),
    )

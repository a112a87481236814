use Rattle.std.proofs.Common.{List, ℕ, subst, refl}
use Rattle.pdu_core.specs.SampledViews.{asdu_of}
use Rattle.text_core.specs.Pieces.{AppendsText}
use Rattle.text_core.proofs.Fronts.{row_then}
use Rattle.text_core.proofs.PieceLemmas.{more, several, done}
use Rattle.frame_engines.specs.FrameObject.{refresh_fields}
use Rattle.frame_engines.proofs.AsduFields.{count_pieces, end_fields, end_pieces, first_field, front_fields, front_pieces}
use Rattle.frame_engines.proofs.ObjectTexts.{object_pieces}
use Rattle.frame_engines.proofs.texts.sampled_object.put_asdu_object.Goals as goal

pub returns : goal.returns
returns g c =
    let asdu = asdu_of {A = Unit {0}} c.args.asdu.now in
    subst (λ (text : List ℕ). AppendsText c.put_asdu_object_end.result c.args.out.now.items c.put_asdu_object_end.new.out.items text) (object_pieces (first_field asdu) (front_fields asdu) (refresh_fields asdu.refr_tm) (end_fields asdu))
    (row_then c.put_asdu_object_end.result _ _ _ (front_pieces asdu) (end_pieces asdu) (
    more c.in_ok-put_text.ensures (
    more c.in_ok-put_text_or.ensures (
    several (count_pieces asdu) c.in_ok-put_counts_fields.ensures (
    more c.in_ok-put_field_octets.ensures (
    done refl))))) c.put_asdu_object_end.ensures)

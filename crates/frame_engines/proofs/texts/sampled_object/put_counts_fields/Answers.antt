use Rattle.std.proofs.Common.{List, ℕ, [], ◌∷◌, ◌++◌, refl, subst, sym}
use Rattle.std.specs.Prelude.{codes}
use Rattle.std.specs.Fmt.{decimal}
use Rattle.std.proofs.lemmas.List.{append-nil}
use Rattle.text_core.specs.Pieces.{AppendsText}
use Rattle.text_core.proofs.Fronts.{row_then}
use Rattle.text_core.proofs.PieceLemmas.{more, done}
use Rattle.object_core.specs.Objects.{decimal_or_null}
use Rattle.frame_engines.specs.FrameObject.{refresh_fields}
use Rattle.frame_engines.specs.computed.ObjectFields.{next_fields}
use Rattle.frame_engines.proofs.texts.sampled_object.put_counts_fields.Goals as goal

pub returns : goal.returns
returns g c =
    let asdu = c.args.asdu.now in
    let rate = codes ",\"smpRate\":" ++ decimal_or_null asdu.smp_rate in
    row_then c.put_field_number_if.result _ _ _
    ((codes ",\"smpCnt\":" ++ decimal asdu.smp_cnt) ∷ (codes ",\"confRev\":" ++ decimal asdu.conf_rev) ∷ next_fields (refresh_fields asdu.refr_tm) ∷ (codes ",\"smpSynch\":" ++ decimal asdu.smp_synch) ∷ [])
    (rate ∷ []) (
    more c.in_ok-put_number.ensures (
    more c.in_ok-put_number-2.ensures (
    more c.in_ok-put_refresh_fields.ensures (
    more c.in_ok-put_number-3.ensures (
    done refl)))))
    (subst (λ (text : List ℕ). AppendsText c.put_field_number_if.result c.put_number-3.new.out.items c.put_field_number_if.new.out.items text) (sym (append-nil rate)) c.put_field_number_if.ensures)

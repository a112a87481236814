use Rattle.std.proofs.Common.{[], ◌∷◌, ◌++◌, List, ℕ, ap, refl, sym, append-nil}
use Rattle.std.specs.Prelude.{codes}
use Rattle.pdu_core.specs.Views.{octets_if}
use Rattle.text_core.specs.Pieces.{quoted, two_octets}
use Rattle.text_core.proofs.Fronts.{row_then, then_appended}
use Rattle.text_core.proofs.PieceLemmas.{done, more}
use Rattle.object_core.specs.Objects.{octets_value, text_or_null}
use Rattle.object_core.specs.Onward.{next_field}
use Rattle.inventory_engine.proofs.sighting.put_names.Goals as goal

pub returns : goal.returns
returns g c =
    let block = c.args.block.now in
    let dat_set = next_field (codes "datSet", quoted block.dat_set.now) in
    let go_id = next_field (codes "goID", text_or_null (octets_if block.go_id)) in
    row_then c.put_text_or.result _ _ _
    (next_field (codes "appid", octets_value (two_octets block.app_id)) ∷ next_field (codes "gocbRef", quoted block.gocb_ref.now) ∷ [])
    (dat_set ∷ go_id ∷ [])
    (more c.in_ok-put_field_octets.ensures (more c.in_ok-put_text.ensures (done refl)))
    (then_appended c.put_text_or.result _ _ _ dat_set go_id _ c.in_ok-put_text-2.ensures c.put_text_or.ensures (ap (λ (l : List ℕ). dat_set ++ l) (sym (append-nil go_id))))

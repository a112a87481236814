use Rattle.std.proofs.Common.{[], ◌∷◌, refl}
use Rattle.std.specs.Prelude.{codes}
use Rattle.std.specs.Fmt.{decimal}
use Rattle.text_core.proofs.Fronts.{appended, row_then}
use Rattle.text_core.proofs.PieceLemmas.{done, more}
use Rattle.inventory_engine.proofs.sighting.put_start.Goals as goal

pub returns : goal.returns
returns g c =
    row_then c.extend_from_slice-3.result _ _ _ (decimal c.args.number ∷ codes " " ∷ c.args.kind.now ∷ []) (codes " " ∷ [])
    (more c.in_ok-put_decimal.ensures (more c.in_ok-extend_from_slice.ensures.items (more c.in_ok-extend_from_slice-2.ensures.items (done refl))))
    (appended _ _ _ (codes " ") (codes " ") c.extend_from_slice-3.ensures.items refl)

use Rattle.std.proofs.Common.{[], ◌∷◌, refl, sym}
use Rattle.std.specs.List.{flat_map}
use Rattle.text_core.proofs.Fronts.{appended, then_appended}
use Rattle.text_core.proofs.PieceLemmas.{then_text}
use Rattle.inventory_engine.specs.computed.PieceText.{escaped_twice}
use Rattle.inventory_engine.proofs.Escapes.{quoted_escaped}
use Rattle.inventory_engine.proofs.pieces.put_quoted_twice.Goals as goal

pub returns : goal.returns
returns g c =
    let text = c.args.text.now in
    let inner = flat_map escaped_twice text in
    then_appended c.extend_from_slice-2.result _ _ _ (92 ∷ 34 ∷ inner) (92 ∷ 34 ∷ []) _ (then_text _ (92 ∷ 34 ∷ []) inner (92 ∷ 34 ∷ inner) _ _ c.in_ok-extend_from_slice.ensures.items c.in_ok-put_escaped_twice.ensures refl)
    (appended _ _ _ (92 ∷ 34 ∷ []) (92 ∷ 34 ∷ []) c.extend_from_slice-2.ensures.items refl) (sym (quoted_escaped text))

use Rattle.std.proofs.Common.{List, ℕ, [], ◌∷◌, ◌++◌, ap, refl, sym}
use Rattle.std.specs.List.{flat_map}
use Rattle.text_core.proofs.PieceLemmas.{then_text}
use Rattle.inventory_engine.specs.computed.PieceText.{escaped_piece}
use Rattle.inventory_engine.proofs.Escapes.{pieces_escaped}
use Rattle.inventory_engine.proofs.pieces.put_quoted_pieces.Goals as goal

pub returns : goal.returns
returns g c =
    let pieces = c.args.pieces.now in
    let inner = flat_map escaped_piece pieces in
    then_text _ (34 ∷ inner) (34 ∷ []) _ _ _ (then_text _ (34 ∷ []) inner (34 ∷ inner) _ _ c.in_ok-push.ensures.items c.in_ok-put_escaped_pieces.ensures refl) c.in_ok-push-2.ensures.items
    (ap (λ (l : List ℕ). (34 ∷ l) ++ 34 ∷ []) (sym (pieces_escaped pieces)))

-- Texts between quotation marks that stand between quotation marks.
use Rattle.std.proofs.Common.{◌≡◌, ℕ, List, [], ◌∷◌, ◌++◌, ap, refl, ◌∙◌}
use Rattle.std.specs.List.{flat_map}
use Rattle.std.proofs.lemmas.List.Concat.{flat_map-append}
use Rattle.text_core.specs.Pieces.{escaped, quoted}
use Rattle.inventory_engine.specs.declared.pieces.Piece.{Piece}
use Rattle.inventory_engine.specs.computed.PieceText.{escaped_piece, escaped_twice, piece_text}

-- each of several texts, and each of what is made of those
flat_map-flat_map : {X : Type 0} (f : ℕ → List ℕ) (g : X → List ℕ) (xs : List X) → flat_map f (flat_map g xs) ≡ flat_map (λ x. flat_map f (g x)) xs
flat_map-flat_map f g [] = refl
flat_map-flat_map f g (x ∷ xs) = flat_map-append f (g x) (flat_map g xs) ∙ ap (λ (l : List ℕ). flat_map f (g x) ++ l) (flat_map-flat_map f g xs)

pub pieces_escaped : (ps : List Piece) → flat_map escaped (flat_map piece_text ps) ≡ flat_map escaped_piece ps
pieces_escaped ps = flat_map-flat_map escaped piece_text ps

pub quoted_escaped : (text : List ℕ) → flat_map escaped (quoted text) ≡ (92 ∷ 34 ∷ flat_map escaped_twice text) ++ 92 ∷ 34 ∷ []
quoted_escaped text =
    flat_map-append escaped (34 ∷ flat_map escaped text) (34 ∷ [])
    ∙ ap (λ (l : List ℕ). (92 ∷ 34 ∷ l) ++ 92 ∷ 34 ∷ []) (flat_map-flat_map escaped escaped text)

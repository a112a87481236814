-- The text of a piece.
use Rattle.std.specs.Prelude.{ℕ, List, [], ◌∷◌}
use Rattle.std.specs.List.{flat_map}
use Rattle.std.specs.Fmt.{decimal}
use Rattle.pdu_core.specs.Views.{octets_if}
use Rattle.text_core.specs.Pieces.{escaped, four_digits, quoted, quoted_or_dash}
use Rattle.inventory_engine.specs.declared.pieces.Piece.{Piece}
use Rattle.inventory_engine.specs.declared.pieces.Piece.TheVariants as piece

-- the text that a piece stands for
abbrev pub piece_text : Piece → List ℕ
piece_text (piece.Octet octet) = octet ∷ []
piece_text (piece.Octets octets) = octets.now
piece_text (piece.Quoted text) = quoted text.now
piece_text (piece.Optional text) = quoted_or_dash (octets_if text)
piece_text (piece.Digits number) = four_digits number
piece_text (piece.Decimal number) = decimal number

-- an octet of a text as it stands in a text that is written between quotation marks twice
abbrev pub escaped_twice : ℕ → List ℕ
escaped_twice c = flat_map escaped (escaped c)

-- the text of a piece as it stands between quotation marks
abbrev pub escaped_piece : Piece → List ℕ
escaped_piece p = flat_map escaped (piece_text p)

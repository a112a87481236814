use Rattle.std.proofs.Common.{◌≡◌, ◌++◌, ◌∙◌, List, ap, take}
use Rattle.std.specs.List.{flat_map}
use Rattle.std.proofs.lemmas.List.{take_all}
use Rattle.inventory_engine.specs.computed.PieceText.{piece_text}
use Rattle.inventory_engine.specs.declared.pieces.Piece.{Piece}
use Rattle.text_core.proofs.Afters.{is_other, is_whole, stops_at}
use Rattle.inventory_engine.proofs.pieces.is_text.Goals as goal

pub returns-in-None : goal.returns-in-None
returns-in-None c =
    let pieces = c.args.pieces.now in
    let i = c.loop-piece.piece-index in
    is_other c.args.text.now (flat_map piece_text pieces) (stops_at piece_text pieces i _ c.loop-piece-test.true c.args.text.now c.loop-piece.rest.now c.loop-piece.invariant c.in-None.ensures)

pub returns : goal.returns
returns c =
    let pieces = c.args.pieces.now in
    let all : take c.loop-piece.piece-index pieces ≡ pieces = take_all c.loop-piece.piece-index pieces c.loop-piece-test.false in
    let text = c.loop-piece.invariant ∙ ap (λ (ps : List Piece). flat_map piece_text ps ++ c.loop-piece.rest.now) all in
    c.is_empty.ensures ∙ is_whole c.args.text.now (flat_map piece_text pieces) c.loop-piece.rest.now text

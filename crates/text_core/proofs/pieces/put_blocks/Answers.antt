use Rattle.std.proofs.Common.{length, take, ◌≡◌, ◌∙◌, sym, subst}
use Rattle.text_core.proofs.Fronts.{front_grows}
use Rattle.text_core.proofs.HexPieces.{digits_written}
use Rattle.text_core.proofs.pieces.put_blocks.Goals as goal

pub blocks-2-preserved : goal.blocks-2-preserved
blocks-2-preserved g c =
    let cut = c.in-Some.ensures.cases in
    let put = c.in_ok-extend_from_slice.ensures.items in
    let start = c.args.out.now.items in
    record {
      kept = subst (λ items. take (length start) items ≡ start) (sym put) (front_grows start c.blocks-2.out.items c.block_digits.result c.blocks-2.invariant.kept);
      so_far = digits_written g.row.N c.blocks-2.out.items c.extend_from_slice.new.self.items c.blocks-2.others.now c.in-Some.block.now c.in-Some.rest.now c.block_digits.result
          put c.block_digits.ensures cut.0 cut.1
          ∙ c.blocks-2.invariant.so_far;
    }

use Rattle.std.proofs.Common.{◌-◌, arith, length, refl}
use Rattle.text_core.proofs.PlainTexts.{short_text}
use Rattle.text_core.proofs.pieces.put_short_text.Goals as goal

pub returns-then-are_plain-2 : goal.returns-then-are_plain-2
returns-then-are_plain-2 g c =
    let text = c.args.text.now in
    rw (← short_text text _ _ g.row.N (length text - g.row.N) c.in-Some.ensures.cases.0 c.in-Some-split_last_chunk.ensures.cases.1 (omega arith) (c.if-are_plain.ensures refl) (c.if-are_plain-2.ensures refl)) c.put_halves.ensures

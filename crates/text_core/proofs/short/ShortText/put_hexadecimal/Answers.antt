use Rattle.std.proofs.Common.{ℕ, List, ◌++◌, ap, ◌∙◌}
use Rattle.text_core.proofs.HexPieces.{front_digits}
use Rattle.text_core.proofs.short.ShortText.put_hexadecimal.Goals as goal

pub returns-clause-text : goal.returns-clause-text
returns-clause-text c =
    let digits = front_digits c.block_digits.result c.copy_from_slice.new.self c.args.octets.now _ c.block_digits.ensures c.copy_from_slice.ensures.after in
    c.put.ensures.text ∙ ap (λ (l : List ℕ). l ++ c.args.self.now) digits

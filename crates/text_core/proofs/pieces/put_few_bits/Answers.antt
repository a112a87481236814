use Rattle.std.proofs.Common.{List, ℕ, arith, length, subst, sym, ◌≡◌}
use Rattle.text_core.specs.Pieces.{AppendsText, bits_text}
use Rattle.text_core.proofs.BitLemmas.{these_two}
use Rattle.text_core.proofs.pieces.put_few_bits.Goals as goal

pub returns-in-len2 : goal.returns-in-len2
returns-in-len2 g c =
    let octets = c.args.octets.now in
    let two : length octets ≡ 2 = omega arith in
    subst (λ (os : List ℕ). AppendsText c.put_two_bits.result c.args.out.now.items c.put_two_bits.new.out.items (bits_text c.args.unused os)) (sym (these_two octets two)) c.put_two_bits.ensures

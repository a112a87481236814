use Rattle.text_core.proofs.BitLemmas.{bits_cleared}
use Rattle.text_core.proofs.value.put_bit_view.Goals as goal

pub returns : goal.returns
returns g c = rw (bits_cleared c.args.bits.unused c.args.bits.octets.now c.args.bits.at_most_seven) c.put_few_bits.ensures

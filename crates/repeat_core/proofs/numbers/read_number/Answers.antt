use Rattle.std.proofs.Common.{sym}
use Rattle.pdu_core.proofs.Items.{cast_fits, number_cast}
use Rattle.repeat_core.proofs.numbers.read_number.Goals as goal

pub overflow_cast-result : goal.overflow_cast-result
overflow_cast-result c = let s = c.in_ok-integer_in.ensures.found in cast_fits c.in_ok-integer_in.field-0 s.0 s.1

pub returns : goal.returns
returns c =
    let s = c.in_ok-integer_in.ensures.found in
    number_cast c.args.octets.now c.args.header.now c.in_ok-integer_in.field-0 s.0 s.1 (sym c.in_ok-integer_in.ensures.exact)

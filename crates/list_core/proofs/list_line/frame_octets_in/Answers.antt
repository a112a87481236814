use Rattle.std.proofs.Common.{arith, length, ◌<◌}
use Rattle.std.proofs.lemmas.Bool.Decides.{nat_tests}
use Rattle.list_core.proofs.LineShapes.{octets_answer}
use Rattle.list_core.proofs.list_line.frame_octets_in.Goals as goal

pub returns : goal.returns
returns g c =
    let there : 0 < length c.args.digits.now = grind (arith, nat_tests) in
    octets_answer c.args.digits.now c.octets_by.result there (omega arith) (omega arith) c.octets_by.ensures

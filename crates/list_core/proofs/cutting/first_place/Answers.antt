use Rattle.std.proofs.Common.{Some, None, drop}
use Rattle.std.proofs.lemmas.List.{take_rest}
use Rattle.list_core.specs.computed.PrivateOctets.{IsFirstPlace}
use Rattle.list_core.proofs.Cuts.{first-past}
use Rattle.list_core.proofs.cutting.first_place.Goals as goal

pub returns-in-Some : goal.returns-in-Some
returns-in-Some c =
    let xs = c.args.octets.now in
    let n = c.pass_pieces-start-3.result in
    let passed = c.pass_pieces-start-3.ensures in
    let found : IsFirstPlace c.args.wanted (drop n xs) (Some c.in-Some.at) = rw (take_rest xs n) at c.in-Some.ensures in
    first-past c.args.wanted xs n (Some c.in-Some.at) passed.within passed.before found

pub returns-in-None : goal.returns-in-None
returns-in-None c =
    let xs = c.args.octets.now in
    let n = c.pass_pieces-start-3.result in
    let passed = c.pass_pieces-start-3.ensures in
    let found : IsFirstPlace c.args.wanted (drop n xs) None = rw (take_rest xs n) at c.in-None.ensures in
    first-past c.args.wanted xs n None passed.within passed.before found

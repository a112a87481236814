use Rattle.std.proofs.Common.{Some, None, drop}
use Rattle.std.proofs.lemmas.List.{take_rest}
use Rattle.list_core.specs.computed.PrivateOctets.{IsFirstPlace}
use Rattle.list_core.specs.Reader.{held}
use Rattle.list_core.proofs.Cuts.{first-past}
use Rattle.list_core.proofs.line_reader.LineReader.look.Goals as goal

pub returns-in-Some : goal.returns-in-Some
returns-in-Some g c =
    let xs = held c.args.self.now in
    let found : IsFirstPlace 10 (drop c.args.scanned xs) (Some c.in-Some.at) = rw (take_rest xs c.args.scanned) at c.in-Some.ensures in
    first-past 10 xs c.args.scanned (Some c.in-Some.at) c.requires.within c.requires.before found

pub returns-in-None : goal.returns-in-None
returns-in-None g c =
    let xs = held c.args.self.now in
    let found : IsFirstPlace 10 (drop c.args.scanned xs) None = rw (take_rest xs c.args.scanned) at c.in-None.ensures in
    first-past 10 xs c.args.scanned None c.requires.within c.requires.before found

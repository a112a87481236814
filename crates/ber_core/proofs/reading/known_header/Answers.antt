use Rattle.ber_core.proofs.Answered.{found_by}
use Rattle.std.proofs.Common.{Ok, sym}
use Rattle.ber_core.proofs.reading.known_header.Goals as goal

pub returns-clause-found : goal.returns-clause-found
returns-clause-found c = found_by c.args.octets.now c.args.at c.args.end c.requires.ordered c.requires.inside (Ok c.known_front.result) (sym c.known_front.ensures.exact)

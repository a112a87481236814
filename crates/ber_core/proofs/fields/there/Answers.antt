use Rattle.ber_core.proofs.FieldAnswers.{there_found, there_only, there_none, there_fault, there_fault_only}
use Rattle.ber_core.proofs.fields.there.Goals as goal

pub returns-clause-found : goal.returns-clause-found
returns-clause-found c = there_found c.args.identifier c.args.octets.now c.args.at c.args.end c.requires.ordered c.requires.inside c.read_there.result c.read_there.ensures.exact

pub returns-clause-only : goal.returns-clause-only
returns-clause-only c = there_only c.args.identifier c.args.octets.now c.args.at c.args.end c.requires.ordered c.requires.inside c.read_there.result c.read_there.ensures.exact

pub returns-clause-absent : goal.returns-clause-absent
returns-clause-absent c = there_none c.args.identifier c.args.octets.now c.args.at c.args.end c.requires.ordered c.requires.inside c.read_there.result c.read_there.ensures.exact

pub returns-clause-fault : goal.returns-clause-fault
returns-clause-fault c = there_fault c.args.identifier c.args.octets.now c.args.at c.args.end c.requires.ordered c.requires.inside c.read_there.result c.read_there.ensures.exact

pub returns-clause-fault_only : goal.returns-clause-fault_only
returns-clause-fault_only c = there_fault_only c.args.identifier c.args.octets.now c.args.at c.args.end c.requires.ordered c.requires.inside c.read_there.result c.read_there.ensures.exact

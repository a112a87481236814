use Rattle.ber_core.proofs.FieldAnswers.{required_is, required_only, required_fault, required_fault_only}
use Rattle.ber_core.proofs.fields.required.Goals as goal

pub returns-clause-found : goal.returns-clause-found
returns-clause-found c = required_is c.args.identifier c.args.octets.now c.args.at c.args.end c.requires.ordered c.requires.inside c.read_required.result c.read_required.ensures.exact

pub returns-clause-only : goal.returns-clause-only
returns-clause-only c = required_only c.args.identifier c.args.octets.now c.args.at c.args.end c.requires.ordered c.requires.inside c.read_required.result c.read_required.ensures.exact

pub returns-clause-fault : goal.returns-clause-fault
returns-clause-fault c = required_fault c.args.identifier c.args.octets.now c.args.at c.args.end c.requires.ordered c.requires.inside c.read_required.result c.read_required.ensures.exact

pub returns-clause-fault_only : goal.returns-clause-fault_only
returns-clause-fault_only c = required_fault_only c.args.identifier c.args.octets.now c.args.at c.args.end c.requires.ordered c.requires.inside c.read_required.result c.read_required.ensures.exact

use Rattle.pdu_core.proofs.Shown.{shown_found, shown_only, shown_fault, shown_fault_only}
use Rattle.pdu_core.proofs.viewing.view_goose.Goals as goal

pub returns-clause-found : goal.returns-clause-found
returns-clause-found c = shown_found (Unit {0}) c.args.octets.now c.args.at c.args.end c.requires.ordered c.requires.inside c.see_goose.result c.see_goose.ensures.exact

pub returns-clause-only : goal.returns-clause-only
returns-clause-only c = shown_only (Unit {0}) c.args.octets.now c.args.at c.args.end c.requires.ordered c.requires.inside c.see_goose.result c.see_goose.ensures.exact

pub returns-clause-fault : goal.returns-clause-fault
returns-clause-fault c = shown_fault (Unit {0}) c.args.octets.now c.args.at c.args.end c.requires.ordered c.requires.inside c.see_goose.result c.see_goose.ensures.exact

pub returns-clause-fault_only : goal.returns-clause-fault_only
returns-clause-fault_only c = shown_fault_only (Unit {0}) c.args.octets.now c.args.at c.args.end c.requires.ordered c.requires.inside c.see_goose.result c.see_goose.ensures.exact

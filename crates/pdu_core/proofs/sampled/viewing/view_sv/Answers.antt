use Rattle.pdu_core.proofs.SvShown.{sv_shown_found, sv_shown_only, sv_shown_fault, sv_shown_fault_only}
use Rattle.pdu_core.proofs.sampled.viewing.view_sv.Goals as goal

pub returns-clause-found : goal.returns-clause-found
returns-clause-found c = sv_shown_found c.args.octets.now c.args.at c.args.end c.requires.ordered c.requires.inside (Unit {0}) c.see_sv.result c.see_sv.ensures.exact

pub returns-clause-only : goal.returns-clause-only
returns-clause-only c = sv_shown_only c.args.octets.now c.args.at c.args.end c.requires.ordered c.requires.inside (Unit {0}) c.see_sv.result c.see_sv.ensures.exact

pub returns-clause-fault : goal.returns-clause-fault
returns-clause-fault c = sv_shown_fault c.args.octets.now c.args.at c.args.end c.requires.ordered c.requires.inside (Unit {0}) c.see_sv.result c.see_sv.ensures.exact

pub returns-clause-fault_only : goal.returns-clause-fault_only
returns-clause-fault_only c = sv_shown_fault_only c.args.octets.now c.args.at c.args.end c.requires.ordered c.requires.inside (Unit {0}) c.see_sv.result c.see_sv.ensures.exact

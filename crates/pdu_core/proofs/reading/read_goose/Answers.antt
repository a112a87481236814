use Rattle.std.proofs.Common.{Err, ap, refl, subst, sym}
use Rattle.std.proofs.lemmas.Result.{err_from_is_err_and}
use Rattle.mms_data.specs.declared.fault.ReadFault.TheVariants as errors
use Rattle.pdu_core.specs.Memory.{GooseNeedsNoMemory}
use Rattle.pdu_core.specs.Views.{pdu_of}
use Rattle.pdu_core.proofs.Read.{read_found, read_only, read_no_fault, refused_only, refused_fault_only}
use Rattle.pdu_core.proofs.reading.read_goose.Goals as goal

pub returns-in_err-view-clause-only : goal.returns-in_err-view-clause-only
returns-in_err-view-clause-only g c =
    let p = err_from_is_err_and c.from_residual.result c.from_residual.ensures.1 in
    rw (p.1, p.2) (λ s spelled. refused_only c.args.octets.now c.args.at c.args.end c.requires.ordered c.requires.inside c.in_err-view.field-0.0 s c.in_err-view.ensures.exact spelled)

pub returns-in_err-view-clause-fault_only : goal.returns-in_err-view-clause-fault_only
returns-in_err-view-clause-fault_only g c =
    let p = err_from_is_err_and c.from_residual.result c.from_residual.ensures.1 in
    rw (p.1, p.2) (λ f wrong. ap (λ x. Err (errors.Fault x)) (refused_fault_only c.args.octets.now c.args.at c.args.end c.requires.ordered c.requires.inside c.in_err-view.field-0.0 f c.in_err-view.ensures.exact wrong))

pub returns-clause-found : goal.returns-clause-found
returns-clause-found g c = read_found c.args.octets.now c.args.at c.args.end c.requires.ordered c.requires.inside (pdu_of c.in_ok-view.view) c.in_ok-to_pdu.field-0 c.in_ok-view.ensures.exact c.in_ok-to_pdu.ensures.value

pub returns-clause-only : goal.returns-clause-only
returns-clause-only g c = λ s spelled. read_only c.args.octets.now c.args.at c.args.end c.requires.ordered c.requires.inside (pdu_of c.in_ok-view.view) c.in_ok-to_pdu.field-0 s c.in_ok-view.ensures.exact c.in_ok-to_pdu.ensures.value spelled

pub returns-clause-fault_only : goal.returns-clause-fault_only
returns-clause-fault_only g c = λ f wrong. absurd (read_no_fault {A = Unit {0}} c.args.octets.now c.args.at c.args.end c.requires.ordered c.requires.inside (pdu_of c.in_ok-view.view) f c.in_ok-view.ensures.exact wrong)

pub returns-in_err-to_pdu-clause-fault_only : goal.returns-in_err-to_pdu-clause-fault_only
returns-in_err-to_pdu-clause-fault_only g c = λ f wrong. absurd (read_no_fault {A = Unit {0}} c.args.octets.now c.args.at c.args.end c.requires.ordered c.requires.inside (pdu_of c.in_ok-view.view) f c.in_ok-view.ensures.exact wrong)

pub returns-in_err-view-clause-none : goal.returns-in_err-view-clause-none
returns-in_err-view-clause-none g c = λ s spelled small.
    absurd (refused_only c.args.octets.now c.args.at c.args.end c.requires.ordered c.requires.inside c.in_err-view.field-0.0 s c.in_err-view.ensures.exact spelled)

pub returns-in_err-to_pdu-clause-none : goal.returns-in_err-to_pdu-clause-none
returns-in_err-to_pdu-clause-none g c = λ s spelled small.
    let view = pdu_of c.in_ok-view.view in
    let same = read_only c.args.octets.now c.args.at c.args.end c.requires.ordered c.requires.inside view view s c.in_ok-view.ensures.exact refl spelled in
    let no = c.in_err-to_pdu.ensures.none (subst (λ q. GooseNeedsNoMemory q) (sym same) small) in
    cc

use Rattle.std.proofs.Common.{◌∙◌}
use Rattle.ber_core.specs.Contents.{SpellsBoolean, BooleanFault}
use Rattle.ber_core.specs.computed.ContentsReading.{boolean_at}
use Rattle.ber_core.proofs.Exact.{gives_same, answer_found, answer_fault}
use Rattle.ber_core.proofs.ContentsLaws.{boolean_found, boolean_again, boolean_wrong, boolean_wrong_again}
use Rattle.ber_core.proofs.contents.boolean_of.Goals as goal

pub returns-clause-found : goal.returns-clause-found
returns-clause-found c =
    let o = c.args.contents.now in
    answer_found (λ b. b) (boolean_at c.args.at o) (λ b. SpellsBoolean b o) (boolean_found c.args.at o) c.truth.result (gives_same (boolean_at c.args.at o) c.truth.result c.truth.ensures)

pub returns-clause-only : goal.returns-clause-only
returns-clause-only c = λ b s. c.truth.ensures ∙ boolean_again c.args.at c.args.contents.now b s

pub returns-clause-fault : goal.returns-clause-fault
returns-clause-fault c =
    let o = c.args.contents.now in
    answer_fault (λ b. b) (boolean_at c.args.at o) (λ f. BooleanFault f c.args.at o) (λ f. boolean_wrong f c.args.at o) c.truth.result (gives_same (boolean_at c.args.at o) c.truth.result c.truth.ensures)

pub returns-clause-fault_only : goal.returns-clause-fault_only
returns-clause-fault_only c = λ f wrong. c.truth.ensures ∙ boolean_wrong_again f c.args.at c.args.contents.now wrong

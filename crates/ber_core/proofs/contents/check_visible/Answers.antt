use Rattle.std.proofs.Common.{◌∙◌}
use Rattle.ber_core.specs.Contents.{AreVisible, VisibleFault}
use Rattle.ber_core.specs.computed.ContentsReading.{all_visible_at}
use Rattle.ber_core.proofs.Exact.{gives_same, answer_found, answer_fault}
use Rattle.ber_core.proofs.ContentsLaws.{all_visible_found, all_visible_again, all_visible_wrong, all_visible_wrong_again}
use Rattle.ber_core.proofs.contents.check_visible.Goals as goal

pub returns-clause-found : goal.returns-clause-found
returns-clause-found c =
    let o = c.args.octets.now in
    let reading = all_visible_at c.args.from o in
    answer_found (λ u. u) reading (λ _. AreVisible o) (all_visible_found c.args.from o) c.each_visible.result (gives_same reading c.each_visible.result c.each_visible.ensures.exact)

pub returns-clause-only : goal.returns-clause-only
returns-clause-only c = λ good. c.each_visible.ensures.exact ∙ all_visible_again c.args.from c.args.octets.now good

pub returns-clause-fault : goal.returns-clause-fault
returns-clause-fault c =
    let o = c.args.octets.now in
    let reading = all_visible_at c.args.from o in
    answer_fault (λ u. u) reading (λ f. VisibleFault f c.args.from o) (λ f. all_visible_wrong f c.args.from o) c.each_visible.result (gives_same reading c.each_visible.result c.each_visible.ensures.exact)

pub returns-clause-fault_only : goal.returns-clause-fault_only
returns-clause-fault_only c = λ f wrong. c.each_visible.ensures.exact ∙ all_visible_wrong_again f c.args.from c.args.octets.now wrong

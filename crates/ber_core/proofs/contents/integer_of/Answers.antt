use Rattle.std.proofs.Common.{◌≡◌, rules, ◌∙◌}
use Rattle.ber_core.specs.Contents.{SpellsInteger, IntegerFault}
use Rattle.ber_core.specs.computed.ContentsReading.{integer_at}
use Rattle.ber_core.proofs.Exact.{gives_same, answer_found, answer_fault}
use Rattle.ber_core.proofs.ContentsLaws.{integer_found, integer_again, integer_wrong, integer_wrong_again}
use Rattle.ber_core.proofs.contents.integer_of.Goals as goal

pub returns-clause-found : goal.returns-clause-found
returns-clause-found c =
    let o = c.args.contents.now in
    let reading = integer_at c.args.low c.args.high c.args.at c.args.from o in
    let is : c.ranged.result ≡ reading = search rules in
    answer_found (λ n. n) reading (λ n. SpellsInteger c.args.low c.args.high n o) (integer_found c.args.low c.args.high c.args.at c.args.from o) c.ranged.result (gives_same reading c.ranged.result is)

pub returns-clause-only : goal.returns-clause-only
returns-clause-only c =
    let o = c.args.contents.now in
    let is : c.ranged.result ≡ integer_at c.args.low c.args.high c.args.at c.args.from o = search rules in
    λ n s. is ∙ integer_again c.args.low c.args.high c.args.at c.args.from o n s

pub returns-clause-fault : goal.returns-clause-fault
returns-clause-fault c =
    let o = c.args.contents.now in
    let reading = integer_at c.args.low c.args.high c.args.at c.args.from o in
    let is : c.ranged.result ≡ reading = search rules in
    answer_fault (λ n. n) reading (λ f. IntegerFault f c.args.low c.args.high c.args.at c.args.from o) (integer_wrong c.args.low c.args.high c.args.at c.args.from o) c.ranged.result (gives_same reading c.ranged.result is)

pub returns-clause-fault_only : goal.returns-clause-fault_only
returns-clause-fault_only c =
    let o = c.args.contents.now in
    let is : c.ranged.result ≡ integer_at c.args.low c.args.high c.args.at c.args.from o = search rules in
    λ f wrong. is ∙ integer_wrong_again c.args.low c.args.high c.args.at c.args.from o f wrong

use Rattle.std.proofs.Common.{Ok, ap, ◌∙◌}
use Rattle.std.proofs.lemmas.Bool.{false≢true}
use Rattle.mms_data.proofs.Front.{array_is, structure_is}
use Rattle.mms_data.proofs.view.Members.view.Goals as goal

pub invariant_of-result : goal.invariant_of-result
invariant_of-result c = record { bounded = c.requires.few; spelled = (array_is c.args.depth c.args.kind c.args.header.now c.args.contents.now c.requires.good.0 c.requires.few c.in-Array.is c.requires.good.1).0; stands = λ t. absurd (false≢true t) }

pub returns-in-Array-clause-means : goal.returns-in-Array-clause-means
returns-in-Array-clause-means c = c.requires.good.1 ∙ ap (λ d. Ok d) (array_is c.args.depth c.args.kind c.args.header.now c.args.contents.now c.requires.good.0 c.requires.few c.in-Array.is c.requires.good.1).1

pub invariant_of-result-in-Structure : goal.invariant_of-result-in-Structure
invariant_of-result-in-Structure c = record { bounded = c.requires.few; spelled = (structure_is c.args.depth c.args.kind c.args.header.now c.args.contents.now c.requires.good.0 c.requires.few c.in-Structure.is c.requires.good.1).0; stands = λ t. absurd (false≢true t) }

pub returns-in-Structure-clause-means : goal.returns-in-Structure-clause-means
returns-in-Structure-clause-means c = c.requires.good.1 ∙ ap (λ d. Ok d) (structure_is c.args.depth c.args.kind c.args.header.now c.args.contents.now c.requires.good.0 c.requires.few c.in-Structure.is c.requires.good.1).1

use Rattle.std.proofs.Common.{refl, rules}
use Rattle.publish_core.proofs.publisher.Publisher.take_change.Goals as goal

pub returns-in-Err-clause-handed_back : goal.returns-in-Err-clause-handed_back
returns-in-Err-clause-handed_back g c = refl

pub returns-in-Err-clause-unchanged : goal.returns-in-Err-clause-unchanged
returns-in-Err-clause-unchanged g c = refl

pub invariant_of-self : goal.invariant_of-self
invariant_of-self g c = (search rules, search rules, c.in-Ok.ensures.written)

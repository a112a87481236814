use Rattle.std.proofs.Common.{arith, below_more, refl}
use Rattle.std.proofs.lemmas.Bool.{false≢true}
use Rattle.subscribe_core.specs.Apart.{IsTwice}
use Rattle.subscribe_core.proofs.twice.first_twice.Goals as goal

pub returns-then-is_twice : goal.returns-then-is_twice
returns-then-is_twice g c = (c.if-is_twice.ensures.0 refl, c.loop-i.invariant)

pub returns : goal.returns
returns g c = λ k lt. c.loop-i.invariant k (omega arith)

pub loop-i-preserved : goal.loop-i-preserved
loop-i-preserved g c = below_more (λ k. ¬ IsTwice c.args.blocks.now k) _ c.loop-i.invariant (λ w. false≢true (c.if-is_twice.ensures.1 w))

use Rattle.subscribe_core.specs.computed.Names.{IsLeastAgain}
use Rattle.subscribe_core.proofs.names.least_again.Given as goal

-- the least position among those gone through
abbrev pub invariant-loop-k : goal.invariant-loop-k
invariant-loop-k g l = IsLeastAgain l.names l.k l.least

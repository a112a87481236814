use Rattle.std.proofs.Common.{sym, subst, List, ℕ}
use Rattle.unwrap_core.specs.Unwrapped.{Unwraps}
use Rattle.unwrap_core.proofs.UnwrappedLaws.{each_is_unwrapped}
use Rattle.unwrap_core.proofs.unwrapping.unwrap_frame.Goals as goal

-- what is computed is what is left
pub returns-clause-unwraps : goal.returns-clause-unwraps
returns-clause-unwraps g c = subst (λ (u : List ℕ). Unwraps c.args.frame.now.items u) (sym c.leave_unwrapped.ensures.exact) (each_is_unwrapped c.args.frame.now.items)

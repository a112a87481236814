use Rattle.std.proofs.Common.{sym, subst}
use Rattle.loss_core.specs.Advance.{IsAdvance}
use Rattle.loss_core.proofs.Nearest.{advance_is}
use Rattle.loss_core.proofs.advance.advance_between.Goals as goal

pub returns-then-is_next-clause-is : goal.returns-then-is_next-clause-is
returns-then-is_next-clause-is c =
    subst (IsAdvance c.args.period c.args.elapsed c.args.from c.args.to) (c.is_next.ensures c.if-is_next.true) (advance_is c.args.period c.args.elapsed c.args.from c.args.to c.requires.some)

pub returns-else-is_next-clause-is : goal.returns-else-is_next-clause-is
returns-else-is_next-clause-is c =
    subst (IsAdvance c.args.period c.args.elapsed c.args.from c.args.to) (sym c.any_advance.ensures) (advance_is c.args.period c.args.elapsed c.args.from c.args.to c.requires.some)

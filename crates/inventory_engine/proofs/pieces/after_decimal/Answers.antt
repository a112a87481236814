use Rattle.std.proofs.Common.{List, ℕ, sym, subst}
use Rattle.std.proofs.lemmas.Fmt.{decimal_digit}
use Rattle.text_core.specs.Afters.{IsAfter}
use Rattle.inventory_engine.proofs.pieces.after_decimal.Goals as goal

pub returns-then-number-lt10 : goal.returns-then-number-lt10
returns-then-number-lt10 c =
    subst (λ (t : List ℕ). IsAfter c.args.text.now t c.after_one.result) (sym (decimal_digit c.args.number c.if-number-lt10.true)) c.after_one.ensures

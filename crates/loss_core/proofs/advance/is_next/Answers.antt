use Rattle.std.proofs.Common.{ap, arith, ◌<◌, ◌≡◌, ◌∙◌}
use Rattle.std.proofs.lemmas.Bool.{eqb-true}
use Rattle.loss_core.specs.computed.AdvanceSteps.{advance_by}
use Rattle.loss_core.proofs.Nearest.{one_on}
use Rattle.loss_core.proofs.advance.is_next.Goals as goal

pub returns-then-elapsed-le-HALF_A_SECOND : goal.returns-then-elapsed-le-HALF_A_SECOND
returns-then-elapsed-le-HALF_A_SECOND c = λ yes.
    let below : c.args.from < c.args.period = c.requires in
    let other : c.args.period ≡ 1 → ⊥ = c.if-period-eq1.false in
    let many : 1 < c.args.period = omega arith in
    ap (advance_by c.args.period c.args.elapsed c.args.from) (eqb-true _ _ yes ∙ c.next_count.ensures) ∙ one_on c.args.period c.args.elapsed c.args.from many c.if-elapsed-le-HALF_A_SECOND.true below

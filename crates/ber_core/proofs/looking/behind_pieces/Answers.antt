use Rattle.std.proofs.Common.{◌≡◌, true, take, arith, sym, ◌∙◌}
use Rattle.std.specs.List.{list_all}
use Rattle.ber_core.proofs.LookingLemmas.{passed, stopped}
use Rattle.ber_core.proofs.looking.behind_pieces.Goals as goal

pub returns-then-not-are_all_at_once : goal.returns-then-not-are_all_at_once
returns-then-not-are_all_at_once g c =
    let has = g.K.OctetKind.has c.args.kind in
    let others = c.pieces.others.now in
    let i = c.pieces.invariant in
    record {
      fewer = i.fewer;
      all = i.all;
      front = i.front;
      stopped = λ _. stopped has g.row.N others (rw c.split_at.ensures.front at (sym c.are_all_at_once.ensures ∙ c.if-not-are_all_at_once.true));
    }

pub pieces-preserved : goal.pieces-preserved
pieces-preserved g c =
    let has = g.K.OctetKind.has c.args.kind in
    let others = c.pieces.others.now in
    let rest = c.split_at.result.1.now in
    let i = c.pieces.invariant in
    let good : list_all has (take g.row.N others) ≡ true = rw c.split_at.ensures.front at (sym c.are_all_at_once.ensures ∙ c.if-not-are_all_at_once.false) in
    let on = passed has g.row.N others (omega (arith, c.pieces-test.true, c.requires.enough)) good in
    record {
      fewer = omega (arith, c.split_at.ensures.back_len, i.fewer);
      all = i.all ∙ rw (← c.split_at.ensures.back) at on.0;
      front = omega (arith, c.split_at.ensures.back_len, i.fewer, i.front, rw (← c.split_at.ensures.back) at on.1);
    }

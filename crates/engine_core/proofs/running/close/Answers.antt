use Rattle.std.proofs.Common.{inl, inr, rules}
use Rattle.engine_core.proofs.EndRuns.{closed_all, closed_at, closed_more, closed_none}
use Rattle.engine_core.proofs.running.close.Goals as goal

pub lines-init : goal.lines-init
lines-init g c = record { works = search rules; so_far = λ items stands lines may. closed_none lines _ _ }

pub lines-preserved : goal.lines-preserved
lines-preserved g c = record {
  works = search rules;
  so_far = λ items stands lines may. closed_more lines _ _ _ _ _ _ _ (c.lines.invariant.so_far items stands lines may) (c.in-Wrote.ensures.line items stands lines may);
}

pub returns-in-Ended-clause-closes : goal.returns-in-Ended-clause-closes
returns-in-Ended-clause-closes g c = λ items stands texts finds.
    let e = c.in-Ended.ensures.ends items stands in
    rw c.ending_where.ensures (inl (closed_all _ items texts e.0 e.1 _ _ _ finds _ _ _ (c.lines.invariant.so_far items stands e.0 e.1) (c.in-Ended.ensures.line items stands e.0 e.1)))

pub returns-in-Stop-clause-closes : goal.returns-in-Stop-clause-closes
returns-in-Stop-clause-closes g c = λ items stands texts finds.
    let e = c.in-Stop.ensures.ends items stands in
    rw (c.ended_by.ensures.ending, c.ended_by.ensures.fault)
    (inr (closed_at _ items texts e.0 e.1 _ _ _ finds _ _ _ (c.lines.invariant.so_far items stands e.0 e.1) g.F.InputFault.failed c.in-Stop.halt (c.in-Stop.ensures.line items stands e.0 e.1)))

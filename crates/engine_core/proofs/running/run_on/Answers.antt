use Rattle.std.proofs.Common.{rules, [], ◌++◌, ◌∷◌}
use Rattle.engine_core.proofs.EngineSteps.{alike_back, alike_self, alike_then, closes_alike, stops_alike, wrote_alike}
use Rattle.engine_core.proofs.ReaderRuns.{go_on, ran_none, closed, stopped, not_begun}
use Rattle.engine_core.proofs.running.run_on.Goals as goal

pub returns-in-Err-clause-text : goal.returns-in-Err-clause-text
returns-in-Err-clause-text g c =
    rw (c.ended_by.ensures.ending, c.ended_by.ensures.fault)
    (not_begun _ _ _ _ _ (rw (← c.requires.first) c.in-Err.ensures.written.1))

pub answers-init : goal.answers-init
answers-init g c = record {
  works = search rules;
  same = alike_self _;
  so_far = ([], c.requires.fresh, ran_none _ _ _ _);
}

pub answers-preserved : goal.answers-preserved
answers-preserved g c = record {
  works = search rules;
  same = alike_then _ _ _ (alike_back _ _ c.in-Wrote.ensures.same) c.answers.invariant.same;
  so_far =
      let p = c.answers.invariant.so_far in
      let s = c.in-Wrote.ensures.step in
      let w = wrote_alike _ _ c.answers.invariant.same p.0 s.0 _ _ _ _ (s.2 p.0 p.1) in
      let q = rw w.answered at s.1 in
      (p.0 ++ w.item ∷ [], w.stands_after, go_on _ _ _ _ _ p.0 _ _ _ _ p.2 w.item q w.text _ w.has_text w.written);
}

pub returns-in-Ended-clause-text : goal.returns-in-Ended-clause-text
returns-in-Ended-clause-text g c =
    let p = c.answers.invariant.so_far in
    let s = c.in-Ended.ensures.step in
    let w = s.2 p.0 p.1 in
    let q = rw w.0 at s.1 in
    let e = closes_alike _ _ (alike_then _ _ _ (alike_back _ _ c.in-Ended.ensures.same) c.answers.invariant.same) p.0 _ _ _ _ _ _ (c.close.ensures.closes p.0 w.2 p.2.texts p.2.finds) in
    closed _ _ _ _ _ p.0 _ _ _ _ _ (rw c.requires.first at c.in-Ok.ensures.written) p.2 _ _ q (rw w.1 at e)

pub returns-in-Stop-clause-text : goal.returns-in-Stop-clause-text
returns-in-Stop-clause-text g c =
    let p = c.answers.invariant.so_far in
    let s = c.in-Stop.ensures.step in
    let w = stops_alike g.F.InputFault.refused _ _ c.answers.invariant.same p.0 s.0 c.in-Stop.halt _ _ (s.2 p.0 p.1) in
    let r = stopped _ _ _ _ _ p.0 _ _ _ _ _ (rw c.requires.first at c.in-Ok.ensures.written) p.2 s.0 s.1 _ w in
    rw (c.ended_by-in-Stop.ensures.ending, c.ended_by-in-Stop.ensures.fault) r

use Rattle.std.proofs.Common.{refl, rules}
use Rattle.std.proofs.lemmas.List.{take-append-drop, take_rest}
use Rattle.list_core.proofs.Devices.{Appends-append, AppendsPrefix-append, AppendsPrefix-none, take-add}
use Rattle.list_core.proofs.whole_write.put_all.Goals as goal

pub loop-at-preserved : goal.loop-at-preserved
loop-at-preserved g c = record {
  within = search rules;
  works = search rules;
  written = rw (take-add c.loop-at.at c.in-Ok.count c.args.octets.now)
      (Appends-append _ _ _ _ _ c.loop-at.invariant.written (rw take_rest at c.in-Ok.ensures.taken));
}

pub returns-in-Err-clause-written : goal.returns-in-Err-clause-written
returns-in-Err-clause-written g c = (
  refl,
  rw (← take-append-drop c.loop-at.at c.args.octets.now)
      (AppendsPrefix-append _ _ _ _ _ c.loop-at.invariant.written (AppendsPrefix-none _ _ _ c.in-Err.ensures.taken)),
)

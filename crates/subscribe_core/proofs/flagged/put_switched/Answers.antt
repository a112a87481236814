use Rattle.std.proofs.Common.{List, ap, arith, subst}
use Rattle.std.proofs.lemmas.List.{take_all}
use Rattle.subscribe_core.specs.declared.entry.Entry.{Entry}
use Rattle.subscribe_core.specs.computed.Flagged.{switched_at}
use Rattle.subscribe_core.proofs.Flagging.{switched_more}
use Rattle.subscribe_core.proofs.flagged.put_switched.Goals as goal

pub loop-at-init : goal.loop-at-init
loop-at-init g c = record { within = omega arith; grown = g.met.E.EntrySink.grows_none _; listed = g.met.E.EntrySink.gets_none _ }

pub loop-at-preserved : goal.loop-at-preserved
loop-at-preserved g c =
    record {
      within = omega arith;
      grown = g.met.E.EntrySink.grows_more _ _ _ c.loop-at.invariant.grown c.put_entry.ensures.grown;
      listed = subst (λ (es : List (Entry g.row.A.Denot)). g.E.EntrySink.gets c.args.entries.now es c.put_entry.new.self) (switched_more c.args.positions.now c.loop-at.at-index _ c.loop-at-test.true)
          (g.met.E.EntrySink.gets_more _ _ _ _ _ c.loop-at.invariant.listed c.in_ok-put_entry.ensures.got);
    }

pub returns-in_err-put_entry-clause-grown : goal.returns-in_err-put_entry-clause-grown
returns-in_err-put_entry-clause-grown g c = g.met.E.EntrySink.grows_more _ _ _ c.loop-at.invariant.grown c.put_entry.ensures.grown

pub returns-clause-entries : goal.returns-clause-entries
returns-clause-entries g c =
    subst (λ (es : List (Entry g.row.A.Denot)). g.E.EntrySink.gets c.args.entries.now es c.loop-at.entries) (ap switched_at (take_all c.loop-at.at-index c.args.positions.now (omega arith))) c.loop-at.invariant.listed

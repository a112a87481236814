use Rattle.std.proofs.Common.{◌≡◌, ◌≤◌, ◌++◌, length}
use Rattle.pdu_core.specs.SampledViews.{asdus_left}
use Rattle.pdu_core.specs.SampledWritten.{written_asdus}
use Rattle.pdu_core.proofs.sampled.view_writing.put_each.Given as goal

abbrev pub invariant-loop-asdu : goal.invariant-loop-asdu
invariant-loop-asdu g l =
    record {
      next : (goal.iterator-loop-asdu g).can_next l.asdu-iterator;
      ends : (goal.iterator-loop-asdu g).is_finite l.asdu-iterator;
      grown : length l.initial.out.items ≤ length l.out.items;
      all : l.out.items ++ written_asdus (asdus_left {A = Unit {0}} l.asdu-iterator) ≡ l.initial.out.items ++ written_asdus (asdus_left {A = Unit {0}} l.asdus);
    }

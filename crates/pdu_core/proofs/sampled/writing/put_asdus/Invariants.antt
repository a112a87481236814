use Rattle.std.proofs.Common.{◌≡◌, ◌≤◌, ◌++◌, drop, length}
use Rattle.pdu_core.specs.SampledWritten.{written_asdus}
use Rattle.pdu_core.proofs.sampled.writing.put_asdus.Given as goal

abbrev pub invariant-loop-asdu : goal.invariant-loop-asdu
invariant-loop-asdu g l =
    record {
      grown : length l.initial.out.items ≤ length l.out.items;
      all : l.out.items ++ written_asdus (drop l.asdu-index l.asdus) ≡ l.initial.out.items ++ written_asdus l.asdus;
    }

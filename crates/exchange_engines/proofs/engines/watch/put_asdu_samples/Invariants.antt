use Rattle.std.proofs.Common.{◌≡◌, ◌++◌, length, map}
use Rattle.pdu_core.specs.SampledViews.{asdu_of, asdus_left}
use Rattle.exchange_engines.specs.WatchText.{samples_from}
use Rattle.exchange_engines.specs.computed.WatchStep.{SamplesAppended, telling_at}
use Rattle.exchange_engines.proofs.engines.watch.put_asdu_samples.Given as goal

abbrev pub invariant-loop-asdu : goal.invariant-loop-asdu
invariant-loop-asdu g l =
    (goal.iterator-loop-asdu g).can_next l.asdu-iterator ×
    (goal.iterator-loop-asdu g).is_finite l.asdu-iterator ×
    (map (asdu_of {A = Unit {0}}) l.yielded ++ asdus_left l.asdu-iterator ≡ asdus_left l.sampled.asdus) ×
    SamplesAppended l.initial.watch.period (telling_at l.heading) l.initial.watch.last (samples_from 0 l.id (map (asdu_of {A = Unit {0}}) l.yielded)) l.initial.line.items l.line.items l.found l.watch.last ×
    (l.watch.period ≡ l.initial.watch.period) ×
    (l.position ≡ length l.yielded)

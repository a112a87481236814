use Rattle.std.proofs.Common.{◌≡◌, ◌++◌, length, map, take}
use Rattle.pdu_core.specs.SampledViews.{asdu_of, asdus_left}
use Rattle.inventory_engine.specs.Sightings.{stream_sightings}
use Rattle.inventory_engine.specs.computed.BlocksStep.{AppendsLines, telling_at}
use Rattle.inventory_engine.proofs.sighting.put_streams.Given as goal

abbrev pub invariant-loop-asdu : goal.invariant-loop-asdu
invariant-loop-asdu g l =
    (goal.iterator-loop-asdu g).can_next l.asdu-iterator ×
    (goal.iterator-loop-asdu g).is_finite l.asdu-iterator ×
    (map (asdu_of {A = Unit {0}}) l.yielded ++ asdus_left l.asdu-iterator ≡ asdus_left l.sampled.asdus) ×
    AppendsLines (telling_at l.heading) (stream_sightings (map (asdu_of {A = Unit {0}}) l.yielded)) l.initial.known l.known l.initial.line.items l.line.items ×
    (take (length l.initial.line.items) l.line.items ≡ l.initial.line.items)

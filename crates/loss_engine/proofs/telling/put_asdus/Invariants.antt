use Rattle.std.proofs.Common.{◌≡◌, ◌++◌, length, map, take}
use Rattle.pdu_core.specs.SampledViews.{asdu_of, asdus_left}
use Rattle.loss_engine.specs.Sights.{sight_of_asdu}
use Rattle.loss_engine.specs.computed.Held.{kept_by, periods_by}
use Rattle.loss_engine.specs.computed.Telling.{TellsSights}
use Rattle.loss_engine.proofs.telling.put_asdus.Given as goal

abbrev pub invariant-loop-asdu : goal.invariant-loop-asdu
invariant-loop-asdu g l =
    (goal.iterator-loop-asdu g).can_next l.asdu-iterator ×
    (goal.iterator-loop-asdu g).is_finite l.asdu-iterator ×
    (map (asdu_of {A = Unit {0}}) l.yielded ++ asdus_left l.asdu-iterator ≡ asdus_left l.sampled.asdus) ×
    TellsSights l.heading (periods_by l.initial.losses) (kept_by l.initial.losses) (map (sight_of_asdu (kept_by l.initial.losses).moment l.app_id l.source) (map (asdu_of {A = Unit {0}}) l.yielded)) l.initial.out.items l.found l.out.items (kept_by l.losses) ×
    (periods_by l.losses ≡ periods_by l.initial.losses) ×
    (take (length l.initial.out.items) l.out.items ≡ l.initial.out.items)

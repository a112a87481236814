use Rattle.std.proofs.Common.{◌≡◌, ◌++◌, length, take}
use Rattle.std.specs.List.{flat_map}
use Rattle.pdu_core.specs.SampledViews.{asdus_left}
use Rattle.frame_engines.specs.SampledText.{asdu_text, before_space}
use Rattle.frame_engines.proofs.texts.sampled.put_any_texts.Given as goal

abbrev pub invariant-loop-asdu : goal.invariant-loop-asdu
invariant-loop-asdu g l =
    (goal.iterator-loop-asdu g).can_next l.asdu-iterator ×
    (goal.iterator-loop-asdu g).is_finite l.asdu-iterator ×
    (take (length l.initial.out.items) l.out.items ≡ l.initial.out.items) ×
    (l.out.items ++ flat_map (before_space asdu_text) (asdus_left {A = Unit {0}} l.asdu-iterator) ≡ l.initial.out.items ++ flat_map (before_space asdu_text) (asdus_left {A = Unit {0}} l.asdus))

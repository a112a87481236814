use Rattle.std.proofs.Common.{◌≡◌, ◌++◌, length, take}
use Rattle.std.specs.List.{flat_map}
use Rattle.pdu_core.specs.SampledViews.{asdus_left}
use Rattle.frame_engines.specs.SampledText.{asdu_text, before_space}
use Rattle.frame_engines.proofs.texts.sampled.put_usual_texts.Given as goal

abbrev pub invariant-texts : goal.invariant-texts
invariant-texts g l = record {
  kept : take (length l.initial.out.items) l.out.items ≡ l.initial.out.items;
  so_far : l.out.items ++ flat_map (before_space asdu_text) (asdus_left {A = Unit {0}} l.others) ≡ l.initial.out.items ++ flat_map (before_space asdu_text) (asdus_left {A = Unit {0}} l.asdus);
}

abbrev pub decreases-texts : goal.decreases-texts
decreases-texts g l = length (asdus_left {A = Unit {0}} l.others)

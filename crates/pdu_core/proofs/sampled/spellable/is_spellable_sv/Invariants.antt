use Rattle.std.proofs.Common.{◌↔◌, drop}
use Rattle.std.specs.List.{AllByRecursion}
use Rattle.pdu_core.specs.SampledSpellable.{IsSpellableAsdu}
use Rattle.pdu_core.proofs.sampled.spellable.is_spellable_sv.Given as goal

abbrev pub invariant-loop-asdu : goal.invariant-loop-asdu
invariant-loop-asdu g l = AllByRecursion IsSpellableAsdu (drop l.asdu-index l.asdus) ↔ AllByRecursion IsSpellableAsdu l.asdus

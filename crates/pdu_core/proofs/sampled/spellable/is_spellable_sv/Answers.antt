use Rattle.pdu_core.specs.SampledSpellable.{IsSpellableAsdu}
use Rattle.pdu_core.proofs.Each.{each_left}
use Rattle.pdu_core.proofs.sampled.spellable.is_spellable_sv.Goals as goal

pub loop-asdu-preserved : goal.loop-asdu-preserved
loop-asdu-preserved g c =
    each_left IsSpellableAsdu c.as_slice-asdus.result.now c.loop-asdu.asdu-index c.asdu-item.result c.loop-asdu-test.true c.asdu-item.is (c.is_spellable_asdu.ensures.0 c.if-not-is_spellable_asdu.false) c.loop-asdu.invariant

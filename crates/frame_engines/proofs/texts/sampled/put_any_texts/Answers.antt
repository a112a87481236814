use Rattle.std.proofs.Common.{◌++◌}
use Rattle.std.specs.Prelude.{codes}
use Rattle.std.proofs.lemmas.Result.{err_from_is_err_and}
use Rattle.pdu_core.specs.SampledViews.{asdu_of, asdus_left}
use Rattle.text_core.proofs.Fronts.{front_grows, front_twice}
use Rattle.frame_engines.specs.SampledText.{asdu_text}
use Rattle.frame_engines.proofs.SpacedAsdus.{none_left, one_spaced}
use Rattle.frame_engines.proofs.texts.sampled.put_any_texts.Goals as goal

pub loop-asdu-preserved : goal.loop-asdu-preserved
loop-asdu-preserved g c =
    let l = c.loop-asdu in
    let asdu = asdu_of {A = Unit {0}} c.in-Some.asdu in (
      tt,
      tt,
      rw c.in_ok-put_any_text.ensures (front_grows c.args.out.now.items l.out.items (asdu_text asdu ++ codes " ") l.invariant.2),
      one_spaced asdu_text l.out.items c.put_any_text.new.out.items _ asdu (asdus_left l.asdu-iterator) (asdus_left c.next.new.self) c.in-Some.ensures.steps.0 l.invariant.3 c.in_ok-put_any_text.ensures,
    )

pub returns-in_err-put_any_text : goal.returns-in_err-put_any_text
returns-in_err-put_any_text g c =
    let p = err_from_is_err_and c.from_residual.result c.from_residual.ensures.1 in
    rw p.1 (front_twice c.args.out.now.items c.loop-asdu.out.items c.put_any_text.new.out.items c.loop-asdu.invariant.2 c.in_err-put_any_text.ensures)

pub returns : goal.returns
returns g c = none_left asdu_text c.loop-asdu.out.items _ (asdus_left c.loop-asdu.asdu-iterator) c.in-None.ensures.steps.0.0 c.loop-asdu.invariant.3

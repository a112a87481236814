use Rattle.std.proofs.Common.{◌++◌}
use Rattle.std.specs.Prelude.{codes}
use Rattle.pdu_core.specs.SampledViews.{asdu_of, asdus_left}
use Rattle.text_core.proofs.Fronts.{front_grows}
use Rattle.frame_engines.specs.SampledText.{asdu_text}
use Rattle.frame_engines.proofs.SpacedAsdus.{one_spaced}
use Rattle.frame_engines.proofs.texts.sampled.put_usual_texts.Goals as goal

pub texts-preserved : goal.texts-preserved
texts-preserved g c =
    let l = c.texts in
    let asdu = asdu_of {A = Unit {0}} c.in-Some.asdu in
    record {
      kept = rw c.in_ok-put_usual_text.ensures (front_grows c.args.out.now.items l.out.items (asdu_text asdu ++ codes " ") l.invariant.kept);
      so_far = one_spaced asdu_text l.out.items c.put_usual_text.new.out.items _ asdu (asdus_left l.others) (asdus_left c.in-Some.rest) c.in-Some.ensures l.invariant.so_far c.in_ok-put_usual_text.ensures;
    }

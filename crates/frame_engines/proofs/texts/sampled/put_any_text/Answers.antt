use Rattle.std.proofs.Common.{◌≡◌, ◌++◌, refl}
use Rattle.std.specs.Prelude.{codes}
use Rattle.pdu_core.specs.SampledViews.{asdu_of}
use Rattle.text_core.proofs.Fronts.{appended, then_appended}
use Rattle.text_core.proofs.PieceLemmas.{row, more, several, done}
use Rattle.frame_engines.specs.SampledText.{asdu_parts, asdu_text}
use Rattle.frame_engines.proofs.AsduParts.{count_parts, end_parts}
use Rattle.frame_engines.proofs.texts.sampled.put_any_text.Goals as goal

pub returns : goal.returns
returns g c =
    let asdu = asdu_of {A = Unit {0}} c.args.asdu.now in
    let all : c.put_asdu_end.new.out.items ≡ c.args.out.now.items ++ asdu_text asdu = row _ _ (asdu_parts asdu) (
    more c.in_ok-put_text.ensures (
    more c.in_ok-put_text_or.ensures (
    several (count_parts asdu) c.in_ok-put_counts_text.ensures (
    more c.in_ok-put_octets.ensures (
    several (end_parts asdu) c.in_ok-put_asdu_end.ensures (
    done refl)))))) in
    then_appended c.extend_from_slice.result _ _ _ (asdu_text asdu) (codes " ") _ all
    (appended c.extend_from_slice.result c.put_asdu_end.new.out.items c.extend_from_slice.new.self.items (codes " ") (codes " ") c.extend_from_slice.ensures.items refl) refl

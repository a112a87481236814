use Rattle.std.proofs.Common.{List, ℕ, subst}
use Rattle.std.specs.Prelude.{codes}
use Rattle.hex.specs.Hex.{encode_lower}
use Rattle.text_core.specs.Pieces.{AppendsText, four_digits}
use Rattle.text_core.proofs.PieceLemmas.{before}
use Rattle.frame_engines.specs.FrameObject.{tag_value}
use Rattle.frame_engines.proofs.ObjectTexts.{in_quotes_before}
use Rattle.frame_engines.proofs.texts.frame_object.put_envelope_fields.Goals as goal

pub returns : goal.returns
returns g c =
    let frame = c.args.frame.now in
    subst (λ (text : List ℕ). AppendsText c.append_to.result c.args.out.now.items c.append_to.new.out.items text) (
    before (codes ",\"destination\":\"") c.put-7.ensures.text (
    in_quotes_before (encode_lower frame.destination) c.put_hexadecimal-2.ensures.text (
    before (codes "\",\"source\":\"") c.put-6.ensures.text (
    in_quotes_before (encode_lower frame.source) c.put_hexadecimal.ensures.text (
    before (codes "\",\"tag\":") c.put-5.ensures.text (
    before (tag_value frame.tag) c.prepend_tag_value.ensures.text (
    before (codes ",\"appid\":\"") c.put-4.ensures.text (
    in_quotes_before (four_digits frame.app_id) c.put_four_digits-3.ensures.text (
    before (codes "\",\"reserved1\":\"") c.put-3.ensures.text (
    in_quotes_before (four_digits frame.reserved1) c.put_four_digits-2.ensures.text (
    before (codes "\",\"reserved2\":\"") c.put-2.ensures.text (
    in_quotes_before (four_digits frame.reserved2) c.put_four_digits.ensures.text (
    before (codes "\"") c.put.ensures.text c.new-text.ensures))))))))))))) c.append_to.ensures

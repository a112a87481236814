use Rattle.std.specs.Prelude.{codes}
use Rattle.hex.specs.Hex.{encode_lower}
use Rattle.text_core.specs.Pieces.{four_digits}
use Rattle.frame_engines.specs.FrameText.{tag_text}
use Rattle.text_core.proofs.PieceLemmas.{before}
use Rattle.frame_engines.proofs.texts.frame.prepend_envelope_text.Goals as goal

pub returns-clause-text : goal.returns-clause-text
returns-clause-text c =
    let frame = c.args.frame.now in
    before (encode_lower frame.destination) c.put_hexadecimal-2.ensures.text (
    before (codes " ") c.put-5.ensures.text (
    before (encode_lower frame.source) c.put_hexadecimal.ensures.text (
    before (codes " tag=") c.put-4.ensures.text (
    before (tag_text frame.tag) c.prepend_tag_text.ensures.text (
    before (codes " appid=") c.put-3.ensures.text (
    before (four_digits frame.app_id) c.put_four_digits-3.ensures.text (
    before (codes " r1=") c.put-2.ensures.text (
    before (four_digits frame.reserved1) c.put_four_digits-2.ensures.text (
    before (codes " r2=") c.put.ensures.text (
    before (four_digits frame.reserved2) c.put_four_digits.ensures.text c.requires))))))))))

use Rattle.std.proofs.Common.{◌++◌, refl}
use Rattle.std.specs.Prelude.{codes}
use Rattle.hex.specs.Hex.{encode_lower}
use Rattle.text_core.proofs.Fronts.{appended, then_appended}
use Rattle.text_core.proofs.PieceLemmas.{then_text}
use Rattle.frame_engines.proofs.AsduParts.{usual_space}
use Rattle.frame_engines.proofs.texts.sampled.put_usual_text.Goals as goal

pub returns : goal.returns
returns g c =
    let text = c.args.text.now in
    let digits = encode_lower c.args.asdu.now.sample.now in
    let mid = c.put_hexadecimal.new.out.items in
    let put = appended c.extend_from_slice.result mid c.extend_from_slice.new.self.items (codes " mod=- f89=-) ") (codes " mod=- f89=-) ") c.extend_from_slice.ensures.items refl in
    then_appended c.extend_from_slice.result c.args.out.now.items mid c.extend_from_slice.new.self.items (text ++ digits) (codes " mod=- f89=-) ") _
    (then_text c.args.out.now.items text digits (text ++ digits) c.append_to.new.out.items mid c.in_ok-append_to.ensures c.in_ok-put_hexadecimal.ensures refl) put (usual_space text digits _ c.requires)

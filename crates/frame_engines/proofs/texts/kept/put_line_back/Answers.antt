use Rattle.std.proofs.Common.{refl}
use Rattle.text_core.proofs.PieceLemmas.{done, more, row}
use Rattle.frame_engines.proofs.texts.kept.put_line_back.Goals as goal

pub returns : goal.returns
returns g c =
    row c.args.out.now.items c.put_frame_end.new.out.items _ (
    more c.in_ok-put_field_boolean.ensures (
    more c.in_ok-put_number.ensures (
    more c.in_ok-put_field_boolean-2.ensures (
    more c.in_ok-extend_from_slice.ensures.items (
    more c.in_ok-put_members_text.ensures (
    more c.in_ok-put_frame_end.ensures (
    done refl)))))))

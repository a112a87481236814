use Rattle.std.proofs.Common.{length, ap, sym, ◌∙◌}
use Rattle.pdu_core.specs.Views.{pdu_of}
use Rattle.frame_core.specs.FrameViews.{apdu_of, frame_of}
use Rattle.frame_core.specs.Written.{written_frame}
use Rattle.repeat_core.specs.Numbered.{unnumbered}
use Rattle.repeat_core.proofs.OtherForms.{frame_again, frame_as_long}
use Rattle.repeat_core.proofs.other_form.OtherForm.of.Goals as goal

pub returns : goal.returns
returns c live sq_num live_is sq_num_is same =
    let f = frame_of {A = Unit {0}} c.args.view.now in
    let p = pdu_of {A = Unit {0}} c.in-Goose.goose in
    let long = frame_as_long (unnumbered f) live sq_num p.live p.sq_num (live_is ∙ c.size_of.ensures) (sq_num_is ∙ c.size_of-2.ensures) in
    let again = ap (λ g. length (written_frame g)) (frame_again f p (ap (apdu_of {A = Unit {0}}) c.in-Goose.is)) in
    c.if-written-count.false (c.in_ok-written.ensures ∙ sym again ∙ sym long ∙ same)

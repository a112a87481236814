use Rattle.std.proofs.Common.{length, ap, sym, subst, ◌∙◌}
use Rattle.std.specs.Prelude.{◌≢◌}
use Rattle.frame_core.specs.Written.{written_frame}
use Rattle.repeat_core.specs.Numbered.{unnumbered}
use Rattle.frame_engines.specs.CheckText.{is_form}
use Rattle.frame_engines.specs.WrittenForm.{fitting_form}
use Rattle.frame_core.specs.FrameViews.{frame_of}
use Rattle.frame_engines.proofs.CheckLemmas.{another_length, own_form}
use Rattle.frame_engines.proofs.engines.check.form_again.Goals as goal

pub returns-then-is_written : goal.returns-then-is_written
returns-then-is_written c =
    let o = c.args.octets.now in
    own_form (frame_of {A = Unit {0}} c.args.view.now) o (c.requires.known (sym c.is_written.ensures ∙ c.if-is_written.true)) ∙ ap (λ a. is_form (fitting_form a) o) (sym c.requires.seen)

pub returns-then-is_of : goal.returns-then-is_of
returns-then-is_of c =
    let o = c.args.octets.now in
    let r = c.requires.repeats in
    let has = rw c.in_ok-other.was at r.beside in
    let differs = c.is_of.ensures c.if-is_of.true (unnumbered r.frame) has in
    let of_frame = subst (λ f. length (written_frame f) ≢ length o) (sym r.numbered) differs in
    another_length r.frame o of_frame ∙ ap (λ a. is_form (fitting_form a) o) (sym r.read)

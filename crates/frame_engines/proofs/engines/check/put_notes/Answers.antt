use Rattle.std.proofs.Common.{List, ℕ, subst, ◌∙◌}
use Rattle.text_core.specs.Pieces.{AppendsText}
use Rattle.frame_core.specs.FrameViews.{frame_of}
use Rattle.frame_engines.proofs.CheckLemmas.{notes_of_read}
use Rattle.frame_engines.proofs.engines.check.put_notes.Goals as goal

pub returns-in-Some-form_again-clause-text : goal.returns-in-Some-form_again-clause-text
returns-in-Some-form_again-clause-text g c =
    let a = c.args in
    let same = notes_of_read a.form a.number a.moment a.octets.now (frame_of c.see-view.result) c.in-Some-form_again.written c.see-view.ensures.exact c.in-Some-form_again.ensures in
    subst (λ (t : List ℕ). AppendsText c.put_judged.result a.line.now.items c.put_judged.new.line.items t) same c.put_judged.ensures.text

pub returns-in-Some-form_again-clause-quiet : goal.returns-in-Some-form_again-clause-quiet
returns-in-Some-form_again-clause-quiet g c = λ none.
    let a = c.args in
    let same = notes_of_read a.form a.number a.moment a.octets.now (frame_of c.see-view.result) c.in-Some-form_again.written c.see-view.ensures.exact c.in-Some-form_again.ensures in
    c.put_judged.ensures.quiet (same ∙ none)

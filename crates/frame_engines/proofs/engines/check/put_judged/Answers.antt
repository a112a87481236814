use Rattle.std.proofs.Common.{◌++◌, Bool, ap, ◌∙◌}
use Rattle.list_core.proofs.Emptiness.{back_nil}
use Rattle.text_core.proofs.Fronts.{then_appended}
use Rattle.frame_engines.specs.declared.engines.check.Note.TheVariants.{NotWritten, Destination}
use Rattle.frame_engines.specs.computed.InForm.{note_in}
use Rattle.frame_engines.proofs.CheckLemmas.{note_holds}
use Rattle.frame_engines.proofs.engines.check.put_judged.Goals as goal

pub returns-clause-text : goal.returns-clause-text
returns-clause-text g c =
    let a = c.args in
    then_appended c.put_note-2.result _ _ _ _ _ _ c.in_ok-put_note.ensures.text c.put_note-2.ensures.text
    (ap (λ (q : Bool). note_in a.form a.number a.moment NotWritten a.written ++ note_in a.form a.number a.moment Destination q) c.has_recommended_destination-recommended.ensures)

pub returns-clause-quiet : goal.returns-clause-quiet
returns-clause-quiet g c = λ none.
    let a = c.args in
    c.put_note-2.ensures.quiet (c.has_recommended_destination-recommended.ensures ∙ note_holds a.form a.number a.moment Destination _ (back_nil _ _ none))

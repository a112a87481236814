use Rattle.std.proofs.Common.{◌++◌, ℕ, List, ap, arith, ◌∙◌}
use Rattle.frame_engines.proofs.CheckLemmas.{notes_of_frame, text_there}
use Rattle.frame_engines.proofs.engines.check.put_event_notes.Goals as goal

pub returns-clause-noted : goal.returns-clause-noted
returns-clause-noted g c =
    let a = c.args in
    let octets = rw c.as_slice.ensures at c.in_ok-put_notes.ensures.text in
    let text = octets ∙ ap (λ (l : List ℕ). a.line.now.items ++ l) (notes_of_frame _ a.form a.number a.event.now.moment c.in-Frame.octets) in
    rw c.in-Frame.is (
      text,
      text_there c.len-before.result c.len.result _ _ _ (omega (arith, c.len-before.ensures, a.line.now.ok.0)) (omega (arith, c.len.ensures, c.put_notes.new.line.ok.0)) text,
    )

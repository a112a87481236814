use Rattle.std.proofs.Common.{arith, ap, sym, length, ◌∙◌, ◌∷◌, [], ◌<◌}
use Rattle.std.proofs.lemmas.Bool.Decides.{nat_tests}
use Rattle.list_core.specs.EventLine.{event_of_fields}
use Rattle.list_core.proofs.LineFields.{frame_spaced, frame_unmoved, frame_unread}
use Rattle.list_core.proofs.list_line.why_no_frame.Goals as goal

pub returns-in-Some-default : goal.returns-in-Some-default
returns-in-Some-default g c = λ xs front.
    ap (λ ps. event_of_fields {A = g.row.A.Denot} c.args.unit ((70 ∷ []) ∷ ps)) front.2 ∙ frame_spaced c.args.unit front.0 c.args.rest.now c.in-Some-default.field-0-0 c.in-Some-default.ensures

pub returns-in-None-None : goal.returns-in-None-None
returns-in-None-None g c = λ xs front.
    let there : 0 < length c.args.rest.now = grind (arith, nat_tests) in
    ap (λ ps. event_of_fields {A = g.row.A.Denot} c.args.unit ((70 ∷ []) ∷ ps)) front.2 ∙ frame_unmoved c.args.unit front.0 c.args.rest.now front.1 there c.in-None-None.ensures (sym front.3 ∙ c.in-None-None.is-1)

pub returns-in-None-Some : goal.returns-in-None-Some
returns-in-None-Some g c = λ xs front.
    let there : 0 < length c.args.rest.now = grind (arith, nat_tests) in
    ap (λ ps. event_of_fields {A = g.row.A.Denot} c.args.unit ((70 ∷ []) ∷ ps)) front.2 ∙ frame_unread c.args.unit front.0 c.args.rest.now c.in-None-Some.field-0-1 front.1 there c.in-None-Some.ensures (sym front.3 ∙ c.in-None-Some.is-1) c.requires.octets

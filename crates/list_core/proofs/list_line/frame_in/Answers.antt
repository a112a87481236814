use Rattle.std.proofs.Common.{subst, ℕ, Option, is_some}
use Rattle.list_core.specs.EventLine.{frame_event, frame_octets_by}
use Rattle.list_core.specs.computed.LineAnswer.{Answers}
use Rattle.list_core.proofs.LineFields.{frame_answer}
use Rattle.list_core.proofs.LineShapes.{read_there}
use Rattle.list_core.proofs.list_line.frame_in.Goals as goal

pub returns-in-Some-frame_octets_in : goal.returns-in-Some-frame_octets_in
returns-in-Some-frame_octets_in g c =
    let front = c.in-Some.ensures in
    let octets = frame_octets_by c.in-Some.digits.now in
    let read = c.in-Some-frame_octets_in.ensures in
    let answer = subst (λ (m : Option ℕ). Answers c.frame_event.result (frame_event {A = g.row.A.Denot} m octets) (is_some m)) front.3 (c.frame_event.ensures _ read) in
    frame_answer {A = g.row.A.Denot} c.frame_event.result c.args.unit c.args.rest.now front.0 c.in-Some.digits.now front.2 front.1 (read_there c.in-Some-frame_octets_in.octets octets read) answer

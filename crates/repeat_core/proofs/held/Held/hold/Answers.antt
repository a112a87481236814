use Rattle.frame_core.proofs.ReadingLaws.{frame_read_found}
use Rattle.std.proofs.Common.{ap, ◌∙◌}
use Rattle.frame_core.specs.FrameViews.{frame_of, is_written}
use Rattle.repeat_core.proofs.FromSeen.{envelope_seen, goose_seen, order_seen, written_seen}
use Rattle.repeat_core.proofs.held.Held.hold.Goals as goal

pub keep-requires-clause-envelope : goal.keep-requires-clause-envelope
keep-requires-clause-envelope g c =
    let o = c.args.octets.now in
    rw c.ether_type_place.ensures (envelope_seen o c.in-Ok.frame c.in-Goose.goose c.in-Goose.is (frame_read_found o (frame_of c.in-Ok.frame) c.in-Ok.ensures.exact))

pub keep-requires-clause-ordered : goal.keep-requires-clause-ordered
keep-requires-clause-ordered g c =
    let o = c.args.octets.now in
    rw c.ether_type_place.ensures (order_seen o c.in-Ok.frame c.in-Goose.goose c.in-Goose.is (frame_read_found o (frame_of c.in-Ok.frame) c.in-Ok.ensures.exact)).0

pub keep-requires-clause-spelled : goal.keep-requires-clause-spelled
keep-requires-clause-spelled g c =
    let o = c.args.octets.now in
    rw c.ether_type_place.ensures (goose_seen o c.in-Ok.frame c.in-Goose.goose c.in-Goose.is (frame_read_found o (frame_of c.in-Ok.frame) c.in-Ok.ensures.exact))

pub keep-requires-clause-written : goal.keep-requires-clause-written
keep-requires-clause-written g c = λ told.
    let o = c.args.octets.now in
    let w = c.in-Ok.ensures.written (ap is_written c.in-Goose.is ∙ told) in
    rw c.ether_type_place.ensures (written_seen o c.in-Ok.frame c.in-Goose.goose c.in-Goose.is (frame_read_found o (frame_of c.in-Ok.frame) c.in-Ok.ensures.exact) w.0)

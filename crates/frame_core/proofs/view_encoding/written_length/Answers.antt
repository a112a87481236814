use Rattle.std.proofs.Common.{length, ap, arith}
use Rattle.frame_core.specs.FrameViews.{apdu_of, frame_of}
use Rattle.frame_core.specs.Written.{written_apdu}
use Rattle.frame_core.proofs.FrameSizes.{frame_size}
use Rattle.frame_core.proofs.view_encoding.written_length.Goals as goal

pub returns : goal.returns
returns c =
    let e = c.in_ok-apdu.ensures in
    let carried = ap (λ a. length (written_apdu (apdu_of {A = Unit {0}} a))) c.in-Goose.is in
    omega (arith, e.length, carried, c.tag_length.ensures.exact, frame_size (frame_of {A = Unit {0}} c.args.view.now))

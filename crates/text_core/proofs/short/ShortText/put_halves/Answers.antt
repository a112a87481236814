use Rattle.std.proofs.Common.{◌≡◌, drop, length, ap, arith}
use Rattle.std.proofs.lemmas.List.{length-drop}
use Rattle.text_core.proofs.Overlays.{overlaid}
use Rattle.text_core.proofs.short.ShortText.put_halves.Goals as goal

pub returns : goal.returns
returns g c =
    let held = length-drop c.self.inside.start c.self.inside.octets in
    let view : length (drop c.self.inside.start c.self.inside.octets) ≡ length c.args.self.now = ap length c.self.view_is in
    let kept = c.self.invariant in
    rw (c.copy_from_slice-2.ensures.after, c.copy_from_slice.ensures.after)
    (overlaid c.self.inside.octets c.args.first.now c.args.last.now c.args.self.now g.row.N c.args.from c.self.inside.start c.requires.order
    (omega (arith, held, view, kept, c.requires.room)) (omega (arith, kept)) c.told-first c.told-last c.self.view_is)

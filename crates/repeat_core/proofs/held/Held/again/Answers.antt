use Rattle.repeat_core.proofs.BesideFrames.{repeats}
use Rattle.repeat_core.proofs.held.Held.again.Goals as goal

pub returns-clause-repeats : goal.returns-clause-repeats
returns-clause-repeats g c =
    let held = c.args.self.now in
    let e = c.in_ok-live.ensures in
    repeats g.B.Beside.suits g.B.Beside.suits_once _ held.octets.items c.args.octets.now held.beside c.as_ref.ensures.value e.shown.shows e.same (held.suited e.good)

use Rattle.std.proofs.Common.{rules, ◌≡◌, true}
use Rattle.std.specs.Prelude.{is_some}
use Rattle.repeat_core.proofs.BesideFrames.{kept}
use Rattle.repeat_core.proofs.held.Held.put_beside.Goals as goal

pub invariant_of-self-clause-suited : goal.invariant_of-self-clause-suited
invariant_of-self-clause-suited g c good =
    let held = c.args.self.now in
    let e = c.numbers.ensures in
    let is : is_some c.numbers.result ≡ true = search rules in
    ∣ kept g.B.Beside.suits c.args.beside held.octets.items c.args.octets.now held.notes held.written c.numbers.result is e.shown e.same c.requires ∣₁

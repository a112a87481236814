use Rattle.std.proofs.Common.{◌≡◌, ◌∙◌, Some, None, ap, refl}
use Rattle.capture_core.specs.PacketReader.{stage_of}
use Rattle.capture_core.specs.declared.packet_reader.Progress.{Progress}
use Rattle.capture_core.specs.declared.packet_reader.Progress.TheVariants.{Over}
use Rattle.capture_core.proofs.LastRead.{over_ends, over_fails, over_wants}
use Rattle.capture_core.proofs.packet_reader.PacketReader.step.Goals as goal

pub returns-in-Over-None : goal.returns-in-Over-None
returns-in-Over-None g c =
    let old = c.args.self.now in
    let at : old.progress ≡ Over None = c.in-Over-None.is ∙ ap Over (rw c.in-Over-None.is at c.in-Over-None.field-0-is) in
    (over_ends _ (ap (λ (p : Progress). stage_of p old.interfaces.items old.moment) at), refl, tt)

pub returns-in-Over-Some : goal.returns-in-Over-Some
returns-in-Over-Some g c =
    let old = c.args.self.now in
    let at : old.progress ≡ Over (Some c.in-Over-Some.fault) = c.in-Over-Some.is ∙ ap Over (rw c.in-Over-Some.is at c.in-Over-Some.field-0-is) in
    (over_fails _ c.in-Over-Some.fault (ap (λ (p : Progress). stage_of p old.interfaces.items old.moment) at), rw at refl, tt)

pub returns-in-GivenUp : goal.returns-in-GivenUp
returns-in-GivenUp g c =
    let old = c.args.self.now in
    (over_wants _ (ap (λ (p : Progress). stage_of p old.interfaces.items old.moment) c.in-GivenUp.is), rw c.in-GivenUp.is refl, tt)

use Rattle.std.proofs.Common.{◌∙◌, ap, arith, sym}
use Rattle.loss_engine.specs.computed.Entries.{entry_key}
use Rattle.loss_engine.proofs.TrackedKeys.{same_is}
use Rattle.loss_engine.proofs.roll.has_sender_guessed.Goals as goal

pub returns-in-Some : goal.returns-in-Some
returns-in-Some g c = λ yes.
    let there = c.in-Some.ensures.lookup in
    record { within = there.3.0; has = λ d. ap entry_key (sym (there.4 (omega arith) d)) ∙ same_is _ _ (sym c.is_sender.ensures ∙ yes) }

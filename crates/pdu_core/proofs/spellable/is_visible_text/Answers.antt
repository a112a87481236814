use Rattle.std.proofs.Common.{◌≡◌, true, false, refl, sym}
use Rattle.pdu_core.proofs.Texts.{text_is, text_is_not}
use Rattle.pdu_core.proofs.spellable.is_visible_text.Goals as goal

pub returns-in-Ok : goal.returns-in-Ok
returns-in-Ok c = (λ _. text_is c.args.text.now tt (sym c.in-Ok.ensures.exact), λ _. refl)

pub returns-in-Err : goal.returns-in-Err
returns-in-Err c = (λ (e : false ≡ true). absurd (cc), λ text. absurd (text_is_not c.args.text.now c.in-Err.field-0 (sym c.in-Err.ensures.exact) text))

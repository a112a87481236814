use Rattle.std.proofs.Common.{◌≡◌, ℕ, ◌++◌, ◌∙◌, length, Ok, Err, ap, sym, arith}
use Rattle.std.proofs.lemmas.List.{length-append}
use Rattle.list_core.specs.declared.device.InputEnd.TheVariants.{Open}
use Rattle.capture_core.specs.Header.{header_of}
use Rattle.capture_core.specs.computed.OneRead.{classic_form}
use Rattle.capture_core.specs.declared.start.Start.TheVariants as start
use Rattle.capture_core.proofs.StartsRead.{classic_short, classic_whole}
use Rattle.capture_core.proofs.Fronts.{front_whole}
use Rattle.capture_core.proofs.start.read_classic.Goals as goal

pub returns-in-Some : goal.returns-in-Some
returns-in-Some g c =
    let t = c.in-Ok.ensures in
    let magic = c.args.magic.now in
    let is = c.in-Some.ensures ∙ ap header_of (c.header_with-header.ensures ∙ ap (λ l. magic ++ l) (sym t.5)) in
    let size : 24 ≡ length (magic ++ t.0) = simp length-append (omega (arith, c.requires, t.1)) in
    front_whole _ _ magic t.0 _ _ _ _ t.2 t.3 t.4 (λ front few. classic_short Open magic front c.requires (omega (arith, few, t.1)))
    (λ more y f. classic_whole y magic t.0 more c.requires t.1 ∙ ap classic_form (sym is) ∙ ap (λ (k : ℕ). Ok (start.Records c.in-Some.form, k)) size)

pub returns-in-None : goal.returns-in-None
returns-in-None g c =
    let t = c.in-Ok.ensures in
    let magic = c.args.magic.now in
    let is = c.in-None.ensures ∙ ap header_of (c.header_with-header.ensures ∙ ap (λ l. magic ++ l) (sym t.5)) in
    front_whole _ _ magic t.0 _ _ _ _ t.2 t.3 t.4 (λ front few. classic_short Open magic front c.requires (omega (arith, few, t.1)))
    (λ more y f. classic_whole y magic t.0 more c.requires t.1 ∙ ap classic_form (sym is) ∙ ap Err (sym c.in_record.ensures))

use Rattle.std.proofs.Common.{◌++◌, refl}
use Rattle.std.specs.Prelude.{codes}
use Rattle.std.specs.Fmt.{decimal}
use Rattle.text_core.proofs.Fronts.{appended, then_appended}
use Rattle.text_core.proofs.PieceLemmas.{then_text}
use Rattle.exchange_engines.proofs.texts.script.put_script_fault_head.Goals as goal

pub returns : goal.returns
returns g c =
    let begun = codes "# " ++ decimal c.args.number in
    let number = then_text c.args.out.now.items (codes "# ") (decimal c.args.number) begun c.extend_from_slice.new.self.items c.put_decimal.new.out.items c.in_ok-extend_from_slice.ensures.items c.in_ok-put_decimal.ensures refl in
    then_appended c.extend_from_slice-2.result _ _ _ begun (codes " script ") _ number (appended _ _ _ (codes " script ") (codes " script ") c.extend_from_slice-2.ensures.items refl) refl

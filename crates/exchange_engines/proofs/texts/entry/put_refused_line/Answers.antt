use Rattle.std.proofs.Common.{◌++◌, refl}
use Rattle.std.specs.Prelude.{codes}
use Rattle.text_core.proofs.Fronts.{appended, then_appended}
use Rattle.text_core.proofs.PieceLemmas.{then_text}
use Rattle.exchange_engines.specs.EntryText.{entry_head}
use Rattle.exchange_engines.specs.ExchangeNames.{name_of_reason}
use Rattle.exchange_engines.proofs.texts.entry.put_refused_line.Goals as goal

pub returns : goal.returns
returns g c =
    let a = c.args in
    let head = entry_head a.number (codes " refused ") a.block in
    let why = codes " " ++ name_of_reason a.reason in
    let name = then_text c.put_entry_head.new.out.items (codes " ") (name_of_reason a.reason) why c.extend_from_slice.new.self.items c.extend_from_slice-2.new.self.items c.in_ok-extend_from_slice.ensures.items (rw c.reason_name.ensures at c.in_ok-extend_from_slice-2.ensures.items) refl in
    let begun = then_text a.out.now.items head why (head ++ why) _ _ c.in_ok-put_entry_head.ensures name refl in
    then_appended c.extend_from_slice-3.result _ _ _ (head ++ why) (codes "\n") _ begun (appended _ _ _ (codes "\n") (codes "\n") c.extend_from_slice-3.ensures.items refl) refl

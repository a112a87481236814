use Rattle.std.proofs.Common.{◌++◌, refl}
use Rattle.std.specs.Fmt.{decimal}
use Rattle.text_core.proofs.Fronts.{then_appended}
use Rattle.text_core.proofs.PieceLemmas.{then_text}
use Rattle.exchange_engines.proofs.texts.entry.put_entry_head.Goals as goal

pub returns : goal.returns
returns g c =
    let a = c.args in
    let o = a.out.now.items in
    let begun = then_text o (decimal a.number) a.word.now (decimal a.number ++ a.word.now) c.put_decimal.new.out.items c.extend_from_slice.new.self.items c.in_ok-put_decimal.ensures c.in_ok-extend_from_slice.ensures.items refl in
    then_appended _ o c.extend_from_slice.new.self.items _ (decimal a.number ++ a.word.now) (decimal a.block) _ begun c.put_decimal-2.ensures refl

use Rattle.std.proofs.Common.{◌-◌, arith, sym}
use Rattle.std.proofs.lemmas.Fmt.{decimal_digit}
use Rattle.std.specs.Fmt.{decimal}
use Rattle.list_core.proofs.Decimals.{decimal_fits}
use Rattle.text_core.proofs.Cuts.{reached_front}
use Rattle.text_core.proofs.Fronts.{appended}
use Rattle.text_core.proofs.pieces.put_decimal.Goals as goal

pub write_digits-start-requires : goal.write_digits-start-requires
write_digits-start-requires g c =
    let fits = decimal_fits c.args.number (omega arith) in
    (omega (arith, fits), omega arith)

pub returns : goal.returns
returns g c =
    rw (← reached_front (decimal c.args.number) _ _ c.reached.result.now (32 - c.write_digits-start.result) c.reached.ensures c.write_digits-start.ensures.written (omega (arith, c.write_digits-start.ensures.start)) (omega arith)) c.put_front.ensures.text

pub returns-then-number-lt10 : goal.returns-then-number-lt10
returns-then-number-lt10 g c =
    appended c.extend_from_slice.result c.args.out.now.items c.extend_from_slice.new.self.items _ _ c.extend_from_slice.ensures.items
    (sym (decimal_digit c.args.number c.if-number-lt10.true))

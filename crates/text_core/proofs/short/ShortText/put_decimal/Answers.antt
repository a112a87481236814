use Rattle.std.proofs.Common.{◌≡◌, length, drop, ap, arith}
use Rattle.std.specs.Fmt.{decimal}
use Rattle.std.proofs.lemmas.List.{length-append, length-drop}
use Rattle.list_core.proofs.Decimals.{decimal_fits}
use Rattle.text_core.proofs.short.ShortText.put_decimal.Goals as goal

pub write_digits-self-inside-requires : goal.write_digits-self-inside-requires
write_digits-self-inside-requires c =
    let fits = decimal_fits c.args.number (omega arith) in
    let held = length-drop c.self.inside.start c.self.inside.octets in
    let view : length (drop c.self.inside.start c.self.inside.octets) ≡ length c.args.self.now = ap length c.self.view_is in
    (omega (arith, fits, held, view), omega arith)

pub returns-clause-size : goal.returns-clause-size
returns-clause-size c =
    let fits = decimal_fits c.args.number (omega arith) in
    let held = length-append (decimal c.args.number) (drop c.self.inside.start c.self.inside.octets) in
    let size = ap length c.write_digits-self-inside.ensures.written in
    let view : length (drop c.self.inside.start c.self.inside.octets) ≡ length c.args.self.now = ap length c.self.view_is in
    omega (arith, fits, held, size, view)

use Rattle.std.proofs.Common.{◌≡◌, ◌/◌, ◌%◌, arith}
use Rattle.date_core.proofs.date.written.Goals as goal

pub returns : goal.returns
returns c =
    let fraction : c.args.time % 1_000_000 / 10_000 ≡ c.args.time % 1_000_000 / 100 / 100 = omega arith in
    rw (c.digits_of.ensures, c.digits_of-2.ensures, c.digits_of-3.ensures, c.digits_of-4.ensures, c.digits_of-5.ensures, c.digits_of-6.ensures, c.digits_of-7.ensures, c.digits_of-8.ensures, c.digits_of-9.ensures, c.digits_of-10.ensures, fraction)

-- Numbers in decimal.
use Rattle.std.proofs.Common.{ℕ, ◌^◌, ◌<◌, ◌≤◌, length, arith}
use Rattle.std.specs.Fmt.{decimal}
use Rattle.std.proofs.lemmas.Fmt.{length-decimal-le}

pub decimal_short : (n : ℕ) → n < 10 ^ 18 → length (decimal n) ≤ 18
decimal_short n h = length-decimal-le 18 n (omega arith) h (omega arith)

pub decimal_fits : (n : ℕ) → n < 2 ^ 64 → length (decimal n) ≤ 20
decimal_fits n h = length-decimal-le 20 n (omega arith) (omega arith) (omega arith)

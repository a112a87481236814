use Rattle.std.proofs.Common.{◌≡◌, ◌<◌, ◌≤◌, ◌/◌, ◌^◌, ℕ, true, ltb, sym, arith}
use Rattle.std.proofs.Math.Nat.{pow-le-pow_right, div-eq_of_lt, one-le-pow}
use Rattle.std.proofs.lemmas.Bool.Decides.{nat_tests}
use Rattle.capture_core.specs.Interfaces.{units_of}
use Rattle.capture_core.proofs.interface.rounded_down.Goals as goal

-- at most ten to the power 25 fits
few_tens : (r : ℕ) → r ≤ 25 → 10 ^ r ≤ 10 ^ 25
few_tens r h = pow-le-pow_right (omega arith) h

-- of a power of ten that is greater than the number nothing is left
many_tens : (fine r : ℕ) → fine < 2 ^ 84 → 26 ≤ r → r < 128 → 0 ≡ fine / units_of r
many_tens fine r f many few =
    let below : ltb r 128 ≡ true = grind (arith, nat_tests) in
    let great : 10 ^ 26 ≤ 10 ^ r = pow-le-pow_right (omega arith) many in
    rw below (sym (div-eq_of_lt (omega (arith, great, f))))

pub pow-requires : goal.pow-requires
pow-requires c = let h = few_tens c.from.result (omega arith) in omega (arith, h)

pub nonzero_div-result : goal.nonzero_div-result
nonzero_div-result c = let h = one-le-pow c.from.result 10 (omega arith) in omega (arith, h, c.pow.ensures)

pub returns-else-resolution-le-MOST_TENS-clause-value : goal.returns-else-resolution-le-MOST_TENS-clause-value
returns-else-resolution-le-MOST_TENS-clause-value c = many_tens c.args.fine c.args.resolution c.requires (omega arith) (omega arith)

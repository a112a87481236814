use Rattle.std.proofs.Common.{arith, true, Ok, ◌≡◌, ◌∙◌, ◌-◌, ap, length, replicate, sym, List, ℕ}
use Rattle.std.specs.List.{list_all}
use Rattle.std.proofs.lemmas.List.{length-replicate}
use Rattle.hex.specs.Hex.{decode_of, is_hex_digit}
use Rattle.list_core.proofs.Pairs.{few_read, filled_good}
use Rattle.list_core.proofs.hexadecimal.read_few.Goals as goal

pub returns-in_default-clause-all : goal.returns-in_default-clause-all
returns-in_default-clause-all c =
    let digits = c.args.digits.now in
    sym c.in_default.ensures ∙ ap (list_all is_hex_digit) c.filled.ensures ∙ filled_good (64 - length digits) digits

pub returns-clause-read : goal.returns-clause-read
returns-clause-read c =
    let digits = c.args.digits.now in
    let zeros = 64 - length digits in
    let all : list_all is_hex_digit digits ≡ true =
    sym (filled_good zeros digits) ∙ ap (list_all is_hex_digit) (sym c.filled.ensures) ∙ c.in-Some.ensures.0 in
    let behind = length-replicate {A = ℕ} zeros 48 in
    λ _.
    few_read digits (replicate zeros 48) c.in-Some.read all (omega (arith, c.requires.pairs)) (omega (arith, behind, c.requires.pairs, c.requires.few)) (ap decode_of (sym c.filled.ensures) ∙ c.in-Some.ensures.1)
    ∙ ap (λ (l : List ℕ). Ok l) (sym c.copy_from_slice.ensures.after)

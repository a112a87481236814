use Rattle.std.proofs.Common.{◌≡◌, ◌∙◌, ◌≤◌, ℕ, Option, Some, None, ap, arith, refl}
use Rattle.std.specs.Prelude.{IfSome, Ok}
use Rattle.std.specs.Str.Parse.{ParsesUnsigned}
use Rattle.std.specs.declared.num.ParseIntError.{ParseIntError}
use Rattle.clap.specs.Words.{Text}
use Rattle.words_core.specs.CommandLine.{period_number}
use Rattle.words_core.proofs.Digits.{not_parsed, parsed_in, parsed_out}
use Rattle.words_core.proofs.period_words.period_number.Goals as goal

of_parsed : (text : Text) (n : ℕ) (o : Option ℕ) → ParsesUnsigned {E = ParseIntError} 32 10 text (Ok n) → IfSome o (λ k. (k ≡ n) × (2 ≤ k) × (k ≤ 65536)) → (o ≡ None → 2 ≤ n → n ≤ 65536 → ⊥) → o ≡ period_number text
of_parsed text n None p some none = parsed_out ParseIntError text n p (none refl)
of_parsed text n (Some k) p some none =
    ap (λ (m : ℕ). Some m) some.0 ∙ parsed_in ParseIntError text n p (omega (arith, some.0, some.1)) (omega (arith, some.0, some.2))

pub returns-in-Ok : goal.returns-in-Ok
returns-in-Ok c = of_parsed c.args.text.now c.in-Ok.number c.in_range.result c.in-Ok.ensures.value.0 c.in_range.ensures.found c.in_range.ensures.only

pub returns-in-Err : goal.returns-in-Err
returns-in-Err c = not_parsed c.args.text.now c.in-Err.ensures.value.0

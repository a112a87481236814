use Rattle.std.proofs.Common.{◌≡◌, ◌∙◌, ◌+◌, ◌<◌, ℕ, List, [], ◌∷◌, get_or, length, map, sym, ap, take}
use Rattle.std.specs.Prelude.{fold}
use Rattle.std.specs.Borrow.{Bor}
use Rattle.std.proofs.lemmas.List.{map-append, take_more}
use Rattle.std.proofs.lemmas.List.Sums.{fold-append}
use Rattle.std.proofs.lemmas.Result.{IfOk-weaker}
use Rattle.clap.specs.Words.{App, Rule, Text, with_rule}
use Rattle.words_core.specs.CommandLine.{option_named}
use Rattle.words_core.proofs.option_words.with_each.Goals as goal

abbrev Named : Type 0
Named = Bor Text × Bor Text

abbrev rule_named : Named → Rule
rule_named o = option_named o.0.now

-- the command with one more of these options
one_more : (a : App) (options : List Named) (i : ℕ) (d : Named) → i < length options
    → fold with_rule a (map rule_named (take (i + 1) options)) ≡ with_rule (fold with_rule a (map rule_named (take i options))) (rule_named (get_or options i d))
one_more a options i d inside =
    ap (λ (l : List Named). fold with_rule a (map rule_named l)) (take_more options i d inside)
    ∙ ap (fold with_rule a) (map-append rule_named (take i options) (get_or options i d ∷ []))
    ∙ fold-append with_rule a (map rule_named (take i options)) (rule_named (get_or options i d) ∷ [])

pub loop-name-preserved : goal.loop-name-preserved
loop-name-preserved c = (
  λ a h. IfOk-weaker c.with_arg-command.result _ _ (λ r e. e ∙ sym (one_more a c.args.options.now c.loop-name.name-index _ c.loop-name-test.true))
      (c.with_arg-command.ensures.app _ _ c.flag_option.ensures.rule (c.loop-name.invariant.0 a h)),
  λ h. c.with_arg-command.ensures.local (c.loop-name.invariant.1 h),
)

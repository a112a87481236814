use Rattle.std.proofs.Common.{◌≡◌, ◌∙◌, Bool, List, [], ◌∷◌, ◌++◌, sym, ap, append_assoc}
use Rattle.std.specs.Prelude.{fold}
use Rattle.std.proofs.lemmas.List.{append-nil}
use Rattle.std.proofs.lemmas.Result.{IfOk-weaker}
use Rattle.clap.specs.Words.{App, Rule, with_rule}
use Rattle.words_core.specs.computed.OfferedLine.{offering}
use Rattle.words_core.proofs.option_words.with_options.Goals as goal
use Rattle.words_core.specs.RequestLine.{read_rule, switch_rules}

-- the command with these rules
abbrev with_rules : App → List Rule → App
with_rules a rules = record a { top = record a.top { rules = rules } }

each_added : (rules : List Rule) (a : App) → fold with_rule a rules ≡ with_rules a (a.top.rules ++ rules)
each_added [] a = ap (with_rules a) (sym (append-nil a.top.rules))
each_added (r ∷ rules) a = each_added rules (with_rule a r) ∙ ap (with_rules a) (append_assoc a.top.rules (r ∷ []) rules)

-- the name of a file before them
file_first : (rules : List Rule) (a : App) → fold with_rule (with_rule a read_rule) rules ≡ with_rules a (a.top.rules ++ read_rule ∷ rules)
file_first rules a = each_added (read_rule ∷ rules) a

pub returns-then-takes_options-clause-app : goal.returns-then-takes_options-clause-app
returns-then-takes_options-clause-app c a h =
    let read = c.with_arg-command.ensures.app a _ c.read_option.ensures.rule h in
    IfOk-weaker c.with_each.result _ _ (λ r e. e ∙ file_first switch_rules a ∙ ap (λ (b : Bool). offering b a) (sym c.if-takes_options.true)) (c.with_each.ensures.app (with_rule a read_rule) read)

pub returns-else-takes_options-clause-app : goal.returns-else-takes_options-clause-app
returns-else-takes_options-clause-app c a h =
    let read = c.with_arg-command.ensures.app a _ c.read_option.ensures.rule h in
    IfOk-weaker c.with_arg-command.result _ _ (λ r e. e ∙ file_first [] a ∙ ap (λ (b : Bool). offering b a) (sym c.if-takes_options.false)) read

use Rattle.std.proofs.Common.{◌≡◌, ◌∙◌, Option, Some, None, option_and_then, subst, sym}
use Rattle.std.specs.Prelude.{codes}
use Rattle.std.proofs.lemmas.Result.{IfOk-weaker}
use Rattle.clap.specs.Words.{found_of, rows_of}
use Rattle.clap.proofs.WalkLemmas.{first_value-rows}
use Rattle.words_core.specs.declared.option_words.Options.{Options}
use Rattle.words_core.specs.RequestLine.{options_in, with_these}
use Rattle.words_core.specs.computed.OfferedLine.{MayGrant}
use Rattle.words_core.specs.computed.PrivateCalls.{MayAnswer}
use Rattle.words_core.proofs.WordLemmas.{grants, grants_none}
use Rattle.words_core.proofs.words.request_of.Goals as goal
use Rattle.words_core.specs.CommandLine.{task_asked}

pub returns-in-Some-clause-request : goal.returns-in-Some-clause-request
returns-in-Some-clause-request c =
    let rows = rows_of (found_of c.args.matches.now) in
    let asked = task_asked (c.args.name.now, rows) in
    let given : options_in rows ≡ Some c.in_ok-options.options = sym c.options_met.ensures ∙ c.in_ok-options.was in
    let may : MayAnswer asked (Some c.in-Some.answer) = rw c.in-Some.is at c.task_of.ensures in
    subst (λ (x : Option Options). MayGrant (option_and_then (λ o. option_and_then (with_these o) asked) x) (Some c.with_these.result)) (sym given)
    (grants asked c.in_ok-options.options c.in-Some.answer c.with_these.result c.with_these.ensures.answered c.with_these.ensures.excluded c.with_these.ensures.refused may)

pub returns-in-None-clause-request : goal.returns-in-None-clause-request
returns-in-None-clause-request c =
    let rows = rows_of (found_of c.args.matches.now) in
    let asked = task_asked (c.args.name.now, rows) in
    let given : options_in rows ≡ Some c.in_ok-options.options = sym c.options_met.ensures ∙ c.in_ok-options.was in
    let may : MayAnswer asked None = rw c.in-None.is at c.task_of.ensures in
    subst (λ (x : Option Options). MayGrant (option_and_then (λ o. option_and_then (with_these o) asked) x) None) (sym given) (grants_none asked c.in_ok-options.options may)

pub returns-in-Some-clause-file : goal.returns-in-Some-clause-file
returns-in-Some-clause-file c =
    let file = c.get_str-file.ensures ∙ first_value-rows (found_of c.args.matches.now) (codes "read") in
    IfOk-weaker c.with_these.result _ _ (λ r same. same ∙ file) c.with_these.ensures.file

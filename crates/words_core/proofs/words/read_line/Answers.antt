use Rattle.std.proofs.Common.{◌≡◌, ◌∙◌, [], List, Option, Err, option_and_then, sym, ap, subst}
use Rattle.std.specs.Prelude.{IfErr, IfOk, IfSome, option_map}
use Rattle.std.proofs.lemmas.Result.{IfErr-weaker, IfOk-weaker}
use Rattle.clap.specs.Words.{App, HasKind, Row, Text, fault_of, is_simple, is_simple_and_free, subcommand_of, takes}
use Rattle.clap.specs.Walk.{texts}
use Rattle.words_core.specs.declared.words.WordsError.{WordsError}
use Rattle.words_core.specs.CommandLine.{IsNoMistake}
use Rattle.words_core.specs.computed.OfferedLine.{IsExclusion, MayGrant}
use Rattle.words_core.specs.RequestLine.{file_asked, request_asked, request_faults, request_line, request_of_words}
use Rattle.words_core.proofs.WordLemmas.{Granted, WhyNot, answers, excludes, free_line, may_refuse, simple_line}
use Rattle.words_core.proofs.words.read_line.Goals as goal
use Rattle.words_core.proofs.words.read_line.Goals.{In-None, In-Some}

answered : (c : In-Some) → IfOk c.in-Some.answer (λ r. Granted (texts c.args.words.now) r × (request_faults (texts c.args.words.now) ≡ [])) × IfErr c.in-Some.answer (WhyNot (texts c.args.words.now))
answered c =
    let words = texts c.args.words.now in
    let rows = (c.in-Ok-try_get_matches_from.ensures.matches (ap is_simple c.in-Ok.ensures ∙ simple_line)).1 ∙ ap (λ (a : App). subcommand_of a words) c.in-Ok.ensures in
    let none : fault_of request_line words ≡ [] = subst (λ (a : App). fault_of a words ≡ []) c.in-Ok.ensures (c.in-Ok-try_get_matches_from.ensures.kinds (ap is_simple_and_free c.in-Ok.ensures ∙ free_line)) in
    answers words none c.in-Some.answer (rw c.in-Some.is at (subst (λ (o : Option (Text × List Row)). MayGrant (option_and_then request_asked o) c.request_met.result) rows c.request_met.ensures.request))

excluded : (c : In-None) → (e : WordsError) → IsExclusion e → WhyNot (texts c.args.words.now) e
excluded c e is =
    let words = texts c.args.words.now in
    let rows = (c.in-Ok-try_get_matches_from.ensures.matches (ap is_simple c.in-Ok.ensures ∙ simple_line)).1 ∙ ap (λ (a : App). subcommand_of a words) c.in-Ok.ensures in
    let none : fault_of request_line words ≡ [] = subst (λ (a : App). fault_of a words ≡ []) c.in-Ok.ensures (c.in-Ok-try_get_matches_from.ensures.kinds (ap is_simple_and_free c.in-Ok.ensures ∙ free_line)) in
    let may = rw c.in-None.is at (subst (λ (o : Option (Text × List Row)). MayGrant (option_and_then request_asked o) c.request_met.result) rows c.request_met.ensures.request) in
    (answers words none (Err e) (excludes (request_of_words words) e may is)).1

pub returns-in-Some-clause-wish : goal.returns-in-Some-clause-wish
returns-in-Some-clause-wish c = IfOk-weaker c.in-Some.answer _ _ (λ r h. h.0) (answered (goal.at.returns-in-Some-clause-wish c).In-Some).0

pub returns-in-Some-clause-file : goal.returns-in-Some-clause-file
returns-in-Some-clause-file c =
    let words = texts c.args.words.now in
    let rows = (c.in-Ok-try_get_matches_from.ensures.matches (ap is_simple c.in-Ok.ensures ∙ simple_line)).1 ∙ ap (λ (a : App). subcommand_of a words) c.in-Ok.ensures in
    rw c.in-Some.is at (subst (λ (o : Option (Text × List Row)). IfSome c.request_met.result (λ answer. IfOk answer (λ r. option_map (λ s. s.now) r.file ≡ option_and_then file_asked o))) rows c.request_met.ensures.file)

pub returns-in-Some-clause-faultless : goal.returns-in-Some-clause-faultless
returns-in-Some-clause-faultless c = IfOk-weaker c.in-Some.answer _ _ (λ r h. h.1) (answered (goal.at.returns-in-Some-clause-faultless c).In-Some).0

pub returns-in-Some-clause-taken : goal.returns-in-Some-clause-taken
returns-in-Some-clause-taken c = λ taken agrees. IfErr-weaker c.in-Some.answer _ _ (λ e h. h.1 agrees) (answered (goal.at.returns-in-Some-clause-taken c).In-Some).1

pub returns-in-Some-clause-refused : goal.returns-in-Some-clause-refused
returns-in-Some-clause-refused c = IfErr-weaker c.in-Some.answer _ _ (λ e h. h.0) (answered (goal.at.returns-in-Some-clause-refused c).In-Some).1

pub returns-in-Ok-try_get_matches_from-clause-taken : goal.returns-in-Ok-try_get_matches_from-clause-taken
returns-in-Ok-try_get_matches_from-clause-taken c = λ taken agrees. (excluded (goal.at.returns-in-Ok-try_get_matches_from-clause-taken c).In-None c.exclusion.result c.exclusion.ensures).1 agrees

pub returns-in-Ok-try_get_matches_from-clause-refused : goal.returns-in-Ok-try_get_matches_from-clause-refused
returns-in-Ok-try_get_matches_from-clause-refused c = (excluded (goal.at.returns-in-Ok-try_get_matches_from-clause-refused c).In-None c.exclusion.result c.exclusion.ensures).0

pub returns-clause-taken : goal.returns-clause-taken
returns-clause-taken c = λ taken agrees.
    subst IsNoMistake (sym (c.refusal.ensures.memory (c.in-Err.ensures.passes (ap (λ (a : App). takes a (texts c.args.words.now)) c.in-Ok.ensures ∙ taken)))) tt

pub returns-clause-refused : goal.returns-clause-refused
returns-clause-refused c =
    let has = c.in-Err.ensures.kinds (ap is_simple_and_free c.in-Ok.ensures ∙ free_line) in
    may_refuse (texts c.args.words.now) c.in-Err.error c.refusal.result (subst (λ (a : App). HasKind (fault_of a (texts c.args.words.now)) c.in-Err.error) c.in-Ok.ensures has) c.refusal.ensures.memory c.refusal.ensures.words

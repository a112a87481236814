use Rattle.std.proofs.Common.{◌≡◌, ◌∙◌, Some, None, codes}
use Rattle.clap.specs.Words.{found_of, first_of, rows_of}
use Rattle.clap.proofs.WalkLemmas.{first_value-rows}
use Rattle.words_core.proofs.KeptRows.{period_parsed}
use Rattle.words_core.proofs.words.watch_met.Goals as goal

pub returns-in_err-period : goal.returns-in_err-period
returns-in_err-period c =
    let period = period_parsed (found_of c.args.matches.now) c.get_one.result c.get_one.ensures.none c.get_one.ensures.value in
    rw (c.from_residual.ensures, ← period, c.in_err-period.was) tt

pub returns-in_err-id : goal.returns-in_err-id
returns-in_err-id c =
    let period = period_parsed (found_of c.args.matches.now) c.get_one.result c.get_one.ensures.none c.get_one.ensures.value in
    let id : None ≡ first_of (codes "id") (rows_of (found_of c.args.matches.now)) = c.in_err-id.ensures ∙ first_value-rows (found_of c.args.matches.now) (codes "id") in
    rw (c.from_residual-in_err-id.ensures, ← period, c.in_ok-period.was, ← id) tt

pub returns : goal.returns
returns c =
    let period = period_parsed (found_of c.args.matches.now) c.get_one.result c.get_one.ensures.none c.get_one.ensures.value in
    let id : Some c.in_ok-id.id.now ≡ first_of (codes "id") (rows_of (found_of c.args.matches.now)) = c.in_ok-id.ensures ∙ first_value-rows (found_of c.args.matches.now) (codes "id") in
    rw (← period, c.in_ok-period.was, ← id) c.watch_task.ensures

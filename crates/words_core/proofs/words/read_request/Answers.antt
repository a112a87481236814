use Rattle.std.proofs.Common.{◌≤◌, is_some, ap, rules, length, arith}
use Rattle.std.specs.Borrow.{Bor}
use Rattle.std.proofs.lemmas.List.{length-map}
use Rattle.clap.specs.Lexer.{usize_max}
use Rattle.clap.specs.Words.{Text, takes}
use Rattle.clap.specs.Walk.{texts}
use Rattle.clap.proofs.WalkLemmas.{both}
use Rattle.words_core.specs.RequestLine.{request_line, request_of_words}
use Rattle.words_core.proofs.WordLemmas.{answered_period, answered_plainly, request_granted, unsaid_refused, with_file}
use Rattle.words_core.proofs.AskingWords.{words_ask_with, asked_with}
use Rattle.words_core.proofs.words.read_request.Goals as goal

pub returns-clause-found : goal.returns-clause-found
returns-clause-found c =
    let count : length c.args.words.now ≤ usize_max = search rules in
    let fits : length (texts c.args.words.now) ≤ usize_max = omega (arith, count, length-map c.args.words.now (λ (w : Bor Text). w.now)) in
    answered_plainly (texts c.args.words.now) c.read_line.result c.read_line.ensures.faultless c.read_line.ensures.wish
    (λ t options none granted plainly. words_ask_with (texts c.args.words.now) t options none granted plainly fits c.know_texts.ensures) c.read_line.ensures.file

pub returns-clause-only : goal.returns-clause-only
returns-clause-only c = λ wish options from asks.
    let words = texts c.args.words.now in
    let count : length c.args.words.now ≤ usize_max = search rules in
    let fits : length words ≤ usize_max = omega (arith, count, length-map c.args.words.now (λ (w : Bor Text). w.now)) in
    let taken = asked_with words wish options from fits asks in
    with_file words wish options from c.read_line.result
    (request_granted words wish options c.read_line.result c.read_line.ensures.wish c.read_line.ensures.refused (c.read_line.ensures.taken taken.1 (ap is_some taken.0)) taken.0) c.read_line.ensures.file taken.2

pub returns-clause-taken : goal.returns-clause-taken
returns-clause-taken c = λ taken.
    let parts = both (takes request_line (texts c.args.words.now)) (is_some (request_of_words (texts c.args.words.now))) taken in
    c.read_line.ensures.taken parts.0 parts.1

pub returns-clause-period : goal.returns-clause-period
returns-clause-period c = answered_period (texts c.args.words.now) c.read_line.result c.read_line.ensures.faultless c.read_line.ensures.wish

pub returns-clause-unsaid : goal.returns-clause-unsaid
returns-clause-unsaid c = λ u faultless bad. unsaid_refused (texts c.args.words.now) u c.read_line.result c.read_line.ensures.wish c.read_line.ensures.refused faultless bad

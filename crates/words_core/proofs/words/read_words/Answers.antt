use Rattle.std.proofs.Common.{◌∙◌, Ok, ap, sym, true≢false}
use Rattle.clap.specs.Walk.{texts}
use Rattle.clap.proofs.WalkLemmas.{both}
use Rattle.words_core.specs.CommandLine.{asked_by, names_blocks}
use Rattle.words_core.specs.RequestLine.{meaning_names_blocks, takes_request, task_of_words}
use Rattle.words_core.proofs.WordLemmas.{named_faultless, refused_so, unnamed_not_taken, unnamed_refused, wish_means}
use Rattle.words_core.proofs.words.read_words.Goals as goal

pub returns-then-names_blocks-clause-only : goal.returns-then-names_blocks-clause-only
returns-then-names_blocks-clause-only c = λ asked asks. (c.in-Ok.ensures.only asked asks.0 asks.1 asks.3).0

pub returns-then-names_blocks-clause-task : goal.returns-then-names_blocks-clause-task
returns-then-names_blocks-clause-task c = wish_means (texts c.args.words.now) (Ok (asked_by c.in-Ok.request.task, c.in-Ok.request.options)) c.in-Ok.ensures.request

pub returns-then-names_blocks-clause-faultless : goal.returns-then-names_blocks-clause-faultless
returns-then-names_blocks-clause-faultless c =
    named_faultless (texts c.args.words.now) (asked_by c.in-Ok.request.task) c.in-Ok.request.options c.in-Ok.ensures.faultless c.in-Ok.ensures.request (sym c.names_blocks.ensures ∙ c.if-names_blocks.true)

pub returns-else-names_blocks-clause-only : goal.returns-else-names_blocks-clause-only
returns-else-names_blocks-clause-only c = λ asked asks.
    let same = ap names_blocks (c.in-Ok.ensures.only asked asks.0 asks.1 asks.3).0 in
    absurd (true≢false (sym asks.2 ∙ sym same ∙ sym c.names_blocks.ensures ∙ c.if-names_blocks.false))

pub returns-else-names_blocks-clause-taken : goal.returns-else-names_blocks-clause-taken
returns-else-names_blocks-clause-taken c = λ taken.
    absurd (unnamed_not_taken (texts c.args.words.now) (asked_by c.in-Ok.request.task) c.in-Ok.request.options c.in-Ok.ensures.request (sym c.names_blocks.ensures ∙ c.if-names_blocks.false) taken)

pub returns-else-names_blocks-clause-refused : goal.returns-else-names_blocks-clause-refused
returns-else-names_blocks-clause-refused c =
    unnamed_refused (texts c.args.words.now) (asked_by c.in-Ok.request.task) c.in-Ok.request.options c.unnamed.result c.in-Ok.ensures.faultless c.in-Ok.ensures.request (sym c.names_blocks.ensures ∙ c.if-names_blocks.false) c.unnamed.ensures

pub returns-in-Err-clause-only : goal.returns-in-Err-clause-only
returns-in-Err-clause-only c = λ wish asks. c.in-Err.ensures.only wish asks.0 asks.1 asks.3

pub returns-in-Err-clause-refused : goal.returns-in-Err-clause-refused
returns-in-Err-clause-refused c = refused_so (texts c.args.words.now) c.in-Err.error c.in-Err.ensures.refused

pub returns-in-Err-clause-taken : goal.returns-in-Err-clause-taken
returns-in-Err-clause-taken c = λ taken. c.in-Err.ensures.taken (both (takes_request (texts c.args.words.now)) (meaning_names_blocks (task_of_words (texts c.args.words.now))) taken).0

pub returns-in-Err-clause-unsaid : goal.returns-in-Err-clause-unsaid
returns-in-Err-clause-unsaid c = λ i faultless bad. c.in-Err.ensures.unsaid i faultless bad

use Rattle.std.proofs.Common.{◌≡◌, List, Option, Some, option_and_then, option_map, sym, subst}
use Rattle.std.specs.Prelude.{IfOk, IfSome}
use Rattle.clap.specs.Words.{Row, Text, found_of, rows_of, subcommand_name_of, subcommand_rows_of}
use Rattle.words_core.specs.computed.OfferedLine.{MayGrant}
use Rattle.words_core.proofs.WordLemmas.{met}
use Rattle.words_core.proofs.words.request_met.Goals as goal
use Rattle.words_core.specs.RequestLine.{file_asked, request_asked}

pub returns-in-Some-clause-request : goal.returns-in-Some-clause-request
returns-in-Some-clause-request c =
    let rows = rows_of (found_of c.in-Some.inner.now) in
    let named : subcommand_name_of c.args.matches.now ≡ Some c.in-Some.name.now = sym (rw c.in-Some.is at c.subcommand.ensures.name) in
    let there : option_map (λ (p : Text × List Row). p.1) (subcommand_rows_of c.args.matches.now) ≡ Some rows = sym (rw c.in-Some.is at c.subcommand.ensures.rows) in
    subst (λ (o : Option (Text × List Row)). MayGrant (option_and_then request_asked o) c.request_of.result) (sym (met c.args.matches.now c.in-Some.name.now rows named there)) c.request_of.ensures.request

pub returns-in-Some-clause-file : goal.returns-in-Some-clause-file
returns-in-Some-clause-file c =
    let rows = rows_of (found_of c.in-Some.inner.now) in
    let named : subcommand_name_of c.args.matches.now ≡ Some c.in-Some.name.now = sym (rw c.in-Some.is at c.subcommand.ensures.name) in
    let there : option_map (λ (p : Text × List Row). p.1) (subcommand_rows_of c.args.matches.now) ≡ Some rows = sym (rw c.in-Some.is at c.subcommand.ensures.rows) in
    subst (λ (o : Option (Text × List Row)). IfSome c.request_of.result (λ answer. IfOk answer (λ r. option_map (λ s. s.now) r.file ≡ option_and_then file_asked o)))
    (sym (met c.args.matches.now c.in-Some.name.now rows named there)) c.request_of.ensures.file

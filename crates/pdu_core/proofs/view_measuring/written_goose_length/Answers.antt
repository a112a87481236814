use Rattle.std.proofs.Common.{◌≡◌, ◌+◌, length, ap, ◌∙◌, arith, pos}
use Rattle.ber_core.specs.Written.{integer_size}
use Rattle.pdu_core.specs.Views.{pdu_of}
use Rattle.pdu_core.specs.Written.{goose_contents}
use Rattle.pdu_core.proofs.GooseSizes.{contents_size, goose_size}
use Rattle.pdu_core.proofs.view_measuring.written_goose_length.Goals as goal

pub returns-clause-length : goal.returns-clause-length
returns-clause-length c =
    let p = pdu_of {A = Unit {0}} c.args.view.now in
    let entries = ap (λ n. integer_size (pos n)) c.args.view.now.counted in
    let size = c.in_ok-gocb_ref.gocb_ref + c.in_ok-dat_set.dat_set + c.in_ok-go_id.go_id + 10 + 6 + c.in_ok-numbers.numbers + c.in_ok-members.members in
    let same : size ≡ length (goose_contents p) = omega (arith, contents_size p, entries) in
    ap (λ n. n + size) c.header_length.ensures.exact ∙ goose_size p size same

use Rattle.std.proofs.Common.{◌≤◌, ◌<◌, ◌+◌, ◌^◌, length, ap, arith, rules}
use Rattle.pdu_core.specs.SampledViews.{asdus_left, sv_of}
use Rattle.pdu_core.specs.SampledWritten.{written_asdus}
use Rattle.pdu_core.proofs.ApduSizes.{asdus_within, asdus_fit}
use Rattle.pdu_core.proofs.sampled.view_writing.put_written.Goals as goal

pub returns-in_err-put_each-clause-fits : goal.returns-in_err-put_each-clause-fits
returns-in_err-put_each-clause-fits g c =
    let pdu = sv_of {A = Unit {0}} c.args.view.now in (
      search rules,
      λ have.
          let few : length (written_asdus (asdus_left {A = Unit {0}} c.args.view.now.asdus)) < 2 ^ 32 = omega (arith, have.0, asdus_within pdu) in
          let fits : length c.new-contents.result.items + length (written_asdus (asdus_left {A = Unit {0}} c.args.view.now.asdus)) ≤ g.row.N = omega (arith, have.1, asdus_fit pdu, ap length c.new-contents.ensures) in
          absurd (cc (c.in_err-put_each.ensures.enough few fits)),
    )

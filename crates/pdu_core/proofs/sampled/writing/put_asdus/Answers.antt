use Rattle.std.proofs.Common.{◌≡◌, ◌+◌, ◌<◌, ◌≤◌, ◌^◌, ◌++◌, drop, length, ap, sym, subst, ◌∙◌}
use Rattle.pdu_core.specs.SampledWritten.{written_asdu, written_asdus}
use Rattle.mms_data.proofs.Appends.{part_behind, part_fits, part_grows, part_within}
use Rattle.pdu_core.proofs.AsduParts.{asdu_next}
use Rattle.pdu_core.proofs.sampled.writing.put_asdus.Goals as goal

pub returns-in_err-put_asdu-clause-enough : goal.returns-in_err-put_asdu-clause-enough
returns-in_err-put_asdu-clause-enough g c small room =
    let asdus = c.as_slice-asdus.result.now in
    let all = written_asdus c.args.asdus.now in
    let part = written_asdu c.asdu-item.result in
    let rest = written_asdus (drop (c.loop-asdu.asdu-index + 1) asdus) in
    let old = c.args.out.now.items in
    let out = c.loop-asdu.out.items in
    let same : written_asdus asdus ≡ all = ap written_asdus c.as_slice-asdus.ensures in
    let seen = ap written_asdu c.as_view.ensures in
    let still : out ++ written_asdus (drop c.loop-asdu.asdu-index asdus) ≡ old ++ all = rw same at c.loop-asdu.invariant.all in
    let so_far = asdu_next asdus c.loop-asdu.asdu-index c.asdu-item.result out (old ++ all) c.loop-asdu-test.true c.asdu-item.is still in
    let fits = subst (λ x. length out + length x ≤ g.row.N) (sym seen) (part_fits g.row.N old out all part rest so_far room) in
    let few = subst (λ x. length x < 2 ^ 32) (sym seen) (part_within (2 ^ 32) old out all part rest c.loop-asdu.invariant.grown so_far small) in
    absurd (cc (c.in_err-put_asdu.ensures.enough few fits))

pub loop-asdu-preserved : goal.loop-asdu-preserved
loop-asdu-preserved g c =
    let asdus = c.as_slice-asdus.result.now in
    let all = written_asdus asdus in
    let part = written_asdu c.asdu-item.result in
    let rest = written_asdus (drop (c.loop-asdu.asdu-index + 1) asdus) in
    let old = c.args.out.now.items in
    let out = c.loop-asdu.out.items in
    let new = c.put_asdu.new.out.items in
    let put : new ≡ out ++ part = c.in_ok-put_asdu.ensures.written ∙ ap (λ x. out ++ written_asdu x) c.as_view.ensures in
    let so_far = asdu_next asdus c.loop-asdu.asdu-index c.asdu-item.result out (old ++ all) c.loop-asdu-test.true c.asdu-item.is c.loop-asdu.invariant.all in
    record {
      grown = part_grows old out new part put c.loop-asdu.invariant.grown;
      all = part_behind old out new all part rest put so_far;
    }

use Rattle.std.proofs.Common.{◌≡◌, ◌^◌, ◌++◌, ap, sym, ◌∙◌}
use Rattle.std.proofs.lemmas.List.{append-nil}
use Rattle.pdu_core.specs.SampledViews.{asdu_of, asdus_left}
use Rattle.pdu_core.specs.SampledWritten.{written_asdu, written_asdus}
use Rattle.mms_data.proofs.Appends.{part_behind, part_fits, part_grows, part_within}
use Rattle.pdu_core.proofs.sampled.view_writing.put_each.Goals as goal

pub returns-in_err-put_asdu-clause-enough : goal.returns-in_err-put_asdu-clause-enough
returns-in_err-put_asdu-clause-enough g c small room =
    let all = written_asdus (asdus_left {A = Unit {0}} c.args.asdus) in
    let part = written_asdu (asdu_of {A = Unit {0}} c.in-Some.asdu) in
    let rest = written_asdus (asdus_left {A = Unit {0}} c.next.new.self) in
    let old = c.args.out.now.items in
    let out = c.loop-asdu.out.items in
    let so_far : out ++ (part ++ rest) ≡ old ++ all = ap (λ x. out ++ written_asdus x) (sym c.in-Some.ensures.steps.0) ∙ c.loop-asdu.invariant.all in
    let fits = part_fits g.row.N old out all part rest so_far room in
    let few = part_within (2 ^ 32) old out all part rest c.loop-asdu.invariant.grown so_far small in
    absurd (cc (c.in_err-put_asdu.ensures.enough few fits))

pub loop-asdu-preserved : goal.loop-asdu-preserved
loop-asdu-preserved g c =
    let all = written_asdus (asdus_left {A = Unit {0}} c.args.asdus) in
    let part = written_asdu (asdu_of {A = Unit {0}} c.in-Some.asdu) in
    let rest = written_asdus (asdus_left {A = Unit {0}} c.next.new.self) in
    let old = c.args.out.now.items in
    let out = c.loop-asdu.out.items in
    let new = c.put_asdu.new.out.items in
    let so_far : out ++ (part ++ rest) ≡ old ++ all = ap (λ x. out ++ written_asdus x) (sym c.in-Some.ensures.steps.0) ∙ c.loop-asdu.invariant.all in
    record {
      next = tt;
      ends = tt;
      grown = part_grows old out new part c.in_ok-put_asdu.ensures.written c.loop-asdu.invariant.grown;
      all = part_behind old out new all part rest c.in_ok-put_asdu.ensures.written so_far;
    }

pub returns-clause-written : goal.returns-clause-written
returns-clause-written g c =
    let none = c.in-None.ensures.steps.0.0 in
    sym (append-nil c.loop-asdu.out.items) ∙ ap (λ x. c.loop-asdu.out.items ++ written_asdus x) (sym none) ∙ c.loop-asdu.invariant.all

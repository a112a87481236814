use Rattle.std.proofs.Common.{List, ◌++◌, map, ap, sym, ◌∙◌}
use Rattle.std.proofs.lemmas.Bool.{false≢true}
use Rattle.pdu_core.specs.declared.sampled.asdu.Asdu.{Asdu}
use Rattle.pdu_core.specs.SampledViews.{asdu_of, asdus_left}
use Rattle.exchange_engines.specs.WatchText.{samples_from}
use Rattle.exchange_engines.specs.computed.WatchStep.{telling_at}
use Rattle.exchange_engines.proofs.NonEmpty.{none_among}
use Rattle.exchange_engines.proofs.WatchLemmas.{asdu_more}
use Rattle.exchange_engines.proofs.engines.watch.put_asdu_samples.Goals as goal

pub loop-asdu-preserved : goal.loop-asdu-preserved
loop-asdu-preserved g c =
    let i = c.loop-asdu.invariant in
    let more = asdu_more c.args.watch.now.period c.loop-asdu.watch.period (telling_at c.args.heading) c.args.id.now c.args.sampled.now c.loop-asdu.yielded c.in-Some.asdu (asdus_left c.loop-asdu.asdu-iterator) (asdus_left c.next.new.self)
    c.args.watch.now.last c.loop-asdu.watch.last c.put_asdu_sample.new.watch.last c.args.line.now.items c.loop-asdu.line.items c.put_asdu_sample.new.line.items c.loop-asdu.found c.in_ok-found.field-0 c.loop-asdu.position c.min-position.result
    i.2 c.in-Some.ensures.steps.0 i.3 i.4 i.5 c.in_ok-found.ensures.written c.min-position.ensures in
    (tt, tt, more.0, more.1, c.put_asdu_sample.ensures.period ∙ i.4, more.2)

pub returns-in_err-found-clause-quiet : goal.returns-in_err-found-clause-quiet
returns-in_err-found-clause-quiet g c = λ none.
    let id = c.args.id.now in
    let seen = map (asdu_of {A = Unit {0}}) c.loop-asdu.yielded in
    let parts = ap (λ (l : List (Asdu (Unit {0}))). seen ++ l) (sym c.in-Some.ensures.steps.0) ∙ c.loop-asdu.invariant.2 in
    absurd (false≢true (c.in_err-found.ensures.quiet (none_among c.loop-asdu.position 0 id seen (asdu_of c.in-Some.asdu) (asdus_left c.next.new.self) (ap (samples_from 0 id) parts ∙ none))))

use Rattle.std.proofs.Common.{◌∙◌, ◌++◌, List, map, ap, sym, subst}
use Rattle.std.proofs.lemmas.List.{append-nil}
use Rattle.pdu_core.specs.SampledViews.{asdu_of, asdus_left}
use Rattle.pdu_core.specs.declared.sampled.asdu.Asdu.{Asdu}
use Rattle.inventory_engine.specs.Sightings.{stream_sightings}
use Rattle.inventory_engine.specs.computed.BlocksStep.{AppendsLines, telling_at}
use Rattle.text_core.proofs.Fronts.{front_twice}
use Rattle.inventory_engine.proofs.Appending.{on_error, stream_more, streams_wanted}
use Rattle.inventory_engine.proofs.sighting.put_streams.Goals as goal

pub loop-asdu-preserved : goal.loop-asdu-preserved
loop-asdu-preserved g c =
    let i = c.loop-asdu.invariant in
    let more = stream_more (telling_at c.args.heading) c.loop-asdu.yielded c.in-Some.asdu (asdus_left c.args.sampled.now.asdus) (asdus_left c.loop-asdu.asdu-iterator) (asdus_left c.next.new.self)
    c.args.known.now c.loop-asdu.known c.put_stream.new.known c.args.line.now.items c.loop-asdu.line.items c.put_stream.new.line.items
    i.2 c.in-Some.ensures.steps.0 i.3 c.in_ok-put_stream.ensures.written in
    (tt, tt, more.0, more.1, front_twice c.args.line.now.items c.loop-asdu.line.items c.put_stream.new.line.items i.4 c.put_stream.ensures.kept)

pub returns-in_err-put_stream-clause-wants : goal.returns-in_err-put_stream-clause-wants
returns-in_err-put_stream-clause-wants g c =
    let i = c.loop-asdu.invariant in
    on_error _ _ (streams_wanted (telling_at c.args.heading) c.loop-asdu.yielded c.in-Some.asdu (asdus_left c.args.sampled.now.asdus) (asdus_left c.loop-asdu.asdu-iterator) (asdus_left c.next.new.self)
    c.args.known.now c.loop-asdu.known c.args.line.now.items c.loop-asdu.line.items i.2 c.in-Some.ensures.steps.0 i.3 c.in_err-put_stream.ensures.wants)

pub returns-clause-written : goal.returns-clause-written
returns-clause-written g c =
    let i = c.loop-asdu.invariant in
    let seen = map (asdu_of {A = Unit {0}}) c.loop-asdu.yielded in
    let all = sym (append-nil seen) ∙ ap (λ (l : List (Asdu (Unit {0}))). seen ++ l) (sym c.in-None.ensures.steps.0.0) ∙ i.2 in
    subst (λ (l : List (Asdu (Unit {0}))). AppendsLines (telling_at c.args.heading) (stream_sightings l) c.args.known.now c.loop-asdu.known c.args.line.now.items c.loop-asdu.line.items) all i.3

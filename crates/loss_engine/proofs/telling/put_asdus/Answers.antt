use Rattle.std.proofs.lemmas.Result.{err_from_is_err_and}
use Rattle.pdu_core.specs.SampledViews.{asdus_left}
use Rattle.text_core.proofs.Fronts.{front_twice}
use Rattle.std.proofs.Common.{◌∙◌}
use Rattle.loss_engine.specs.computed.Held.{kept_by, periods_by}
use Rattle.loss_engine.proofs.Tellings.{asdu_more, asdu_parts, asdus_wanted}
use Rattle.loss_engine.proofs.telling.put_asdus.Goals as goal

pub loop-asdu-preserved : goal.loop-asdu-preserved
loop-asdu-preserved g c =
    let i = c.loop-asdu.invariant in
    let a = c.in-Some.asdu in
    let first = c.in-Some.ensures.steps.0 in (
      tt,
      tt,
      asdu_parts c.args.heading (periods_by c.args.losses.now) (kept_by c.args.losses.now) (kept_by c.loop-asdu.losses) c.args.app_id c.args.source c.loop-asdu.yielded a (asdus_left c.args.sampled.now.asdus) (asdus_left c.loop-asdu.asdu-iterator) (asdus_left c.next.new.self) c.args.out.now.items c.loop-asdu.out.items c.loop-asdu.found i.2 first i.3,
      asdu_more c.args.heading (periods_by c.args.losses.now) (kept_by c.args.losses.now) (kept_by c.loop-asdu.losses) c.args.app_id c.args.source c.loop-asdu.yielded a (asdus_left c.args.sampled.now.asdus) (asdus_left c.loop-asdu.asdu-iterator) (asdus_left c.next.new.self) c.args.out.now.items c.loop-asdu.out.items c.loop-asdu.found i.2 first i.3
          (periods_by c.loop-asdu.losses) (kept_by c.put_asdu.new.losses) c.put_asdu.new.out.items c.in_ok-found.field-0 i.4 c.in_ok-found.ensures.tells,
      c.put_asdu.ensures.periods ∙ i.4,
      front_twice c.args.out.now.items c.loop-asdu.out.items c.put_asdu.new.out.items i.5 c.put_asdu.ensures.kept,
    )

pub returns-in_err-found-clause-wants : goal.returns-in_err-found-clause-wants
returns-in_err-found-clause-wants g c =
    let i = c.loop-asdu.invariant in
    let p = err_from_is_err_and c.from_residual.result c.from_residual.ensures.1 in
    rw p.1
    (asdus_wanted c.args.heading (periods_by c.args.losses.now) (kept_by c.args.losses.now) (kept_by c.loop-asdu.losses) c.args.app_id c.args.source c.loop-asdu.yielded c.in-Some.asdu (asdus_left c.args.sampled.now.asdus) (asdus_left c.loop-asdu.asdu-iterator) (asdus_left c.next.new.self) c.args.out.now.items c.loop-asdu.out.items c.loop-asdu.found i.2 c.in-Some.ensures.steps.0 i.3
    (periods_by c.loop-asdu.losses) i.4 c.in_err-found.ensures.wants)

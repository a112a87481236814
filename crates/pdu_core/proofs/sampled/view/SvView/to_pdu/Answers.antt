use Rattle.std.proofs.Common.{◌++◌, ap, ◌∙◌}
use Rattle.pdu_core.specs.SampledViews.{asdus_left}
use Rattle.pdu_core.proofs.SvShown.{all_owned, none_counted, one_owned, some_left}
use Rattle.pdu_core.proofs.sampled.view.SvView.to_pdu.Goals as goal

pub loop-view-preserved : goal.loop-view-preserved
loop-view-preserved g c =
    let one = one_owned c.loop-view.asdus.items c.args.self.now.asdus c.loop-view.view-iterator c.next.new.self c.in-Some.view c.in_ok-to_asdu.field-0 c.in-Some.ensures.steps.0 c.in_ok-to_asdu.ensures.value c.loop-view.invariant.2 in
    (tt, tt, ap (λ x. x ++ asdus_left c.next.new.self) c.in_ok-push.ensures.items ∙ one)

pub returns-clause-value : goal.returns-clause-value
returns-clause-value g c =
    let all = all_owned c.loop-view.asdus.items c.args.self.now.asdus c.loop-view.view-iterator c.in-None.ensures.steps.0.0 c.loop-view.invariant.2 in
    ap (λ x. record { asdus = x }) (c.from.ensures ∙ all)

pub returns-in_err-asdus-clause-none : goal.returns-in_err-asdus-clause-none
returns-in_err-asdus-clause-none g c =
    let v = c.args.self.now in
    λ none. absurd (let wrong = c.in_err-asdus.ensures.succeeds (none_counted _ v.asdus v.count none v.counted) in cc)

pub returns-in_err-to_asdu-clause-none : goal.returns-in_err-to_asdu-clause-none
returns-in_err-to_asdu-clause-none g c =
    λ none. absurd (some_left c.loop-view.asdus.items c.args.self.now.asdus c.loop-view.view-iterator c.next.new.self c.in-Some.view c.in-Some.ensures.steps.0 c.loop-view.invariant.2 none)

pub returns-in_err-push-clause-none : goal.returns-in_err-push-clause-none
returns-in_err-push-clause-none g c =
    λ none. absurd (some_left c.loop-view.asdus.items c.args.self.now.asdus c.loop-view.view-iterator c.next.new.self c.in-Some.view c.in-Some.ensures.steps.0 c.loop-view.invariant.2 none)

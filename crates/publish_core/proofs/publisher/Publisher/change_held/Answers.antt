use Rattle.std.proofs.Common.{◌++◌, ◌∷◌, [], ap, sym, subst}
use Rattle.std.proofs.lemmas.Result.{IfErr-weaker, on_ok_weaker}
use Rattle.publish_core.specs.Frames.{change}
use Rattle.publish_core.specs.Held.{octets_held}
use Rattle.publish_core.specs.Run.{Changed, call}
use Rattle.publish_core.specs.State.{PublisherStandsAfter}
use Rattle.publish_core.specs.computed.Step.{change_frame}
use Rattle.publish_core.proofs.Whole.{accepts_behind, change_ok, refuses_behind}
use Rattle.publish_core.proofs.publisher.Publisher.change_held.Goals as goal

pub returns-clause-accepted : goal.returns-clause-accepted
returns-clause-accepted g c = λ p calls w.
    on_ok_weaker c.take_change.result (accepts_behind p calls c.args.self.now (change c.args.t c.args.values) w) c.take_change.ensures.accepted

pub returns-clause-refused : goal.returns-clause-refused
returns-clause-refused g c = λ p calls w.
    IfErr-weaker c.take_change.result _ _ (λ e. refuses_behind p calls c.args.self.now (change c.args.t c.args.values) e.0 w) c.take_change.ensures.refused

pub returns-clause-published : goal.returns-clause-published
returns-clause-published g c = λ p calls w.
    let x = change_ok p calls c.args.self.now (change c.args.t c.args.values) c.args.now w in
    on_ok_weaker c.take_change.result
    (λ e. record { published = change_frame c.args.self.now (change c.args.t c.args.values) c.args.now; publishes = x.0; is_written = ap octets_held e })
    c.take_change.ensures.state

pub returns-clause-stands : goal.returns-clause-stands
returns-clause-stands g c = λ p calls w.
    let x = change_ok p calls c.args.self.now (change c.args.t c.args.values) c.args.now w in
    on_ok_weaker c.take_change.result
    (λ e. subst (λ s. PublisherStandsAfter p (calls ++ call c.args.now (Changed (change c.args.t c.args.values)) ∷ []) s) (sym e) x.1)
    c.take_change.ensures.state

use Rattle.std.proofs.Common.{◌++◌, ◌∷◌, [], sym, subst}
use Rattle.publish_core.specs.Run.{Polled, call}
use Rattle.publish_core.specs.State.{PublisherStandsAfter}
use Rattle.publish_core.proofs.PollLaws.{poll_gives, poll_none}
use Rattle.publish_core.proofs.Whole.{poll_ok}
use Rattle.publish_core.proofs.publisher.Publisher.poll_held.Goals as goal

pub returns-clause-published : goal.returns-clause-published
returns-clause-published g c = λ p calls w gives.
    let x = poll_ok p calls c.args.self.now c.args.now w in
    poll_gives p calls c.args.self.now c.take_poll.new.self c.args.now c.take_poll.result x.0 c.take_poll.ensures.given c.take_poll.ensures.state gives

pub returns-clause-none : goal.returns-clause-none
returns-clause-none g c = λ p calls w none.
    let x = poll_ok p calls c.args.self.now c.args.now w in
    poll_none p calls c.args.self.now c.args.now c.take_poll.result x.0 c.take_poll.ensures.given none

pub returns-clause-stands : goal.returns-clause-stands
returns-clause-stands g c = λ p calls w.
    let x = poll_ok p calls c.args.self.now c.args.now w in
    subst (λ s. PublisherStandsAfter p (calls ++ call c.args.now Polled ∷ []) s) (sym c.take_poll.ensures.state) x.1

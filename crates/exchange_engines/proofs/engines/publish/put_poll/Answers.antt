use Rattle.std.proofs.Common.{List, subst, sym, ℕ, ◌++◌, ◌∷◌, [], length}
use Rattle.publish_core.specs.Run.{Polled, PublishesOctets, call}
use Rattle.exchange_engines.proofs.PublishLemmas.{polled_none, polled_one, polled_there}
use Rattle.exchange_engines.proofs.engines.publish.put_poll.Goals as goal

pub returns-then-not-poll_held-clause-call : goal.returns-then-not-poll_held-clause-call
returns-then-not-poll_held-clause-call g c = λ p calls sound stands.
    polled_none p calls sound c.args.line.now.items c.args.line.now.items c.poll_held.new.self c.args.moment (c.poll_held.ensures.none p calls stands c.if-not-poll_held.true) (c.poll_held.ensures.stands p calls stands)

pub returns-in-Ok-clause-call : goal.returns-in-Ok-clause-call
returns-in-Ok-clause-call g c = λ p calls sound stands.
    let more = calls ++ call c.args.moment Polled ∷ [] in
    let after = c.poll_held.ensures.stands p calls stands in
    polled_one p calls sound c.args.line.now.items c.put_frame_event.new.out.items c.poll_held.new.self c.args.moment c.moment.result c.held_frame-next.result.now
    (subst (λ (octets : List ℕ). PublishesOctets p more (length calls) octets) (sym c.held_frame-next.ensures) (c.poll_held.ensures.published p calls stands c.if-not-poll_held.false))
    after (c.moment.ensures p more after) c.in-Ok.ensures

pub returns-in-Err-clause-call : goal.returns-in-Err-clause-call
returns-in-Err-clause-call g c = λ p calls sound stands.
    polled_there p calls c.args.moment c.held_frame-next.result.now sound
    (subst (λ (octets : List ℕ). PublishesOctets p (calls ++ call c.args.moment Polled ∷ []) (length calls) octets) (sym c.held_frame-next.ensures) (c.poll_held.ensures.published p calls stands c.if-not-poll_held.false))

use Rattle.std.proofs.Common.{Err, List, ap, subst, sym, ℕ, ◌++◌, ◌∙◌, ◌∷◌, [], length}
use Rattle.publish_core.specs.Frames.{change}
use Rattle.publish_core.specs.Run.{Changed, PublishesOctets, call}
use Rattle.exchange_engines.proofs.PublishLemmas.{changed, refused}
use Rattle.exchange_engines.proofs.engines.publish.put_change.Goals as goal

pub returns-in-Err-clause-call : goal.returns-in-Err-clause-call
returns-in-Err-clause-call g c = λ p calls sound stands.
    refused p calls c.args.moment (change c.args.t c.args.values) c.in-Err.fault sound (c.in-Err.ensures.refused p calls stands) ∙ ap Err (sym c.cause_of.ensures)

pub returns-in-Ok-put_frame_event-clause-call : goal.returns-in-Ok-put_frame_event-clause-call
returns-in-Ok-put_frame_event-clause-call g c = λ p calls sound stands.
    let more = calls ++ call c.args.moment (Changed (change c.args.t c.args.values)) ∷ [] in
    let after = c.in-Ok.ensures.stands p calls stands in
    changed p calls sound c.args.line.now.items c.put_frame_event.new.out.items c.change_held.new.self c.args.moment (change c.args.t c.args.values) c.moment.result c.held_frame-first.result.now
    (c.in-Ok.ensures.accepted p calls stands)
    (subst (λ (octets : List ℕ). PublishesOctets p more (length calls) octets) (sym c.held_frame-first.ensures) (c.in-Ok.ensures.published p calls stands))
    after (c.moment.ensures p more after) c.in-Ok-put_frame_event.ensures

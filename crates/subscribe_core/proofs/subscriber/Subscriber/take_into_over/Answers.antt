use Rattle.std.proofs.Common.{◌++◌, ◌∷◌, [], List, ap, length, subst, sym, ◌∙◌}
use Rattle.std.proofs.lemmas.Bool.{false≢true}
use Rattle.subscribe_core.specs.declared.entry.Entry.{Entry}
use Rattle.subscribe_core.specs.Entries.{AreEntriesAt}
use Rattle.subscribe_core.proofs.subscriber.Subscriber.take_into_over.Goals as goal

pub returns-clause-entries : goal.returns-clause-entries
returns-clause-entries g c = λ events stands.
    let k = c.in_ok-take_to.ensures.entries events stands in
    subst (λ (es : List (Entry g.row.A.Denot)). AreEntriesAt c.args.self.now.state.blocks (events ++ c.args.event.now ∷ []) (length events) es) (sym (k.2 ∙ ap (λ (l : List (Entry g.row.A.Denot)). l ++ k.0) c.clear.ensures.items)) k.1

pub returns-in_err-take_to-clause-quiet : goal.returns-in_err-take_to-clause-quiet
returns-in_err-take_to-clause-quiet g c = λ events stands none. absurd (false≢true (c.in_err-take_to.ensures.quiet events stands none))

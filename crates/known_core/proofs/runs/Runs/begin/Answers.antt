use Rattle.std.proofs.Common.{List, [], ◌∷◌, ◌++◌, ◌∙◌, ap, sym, subst}
use Rattle.std.specs.declared.vec.Vec.{Vec}
use Rattle.known_core.specs.computed.Held.{AreRuns, in_runs, position_of}
use Rattle.known_core.proofs.RunLemmas.{one_begun}
use Rattle.known_core.proofs.runs.Runs.begin.Goals as goal

pub returns-clause-put : goal.returns-clause-put
returns-clause-put g c =
    let place = c.args.place in
    let alone = c.push_reserved.ensures.items ∙ ap (λ (l : List g.row.E.Denot). l ++ c.args.one ∷ []) c.in_ok-run.ensures.items in
    let room = c.push_reserved.ensures.capacity ∙ c.in_ok-run.ensures.exact in
    let p = one_begun c.args.self.now.runs.items (position_of c.args.self.now place) c.push_reserved.new.self c.args.one c.requires.past alone room c.requires.many in record {
      put = ap in_runs c.in_ok-push.ensures.items ∙ p.0;
      runs = λ are. subst (λ (l : List (Vec g.row.E.Denot g.row.A.Denot)). AreRuns l) (sym c.in_ok-push.ensures.items) (p.1 are);
    }

use Rattle.std.proofs.Common.{ℕ, List, ◌∙◌, ap}
use Rattle.std.specs.List.{insert}
use Rattle.known_core.specs.computed.Held.{held, position_of}
use Rattle.known_core.proofs.RunLemmas.{on_failure, on_success, one_kept, one_put}
use Rattle.known_core.proofs.runs.Runs.insert.Goals as goal

pub returns-clause-put : goal.returns-clause-put
returns-clause-put g c =
    let place = c.in_ok-place.place in
    let m = c.in_ok-place.ensures.moved in
    let roomy = c.with_room.new.self in
    let run = c.index_mut.result.now in
    on_success _ _ _
    (λ same.
    let p = one_put roomy.runs.items place.run run m.within c.index_mut.ensures.value place.at c.put.new.run c.args.one (m.takes.in_run run m.within) same c.put.ensures.room in record {
      put =
          p.0 ∙ ap (λ (l : List g.row.E.Denot). insert l (position_of roomy place) c.args.one) m.same
          ∙ ap (λ (n : ℕ). insert (held c.args.self.now) n c.args.one) m.position;
      runs = λ are. p.1 (m.runs are);
    })
    c.put.ensures.put

pub returns-clause-kept : goal.returns-clause-kept
returns-clause-kept g c =
    let place = c.in_ok-place.place in
    let m = c.in_ok-place.ensures.moved in
    let roomy = c.with_room.new.self in
    let run = c.index_mut.result.now in
    on_failure _ _ _
    (λ same.
    let p = one_kept roomy.runs.items place.run run m.within c.index_mut.ensures.value c.put.new.run same c.put.ensures.room in
    record { same = p.0 ∙ m.same; runs = λ are. p.1 (m.runs are) })
    c.put.ensures.kept

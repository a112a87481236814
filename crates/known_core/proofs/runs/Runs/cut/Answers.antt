use Rattle.std.proofs.Common.{ℕ, List, ◌∙◌, ◌≡◌, ◌+◌, ◌-◌, ◌/◌, ◌++◌, ◌≤◌, ap, arith, drop, get_or, length, set, subst, sym, take}
use Rattle.std.specs.List.{insert}
use Rattle.std.proofs.lemmas.List.{get_or_default}
use Rattle.std.specs.declared.vec.Vec.{Vec}
use Rattle.known_core.specs.computed.Held.{in_run}
use Rattle.known_core.proofs.RunLemmas.{cut_moves}
use Rattle.known_core.proofs.runs.Runs.cut.Goals as goal

pub returns-clause-moved : goal.returns-clause-moved
returns-clause-moved g c =
    let place = c.args.place in
    let run = c.index_mut-run.result.now in
    let half = c.len-size.result / 2 in
    let behind = c.move_behind.new.into in
    let front = c.move_behind-2.new.into in
    let stayed = c.in_ok-reserve.ensures.items in
    let is : run ≡ get_or c.args.self.now.runs.items place.run run = c.index_mut-run.ensures.value ∙ ap (λ (l : List (Vec g.row.E.Denot g.row.A.Denot)). get_or l place.run run) stayed in
    let long : 64 ≤ length (in_run run) = subst (λ (v : Vec g.row.E.Denot g.row.A.Denot). 64 ≤ length (in_run v)) (sym is) (c.requires.long run) in
    let le : place.at ≤ length (in_run run) =
    subst (λ (v : Vec g.row.E.Denot g.row.A.Denot). place.at ≤ length (in_run v)) (sym is) (c.requires.takes.in_run run c.requires.in_runs) in
    let first = c.index.result.now in
    let alike : first ≡ run = c.index.ensures ∙ get_or_default c.args.self.now.runs.items place.run first run c.requires.in_runs ∙ sym is in
    let size : c.len-size.result ≡ length (in_run run) = c.len-size.ensures ∙ first.ok.0 ∙ ap (λ (v : Vec g.row.E.Denot g.row.A.Denot). length (in_run v)) alike in
    let in_behind : in_run behind ≡ drop half (in_run run) = c.move_behind.ensures.moved ∙ ap (λ (l : List g.row.E.Denot). l ++ drop half (in_run run)) c.in_ok-behind.ensures.items in
    let in_front : in_run front ≡ take half (in_run run) = c.move_behind-2.ensures.moved ∙ ap (λ (l : List g.row.E.Denot). l ++ drop 0 c.move_behind.new.run.items) c.in_ok-front.ensures.items ∙ c.move_behind.ensures.left in
    cut_moves c.args.self.now (record { runs = c.insert.new.self }) place run front behind half c.requires.in_runs is in_front in_behind (omega arith) (omega arith) (c.move_behind-2.ensures.room ∙ c.in_ok-front.ensures.exact) (c.move_behind.ensures.room ∙ c.in_ok-behind.ensures.exact ∙ ap (λ (n : ℕ). n - half) size) le
    (c.in_ok-insert.ensures.items ∙ ap (λ (l : List (Vec g.row.E.Denot g.row.A.Denot)). insert (set l place.run front) (place.run + 1) behind) stayed)
    c.behind.result c.behind.ensures.before c.behind.ensures.behind

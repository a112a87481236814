use Rattle.std.proofs.Common.{List, ◌<◌, ◌≤◌, length, arith, subst}
use Rattle.std.specs.declared.vec.Vec.{Vec}
use Rattle.known_core.specs.computed.Held.{InOrderFor, IsAt, IsGap, in_run}
use Rattle.known_core.specs.computed.RunSteps.{IsRunOf}
use Rattle.known_core.proofs.RunLemmas.{read_any}
use Rattle.known_core.proofs.SearchLemmas.{found_at, gap_at}
use Rattle.known_core.proofs.runs.Runs.place_of.Goals as goal

pub returns-in-Ok : goal.returns-in-Ok
returns-in-Ok g c =
    let by = g.P.Probe.cmp c.args.probe.now in
    let runs = c.args.self.now.runs.items in
    let r = c.run_of-run.result in
    let lt : r < length runs = omega arith in
    let run = c.index.result.now in
    let at = c.in-Ok.at in
    let there = subst (λ (l : List g.row.E.Denot). IsAt by l at) c.as_slice-2.ensures.value c.in-Ok.ensures in (
      record { in_runs = lt; in_run = read_any (λ (v : Vec g.row.E.Denot g.row.A.Denot). at < length (in_run v)) runs r run lt c.index.ensures there.within },
      found_at by runs r run lt c.index.ensures at there,
    )

pub returns-in-Err : goal.returns-in-Err
returns-in-Err g c =
    let by = g.P.Probe.cmp c.args.probe.now in
    let runs = c.args.self.now.runs.items in
    let r = c.run_of-run.result in
    let lt : r < length runs = omega arith in
    let run = c.index.result.now in
    let at = c.in-Err.at in
    let of = subst (λ (l : List (Vec g.row.E.Denot g.row.A.Denot)). IsRunOf by l r) c.as_slice.ensures.value c.run_of-run.ensures in
    let le = subst (λ (l : List g.row.E.Denot). at ≤ length l) c.as_slice-2.ensures.value c.in-Err.ensures.0 in
    let gap = subst (λ (l : List g.row.E.Denot). InOrderFor by l → IsGap by l at) c.as_slice-2.ensures.value c.in-Err.ensures.1 in (
      record {
        in_run = λ d within. read_any (λ (v : Vec g.row.E.Denot g.row.A.Denot). at ≤ length (in_run v)) runs r run lt c.index.ensures le d;
        first = λ past. absurd (omega arith);
      },
      gap_at by runs r run lt c.index.ensures at le gap of,
    )

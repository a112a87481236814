use Rattle.std.proofs.Common.{List, ◌≡◌, ◌+◌, ◌-◌, ◌≤◌, ◌∙◌, arith, ap, length, subst, suc, sym, vec_capacity}
use Rattle.std.specs.Vec.Iter.{drain_items}
use Rattle.std.proofs.lemmas.List.{length-append}
use Rattle.known_core.proofs.RunLemmas.{part_fits}
use Rattle.known_core.proofs.runs.move_behind.Goals as goal

pub push_reserved-requires : goal.push_reserved-requires
push_reserved-requires g c =
    let into = c.loop-one.into in
    let rest = drain_items c.loop-one.one-iterator in
    let left = drain_items c.next.new.self in
    let first = drain_items c.into_iter-one-iterator.result in
    let parts = c.loop-one.invariant.parts in
    let room : vec_capacity into ≡ vec_capacity c.args.into.now = c.loop-one.invariant.room in
    let sizes : length into.items + length rest ≡ length c.args.into.now.items + length first = sym (length-append into.items rest) ∙ ap length parts ∙ length-append c.args.into.now.items first in
    let one : length rest ≡ suc (length left) = ap length c.in-Some.ensures.steps.0 in
    let given = ap drain_items c.into_iter-one-iterator.ensures.into_iter_gives ∙ c.drain-one-items.ensures.rest in
    let all : length first ≤ length c.args.run.now.items - c.args.from =
    subst (λ (l : List g.row.E.Denot). length l ≤ length c.args.run.now.items - c.args.from) (sym given) (part_fits _ c.args.from c.args.run.now.items) in
    let fits = c.requires.room in
    omega (arith, into.ok.0)

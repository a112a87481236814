use Rattle.std.proofs.Common.{◌≡◌, ◌-◌, ◌&&◌, true, arith, ap, length, sym, ◌∙◌}
use Rattle.std.specs.List.{list_all}
use Rattle.ber_core.proofs.LookingLemmas.{by_ends, stopped}
use Rattle.ber_core.proofs.looking.are_ends.Goals as goal

pub returns-then-are_all_at_once : goal.returns-then-are_all_at_once
returns-then-are_all_at_once g c =
    let has = g.K.OctetKind.has c.args.kind in
    let octets = c.args.octets.now in
    let front : list_all has c.in-Some.first.now ≡ true = sym c.are_all_at_once.ensures ∙ c.if-are_all_at_once.true in
    c.are_all_at_once-then-are_all_at_once.ensures ∙ ap (λ b. b && list_all has c.in-Some-split_last_chunk.last.now) (sym front)
    ∙ by_ends has octets c.in-Some.first.now c.in-Some-split_last_chunk.last.now g.row.N (length octets - g.row.N) c.in-Some.ensures.cases.0 c.in-Some-split_last_chunk.ensures.cases.1 (omega arith)

pub returns-else-are_all_at_once : goal.returns-else-are_all_at_once
returns-else-are_all_at_once g c =
    let has = g.K.OctetKind.has c.args.kind in
    c.if-are_all_at_once.false ∙ sym (stopped has g.row.N c.args.octets.now (rw c.in-Some.ensures.cases.0 at (sym c.are_all_at_once.ensures ∙ c.if-are_all_at_once.false)))

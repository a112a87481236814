use Rattle.std.proofs.Common.{ap, sym, ◌∙◌, length, replicate}
use Rattle.std.proofs.lemmas.Bool.{false≢true}
use Rattle.subscribe_core.specs.State.{idle}
use Rattle.subscribe_core.proofs.Fresh.{fresh_indexed}
use Rattle.subscribe_core.proofs.keeping.Keeper.new.Goals as goal

pub returns-in-Some-clause-fault : goal.returns-in-Some-clause-fault
returns-in-Some-clause-fault g c = rw c.deref.ensures.value at c.in-Some.ensures.found

pub returns-in-Some-first_twice-clause-fault : goal.returns-in-Some-first_twice-clause-fault
returns-in-Some-first_twice-clause-fault g c =
    c.in-Some-first_twice.ensures _ (rw (c.deref-3.ensures.value, ← c.deref-2.ensures.value) c.in-Ok-sorted.ensures.named)

pub fault_of-requires : goal.fault_of-requires
fault_of-requires g c = rw c.deref-in-Err.ensures.value
    (λ none. absurd (false≢true (c.in-Err.ensures.quiet (c.len.ensures ∙ c.args.blocks.ok.0 ∙ ap length none))))

pub fault_of-requires-in-Err-sorted : goal.fault_of-requires-in-Err-sorted
fault_of-requires-in-Err-sorted g c = rw c.deref-in-Err-sorted.ensures.value
    (λ none. absurd (false≢true (c.in-Err-sorted.ensures.quiet (c.deref-2.ensures.value ∙ none))))

pub returns-in-Err-clause-fault : goal.returns-in-Err-clause-fault
returns-in-Err-clause-fault g c = rw c.deref-in-Err.ensures.value at c.fault_of.ensures

pub invariant_of-result : goal.invariant_of-result
invariant_of-result g c =
    let size = c.len.ensures ∙ c.args.blocks.ok.0 in
    rw c.new-2.ensures
    (fresh_indexed c.args.blocks.items c.in-Ok.registers.items c.in-Ok-sorted.names.items c.in-Ok-new.deadlines _
    (c.in-Ok.ensures.registers ∙ ap (λ n. replicate n idle) size) (λ held long. c.in-Ok-new.ensures.kept held (long ∙ sym (c.len-2.ensures ∙ c.args.blocks.ok.0)))
    (c.in_default-first_twice.ensures c.args.blocks.items (rw (c.deref-3.ensures.value, ← c.deref-2.ensures.value) c.in-Ok-sorted.ensures.named)) c.in-Ok-sorted.ensures.order (rw c.deref-2.ensures.value at c.in-Ok-sorted.ensures.named) c.new-3.ensures)

pub returns-clause-apart : goal.returns-clause-apart
returns-clause-apart g c = c.in_default-first_twice.ensures c.args.blocks.items (rw (c.deref-3.ensures.value, ← c.deref-2.ensures.value) c.in-Ok-sorted.ensures.named)

pub returns-in-Err-new-clause-fault : goal.returns-in-Err-new-clause-fault
returns-in-Err-new-clause-fault g c = (
  c.in_default-first_twice.ensures c.args.blocks.items (rw (c.deref-3.ensures.value, ← c.deref-2.ensures.value) c.in-Ok-sorted.ensures.named),
  λ none. absurd (false≢true (c.in-Err-new.ensures.quiet (c.len-2.ensures ∙ c.args.blocks.ok.0 ∙ ap length none))),
)

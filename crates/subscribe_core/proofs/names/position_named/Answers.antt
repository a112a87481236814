use Rattle.std.proofs.Common.{ℕ, List, sym, ap, ◌∙◌, rules}
use Rattle.std.proofs.lemmas.Fn.{always_returns_same}
use Rattle.std.proofs.lemmas.List.Sorted.{searchable_from_sorted}
use Rattle.subscribe_core.specs.declared.names.Name.{Name}
use Rattle.subscribe_core.specs.computed.Names.{key_cmp, key_of}
use Rattle.subscribe_core.proofs.NameLemmas.{key_total, key_exact, not_found}
use Rattle.subscribe_core.proofs.names.position_named.Goals as goal

pub returns-in-Ok : goal.returns-in-Ok
returns-in-Ok g c =
    let found = c.in-Ok.ensures.position (λ n. key_cmp (key_of n) (c.args.app_id, c.args.gocb_ref.now)) (always_returns_same _ _ _ (λ a r f k. search rules)) in
    let e = ap (λ (n : Name _). key_cmp (key_of n) (c.args.app_id, c.args.gocb_ref.now)) c.index-names-i.is ∙ found c.index-names-i.result in
    (c.index-names-i.result, (c.in-Ok.i, c.in-Ok.ensures.bound, sym c.index-names-i.is), key_exact _ _ e, ap (λ (n : Name _). n.position) c.index-names-i.is)

pub returns-in-Err : goal.returns-in-Err
returns-in-Err g c =
    let key : ℕ × List ℕ = (c.args.app_id, c.args.gocb_ref.now) in
    let found = c.in-Err.ensures.position (λ n. key_cmp (key_of n) key) (always_returns_same _ _ _ (λ a r f k. search rules)) in
    not_found c.args.names.now key c.in-Err.field-0 (found (searchable_from_sorted key_total key_of c.args.names.now key c.requires))

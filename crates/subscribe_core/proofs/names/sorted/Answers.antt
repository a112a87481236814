use Rattle.std.proofs.Common.{rules}
use Rattle.std.proofs.lemmas.List.Sorted.{answers_always, ranks_by}
use Rattle.std.specs.Ordering.{is_lt}
use Rattle.subscribe_core.specs.computed.Names.{place_cmp, place_of}
use Rattle.subscribe_core.proofs.Again.{place_total, placed_sorted}
use Rattle.subscribe_core.proofs.NameLemmas.{names_permuted}
use Rattle.subscribe_core.proofs.names.sorted.Goals as goal

pub returns-clause-placed : goal.returns-clause-placed
returns-clause-placed g c =
    c.sort_unstable_by.ensures.sorted (λ a b. is_lt (place_cmp (place_of a) (place_of b))) (ranks_by place_total place_of)
    (answers_always _ _ _ (λ f a r g k. search rules))

pub returns-clause-order : goal.returns-clause-order
returns-clause-order g c =
    placed_sorted _ (c.sort_unstable_by.ensures.sorted (λ a b. is_lt (place_cmp (place_of a) (place_of b))) (ranks_by place_total place_of)
    (answers_always _ _ _ (λ f a r g k. search rules)))

pub returns-clause-named : goal.returns-clause-named
returns-clause-named g c = names_permuted _ _ _ c.sort_unstable_by.ensures.permutation c.in_ok-names.ensures.named

-- The order of keys is total, and keys that compare as one are one.
use Rattle.std.proofs.Common.{◌≡◌, ℕ, Bool, true, false, List, ap, sym, ◌∙◌, refl, arith, length}
use Rattle.std.specs.Cmp.{IsTotalOrder}
use Rattle.std.specs.Ordering.{ordering_then}
use Rattle.std.specs.declared.cmp.Ordering.{Ordering}
use Rattle.std.specs.declared.cmp.Ordering.TheVariants.{Less, Equal, Greater}
use Rattle.std.proofs.lemmas.Cmp.{nat_cmp_total, then_total, on_total, nat_list_cmp_total}
use Rattle.std.proofs.lemmas.Map.Lookups.{exact_unsigned, exact_bytes}
use Rattle.loss_engine.specs.Sights.{Key, sender, stream}
use Rattle.loss_engine.specs.computed.KeyOrder.{app_id_of, key_cmp, name_cmp, name_of, rank_by, rank_of, source_of}

name_total : IsTotalOrder name_cmp
name_total = then_total (on_total (λ (x : List ℕ). length x) nat_cmp_total) nat_list_cmp_total

pub key_total : IsTotalOrder key_cmp
key_total = then_total (on_total app_id_of nat_cmp_total) (then_total (on_total name_of name_total) (then_total (on_total rank_of nat_cmp_total) (on_total source_of nat_list_cmp_total)))

-- two comparisons, of which the second counts where the first is Equal, are Equal where both are
both_equal : (a b : Ordering) → ordering_then a b ≡ Equal → (a ≡ Equal) × (b ≡ Equal)
both_equal Less b e = cc
both_equal Equal b e = (refl, e)
both_equal Greater b e = cc

rank_exact : (a b : Bool) → rank_by a ≡ rank_by b → a ≡ b
rank_exact true true e = refl
rank_exact true false e = absurd (omega arith)
rank_exact false true e = absurd (omega arith)
rank_exact false false e = refl

some_rank : (a : Bool) → rank_by a ≡ 0 → ⊥
some_rank true e = omega arith
some_rank false e = omega arith

-- keys are one by their parts
by_parts : (x y : Key) → app_id_of x ≡ app_id_of y → name_of x ≡ name_of y → rank_of x ≡ rank_of y → source_of x ≡ source_of y → x ≡ y
by_parts (sender a r s) (sender b q t) e f g h = ap (λ (n : ℕ). sender n r s) e ∙ ap (λ (l : List ℕ). sender b l s) f ∙ ap (sender b q) (rank_exact s t g)
by_parts (sender a r s) (stream b o i) e f g h = absurd (some_rank s g)
by_parts (stream a o i) (sender b r s) e f g h = absurd (some_rank s (sym g))
by_parts (stream a o i) (stream b p j) e f g h = ap (λ (n : ℕ). stream n o i) e ∙ ap (λ (l : List ℕ). stream b l i) h ∙ ap (stream b p) f

pub key_exact : (x y : Key) → key_cmp x y ≡ Equal → x ≡ y
key_exact x y e =
    let a = both_equal _ _ e in
    let b = both_equal _ _ a.1 in
    let c = both_equal _ _ b.1 in
    let n = both_equal _ _ b.0 in
    by_parts x y (exact_unsigned _ _ a.0) (exact_bytes _ _ n.1) (exact_unsigned _ _ c.0) (exact_bytes _ _ c.1)

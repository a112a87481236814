-- The order of keys.
use Rattle.std.proofs.Common.{◌≡◌, ℕ, true, false, Option, Some, None, ap, ◌∙◌, refl, arith}
use Rattle.std.specs.Cmp.{IsTotalOrder}
use Rattle.std.specs.Cmp.Lexicographic.{slice_cmp}
use Rattle.std.specs.Ordering.{nat_cmp, is_eq}
use Rattle.std.specs.declared.cmp.Ordering.{Ordering}
use Rattle.std.specs.declared.cmp.Ordering.TheVariants.{Less, Equal, Greater}
use Rattle.std.proofs.lemmas.Bool.{false_from_ne_true}
use Rattle.std.proofs.lemmas.Cmp.{nat_cmp_total, then_total, on_total, nat_list_cmp_total, tied_itself}
use Rattle.std.proofs.lemmas.Map.Lookups.{exact_pairs, exact_unsigned, exact_bytes}
use Rattle.inventory_engine.specs.Sightings.{Key}
use Rattle.known_core.specs.computed.Rank.{rank}
use Rattle.inventory_engine.specs.computed.KnownTexts.{key_cmp, same_key}

pub key_total : IsTotalOrder key_cmp
key_total = then_total (on_total (λ (k : Key). rank k.0) nat_cmp_total) (on_total (λ (k : Key). k.1) nat_list_cmp_total)

rank_exact : (x y : Option ℕ) → rank x ≡ rank y → x ≡ y
rank_exact None None e = refl
rank_exact None (Some b) e = absurd (omega arith)
rank_exact (Some a) None e = absurd (omega arith)
rank_exact (Some a) (Some b) e = ap Some (omega arith)

pub key_exact : (x y : Key) → key_cmp x y ≡ Equal → x ≡ y
key_exact x y e = exact_pairs (λ a b. nat_cmp (rank a) (rank b)) (slice_cmp nat_cmp) (λ a b f. rank_exact a b (exact_unsigned (rank a) (rank b) f)) exact_bytes x y e

equal_by : (o : Ordering) → is_eq o ≡ true → o ≡ Equal
equal_by Less e = cc
equal_by Equal e = refl
equal_by Greater e = cc

-- keys that compare as one are one
pub same_is : (x y : Key) → same_key x y ≡ true → x ≡ y
same_is x y e = key_exact x y (equal_by (key_cmp x y) e)

pub same_yes : (x y : Key) → x ≡ y → same_key x y ≡ true
same_yes x y e = ap is_eq (ap (λ (k : Key). key_cmp k y) e ∙ tied_itself key_total y)

pub same_no : (x y : Key) → (x ≡ y → ⊥) → same_key x y ≡ false
same_no x y h = false_from_ne_true _ (λ yes. h (same_is x y yes))

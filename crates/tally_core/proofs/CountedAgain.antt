-- One more of a kind.
use Rattle.std.proofs.Common.{◌≡◌, ℕ, Bool, true, false, ◌||◌, refl}
use Rattle.std.proofs.lemmas.Bool.{eq-eqb, ne_eqb}
use Rattle.tally_core.specs.Tally.{again, again_of, is_of}
use Rattle.tally_core.specs.declared.kind_tally.Total.{Total}
use Rattle.tally_core.specs.declared.kind_tally.KindTotal.{KindTotal}

pub counted : (t : ℕ) (k : KindTotal) (p : Total) → k.kind ≡ t → p ≡ again k.total → again_of t k ≡ record { kind = k.kind; total = p }
counted t k p is more = rw (eq-eqb k.kind t is, more) refl

pub left_alone : (t : ℕ) (k : KindTotal) → (k.kind ≡ t → ⊥) → again_of t k ≡ k
left_alone t k other = rw (ne_eqb k.kind t other) refl

pub found_now : (t : ℕ) (k : KindTotal) (b : Bool) → k.kind ≡ t → (b || is_of t k) ≡ true
found_now t k true is = refl
found_now t k false is = eq-eqb k.kind t is

pub found_before : (t : ℕ) (k : KindTotal) (b : Bool) → (k.kind ≡ t → ⊥) → (b || is_of t k) ≡ b
found_before t k true other = refl
found_before t k false other = ne_eqb k.kind t other

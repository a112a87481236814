-- The texts that are held by their keys, and what a write and one more leave.
use Rattle.std.proofs.Common.{◌≡◌, ℕ, zero, suc, ◌<◌, ◌≤◌, Bool, true, false, Option, Some, None, List, [], ◌∷◌, length, get_or, set, ap, sym, ◌∙◌, refl, arith}
use Rattle.std.specs.Prelude.{if◌then◌else◌}
use Rattle.std.specs.List.{insert}
use Rattle.known_core.specs.computed.Held.{IsAt}
use Rattle.inventory_engine.specs.declared.known.Known.{Known}
use Rattle.inventory_engine.specs.Sightings.{Key}
use Rattle.inventory_engine.specs.computed.KnownTexts.{by_key, known_key, same_key, text_by}
use Rattle.inventory_engine.proofs.KeyLemmas.{key_exact, same_is, same_no, same_yes}

-- two tests that do not both hold can be asked in either order
either_first : {Y : Type 0} (a b : Bool) (u v w : Y) → (a ≡ true → b ≡ true → ⊥) → (if a then u else (if b then v else w)) ≡ (if b then v else (if a then u else w))
either_first true true u v w h = absurd (h refl refl)
either_first true false u v w h = refl
either_first false true u v w h = refl
either_first false false u v w h = refl

twice_asked : {Y : Type 0} (b : Bool) (u v w : Y) → (if b then u else w) ≡ (if b then u else (if b then v else w))
twice_asked true u v w = refl
twice_asked false u v w = refl

module _ {X : Type 0} (key : X → Key) (text : X → List ℕ) where
  -- the text at one key is this one, and at others as before
  abbrev pub Updates : List X → List X → Key → List ℕ → Type 0
  Updates old new k t = (q : Key) → text_by key text new q ≡ (if same_key k q then Some t else text_by key text old q)

  pub absent : (xs : List X) (k : Key) → ((j : ℕ) (d : X) → j < length xs → key (get_or xs j d) ≡ k → ⊥) → text_by key text xs k ≡ None
  absent [] k none = refl
  absent (x ∷ xs) k none =
      let no : same_key (key x) k ≡ false = same_no (key x) k (none 0 x (omega arith)) in
      rw no (absent xs k (λ j d lt e. none (suc j) d (omega arith) e))

  pub present : (xs : List X) (k : Key) (at : ℕ) (d : X) → at < length xs → key (get_or xs at d) ≡ k → ((j : ℕ) → j < at → key (get_or xs j d) ≡ k → ⊥) → text_by key text xs k ≡ Some (text (get_or xs at d))
  present [] k at d lt e none = absurd (omega arith)
  present (x ∷ xs) k zero d lt e none = rw (same_yes (key x) k e) refl
  present (x ∷ xs) k (suc at) d lt e none =
      let no : same_key (key x) k ≡ false = same_no (key x) k (none 0 (omega arith)) in
      rw no (present xs k at d (omega arith) e (λ j lt f. none (suc j) (omega arith) f))

  pub updates_set : (xs : List X) (k : Key) (at : ℕ) (d y : X) → at < length xs → key (get_or xs at d) ≡ k → ((j : ℕ) → j < at → key (get_or xs j d) ≡ k → ⊥) → key y ≡ k → Updates xs (set xs at y) k (text y)
  updates_set [] k at d y lt e none same q = absurd (omega arith)
  updates_set (x ∷ xs) k zero d y lt e none same q =
      rw (same, e) (twice_asked (same_key k q) (Some (text y)) (Some (text x)) (text_by key text xs q))
  updates_set (x ∷ xs) k (suc at) d y lt e none same q =
      ap (λ (o : Option (List ℕ)). if same_key (key x) q then Some (text x) else o) (updates_set xs k at d y (omega arith) e (λ j lt f. none (suc j) (omega arith) f) same q)
      ∙ either_first (same_key (key x) q) (same_key k q) (Some (text x)) (Some (text y)) (text_by key text xs q)
      (λ a b. none 0 (omega arith) (same_is (key x) q a ∙ sym (same_is k q b)))

  pub updates_insert : (xs : List X) (k : Key) (at : ℕ) (d y : X) → at ≤ length xs → ((j : ℕ) → j < at → key (get_or xs j d) ≡ k → ⊥) → key y ≡ k → Updates xs (insert xs at y) k (text y)
  updates_insert xs k zero d y le none same q = ap (λ (x : Key). if same_key x q then Some (text y) else text_by key text xs q) same
  updates_insert [] k (suc at) d y le none same q = absurd (omega arith)
  updates_insert (x ∷ xs) k (suc at) d y le none same q =
      ap (λ (o : Option (List ℕ)). if same_key (key x) q then Some (text x) else o) (updates_insert xs k at d y (omega arith) (λ j lt f. none (suc j) (omega arith) f) same q)
      ∙ either_first (same_key (key x) q) (same_key k q) (Some (text x)) (Some (text y)) (text_by key text xs q)
      (λ a b. none 0 (omega arith) (same_is (key x) q a ∙ sym (same_is k q b)))

  -- a text that is there already
  pub updates_same : (xs : List X) (k : Key) (t : List ℕ) → text_by key text xs k ≡ Some t → Updates xs xs k t
  updates_same xs k t e q = by_test (same_key k q) refl
    where
      by_test : (b : Bool) → b ≡ same_key k q → text_by key text xs q ≡ (if b then Some t else text_by key text xs q)
      by_test true f = ap (text_by key text xs) (sym (same_is k q (sym f))) ∙ e
      by_test false f = refl

-- the one that is found has the key
pub has_key : {A : Type 0} (known : List (Known A)) (k : Key) (at : ℕ) → IsAt (by_key k) known at → (d : Known A) → known_key (get_or known at d) ≡ k
has_key known k at there d = key_exact _ _ (there.is d)

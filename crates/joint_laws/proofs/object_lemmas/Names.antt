-- Names of which no two are the same.
use Rattle.std.proofs.Common.{◌≡◌, ◌≢◌, ℕ, zero, suc, ◌<◌, Bool, true, true≢false, ◌&&◌, List, [], ◌∷◌, length, get_or, ap, sym, ◌∙◌, arith}
use Rattle.std.specs.Prelude.{not}
use Rattle.std.specs.Str.{bytes_eq}
use Rattle.std.proofs.lemmas.Bool.{and_parts}
use Rattle.std.proofs.lemmas.Slice.Eq.{bytes_eq-Decides}
use Rattle.json.specs.Strict.{AreDistinct}

-- two names differ
abbrev differs : List ℕ → List ℕ → Bool
differs k l = not (bytes_eq k l)

abbrev is_none : List ℕ → List (List ℕ) → Bool
is_none k [] = true
is_none k (l ∷ ls) = differs k l && is_none k ls

-- each two of the names do
abbrev pub all_differ : List (List ℕ) → Bool
all_differ [] = true
all_differ (k ∷ ks) = is_none k ks && all_differ ks

others : (k l : List ℕ) → differs k l ≡ true → k ≢ l
others k l h e = true≢false (sym h ∙ ap not ((bytes_eq-Decides k l).1 e))

none_at : (k : List ℕ) (ls : List (List ℕ)) (j : ℕ) (x : List ℕ) → is_none k ls ≡ true → j < length ls → k ≢ get_or ls j x
none_at k [] j x h within = absurd (omega arith)
none_at k (l ∷ ls) zero x h within = others k l (and_parts _ _ h).0
none_at k (l ∷ ls) (suc j) x h within = none_at k ls j x (and_parts _ _ h).1 (omega arith)

pub are_distinct : (ks : List (List ℕ)) → all_differ ks ≡ true → AreDistinct ks
are_distinct (k ∷ ks) h zero (suc j) x lt within = none_at k ks j x (and_parts _ _ h).0 (omega arith)
are_distinct (k ∷ ks) h (suc i) (suc j) x lt within = are_distinct ks (and_parts _ _ h).1 i j x (omega arith) (omega arith)
are_distinct _ h _ _ x lt within = absurd (omega arith)

-- one name alone
pub one_name : (k : List ℕ) → AreDistinct (k ∷ [])
one_name k zero zero x lt within = absurd (omega arith)
one_name k _ _ x lt within = absurd (omega arith)

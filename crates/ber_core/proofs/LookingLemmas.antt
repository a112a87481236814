-- Octets of one kind that are looked through in parts.
use Rattle.std.proofs.Common.{◌≡◌, ℕ, zero, suc, ◌+◌, ◌-◌, ◌≤◌, ◌&&◌, Bool, true, false, List, [], ◌∷◌, length, take, drop, ap, refl, sym, ◌∙◌, arith}
use Rattle.std.proofs.lemmas.Bool.{and_parts, and_left, and_right}
use Rattle.std.proofs.lemmas.List.{drop-drop, take-append-drop}
use Rattle.std.proofs.lemmas.List.Folds.{list_all-append}
use Rattle.std.specs.List.{list_all, prefix_len}

-- a piece in front that is of the kind
pub passed : (p : ℕ → Bool) (n : ℕ) (o : List ℕ) → n ≤ length o → list_all p (take n o) ≡ true → (list_all p o ≡ list_all p (drop n o)) × (prefix_len p o ≡ n + prefix_len p (drop n o))
passed p zero o l h = (refl, omega arith)
passed p (suc n) [] l h = absurd (omega arith)
passed p (suc n) (x ∷ o) l h =
    let both = and_parts (p x) (list_all p (take n o)) h in
    let behind = passed p n o (omega arith) both.1 in
    rw both.0 (behind.0, omega (arith, behind.1))

parts : (p : ℕ → Bool) (o : List ℕ) (n : ℕ) → list_all p o ≡ (list_all p (take n o) && list_all p (drop n o))
parts p o n = ap (list_all p) (sym (take-append-drop n o)) ∙ list_all-append p (take n o) (drop n o)

-- a piece in front that is not
pub stopped : (p : ℕ → Bool) (n : ℕ) (o : List ℕ) → list_all p (take n o) ≡ false → list_all p o ≡ false
stopped p n o h = parts p o n ∙ and_left (list_all p (take n o)) (list_all p (drop n o)) h

by_cases : (first last all front middle back : Bool) → all ≡ (first && back) → all ≡ (front && last) → last ≡ (middle && back) → (first && last) ≡ all
by_cases false last all front middle back e f g = sym e
by_cases true true all front middle back e f g = sym (e ∙ (and_parts middle back (sym g)).1)
by_cases true false all front middle back e f g = sym (f ∙ and_right front false refl)

-- the first octets and the last ones, where these are all
pub by_ends : (p : ℕ → Bool) (o first last : List ℕ) (n m : ℕ) → first ≡ take n o → last ≡ drop m o → m ≤ n → (list_all p first && list_all p last) ≡ list_all p o
by_ends p o first last n m e f h =
    let more : m + (n - m) ≡ n = omega arith in
    let behind : drop (n - m) last ≡ drop n o = ap (drop (n - m)) f ∙ drop-drop (n - m) m o ∙ ap (λ (k : ℕ). drop k o) more in
    by_cases (list_all p first) (list_all p last) (list_all p o) (list_all p (take m o)) (list_all p (take (n - m) last)) (list_all p (drop n o))
    (parts p o n ∙ ap (λ (l : List ℕ). list_all p l && list_all p (drop n o)) (sym e))
    (parts p o m ∙ ap (λ (l : List ℕ). list_all p (take m o) && list_all p l) (sym f))
    (parts p last (n - m) ∙ ap (λ (l : List ℕ). list_all p (take (n - m) last) && list_all p l) behind)

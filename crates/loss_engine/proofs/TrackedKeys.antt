-- Keys, and what is tracked of each.
use Rattle.std.proofs.Common.{Option, Some, None, ◌≡◌, ◌==◌, ◌&&◌, ◌||◌, ℕ, zero, suc, Bool, true, false, List, [], ◌∷◌, ◌++◌, map, append-nil, if◌then◌else◌, inl, inr, ap, refl, ◌∙◌, sym, subst}
use Rattle.std.specs.Prelude.{slice_get}
use Rattle.std.specs.List.{list_any}
use Rattle.std.specs.Str.{bytes_eq}
use Rattle.std.proofs.lemmas.Bool.{and_from, and_parts, cases_Bool, eq-eqb, eqb-true, false≢true}
use Rattle.std.proofs.lemmas.Grind.{flat_map-append}
use Rattle.std.proofs.lemmas.Option.{none-some, same_Some}
use Rattle.std.proofs.lemmas.Slice.Eq.{bytes_eq-Decides}
use Rattle.loss_engine.specs.Sights.{Key, Sight, sender, stream, keys_from, keys_in, of_key, same_key, same_truth, with_key}
use Rattle.loss_engine.specs.computed.Tracking.{Progress, Tracked, known_of, with_progress}

-- ---- two keys are one

truth_is : (s t : Bool) → same_truth s t ≡ true → s ≡ t
truth_is true true h = refl
truth_is true false h = absurd (false≢true h)
truth_is false true h = absurd (false≢true h)
truth_is false false h = refl

truth_itself : (s : Bool) → same_truth s s ≡ true
truth_itself true = refl
truth_itself false = refl

pub same_is : (a b : Key) → same_key a b ≡ true → a ≡ b
same_is (sender a r s) (sender b q t) h =
    let x = and_parts (a == b) (bytes_eq r q && same_truth s t) h in
    let y = and_parts (bytes_eq r q) (same_truth s t) x.1 in
    let first : a ≡ b = eqb-true a b x.0 in
    let second : r ≡ q = (bytes_eq-Decides r q).0 y.0 in
    let third : s ≡ t = truth_is s t y.1 in
    cc
same_is (sender a r s) (stream b p j) h = absurd (false≢true h)
same_is (stream a o i) (sender b q t) h = absurd (false≢true h)
same_is (stream a o i) (stream b p j) h =
    let x = and_parts (a == b) (bytes_eq o p && bytes_eq i j) h in
    let y = and_parts (bytes_eq o p) (bytes_eq i j) x.1 in
    let first : a ≡ b = eqb-true a b x.0 in
    let second : o ≡ p = (bytes_eq-Decides o p).0 y.0 in
    let third : i ≡ j = (bytes_eq-Decides i j).0 y.1 in
    cc

pub same_itself : (a : Key) → same_key a a ≡ true
same_itself (sender a r s) = and_from (a == a) (bytes_eq r r && same_truth s s) (eq-eqb a a refl) (and_from (bytes_eq r r) (same_truth s s) ((bytes_eq-Decides r r).1 refl) (truth_itself s))
same_itself (stream a o i) = and_from (a == a) (bytes_eq o o && bytes_eq i i) (eq-eqb a a refl) (and_from (bytes_eq o o) (bytes_eq i i) ((bytes_eq-Decides o o).1 refl) ((bytes_eq-Decides i i).1 refl))

other_turned : (a b : Key) → same_key a b ≡ false → same_key b a ≡ false
other_turned a b h =
    elim (cases_Bool (same_key b a)) [
      | inl same ↦ absurd (false≢true (sym h ∙ subst (λ k. same_key a k ≡ true) (sym (same_is b a same)) (same_itself a)))
      | inr other ↦ other
    ]

-- ---- what is tracked of a key, and one sight more

known_here : (x : Tracked) (xs : List Tracked) (key : Key) → same_key x.key key ≡ true → known_of (x ∷ xs) key ≡ Some x.progress
known_here x xs key h = rw h refl

pub known_behind : (x : Tracked) (xs : List Tracked) (key : Key) → same_key x.key key ≡ false → known_of (x ∷ xs) key ≡ known_of xs key
known_behind x xs key h = rw h refl

with_here : (x : Tracked) (xs : List Tracked) (key : Key) (first : Progress) (more : Progress → Progress) → same_key x.key key ≡ true → with_progress (x ∷ xs) key first more ≡ record { key = x.key; progress = more x.progress } ∷ xs
with_here x xs key first more h = rw h refl

with_behind : (x : Tracked) (xs : List Tracked) (key : Key) (first : Progress) (more : Progress → Progress) → same_key x.key key ≡ false → with_progress (x ∷ xs) key first more ≡ x ∷ with_progress xs key first more
with_behind x xs key first more h = rw h refl

-- what is kept of a key after one sight more of it
abbrev pub after_more : Option Progress → Progress → (Progress → Progress) → Progress
after_more None first more = first
after_more (Some p) first more = more p

pub known_same : (xs : List Tracked) (key : Key) (first : Progress) (more : Progress → Progress) → known_of (with_progress xs key first more) key ≡ Some (after_more (known_of xs key) first more)
known_same [] key first more = known_here (record { key = key; progress = first }) [] key (same_itself key)
known_same (x ∷ xs) key first more =
    elim (cases_Bool (same_key x.key key)) [
      | inl same ↦
          ap (λ l. known_of l key) (with_here x xs key first more same)
          ∙ (known_here (record { key = x.key; progress = more x.progress }) xs key same ∙ ap (λ o. Some (after_more o first more)) (sym (known_here x xs key same)))
      | inr other ↦
          ap (λ l. known_of l key) (with_behind x xs key first more other)
          ∙ (known_behind x (with_progress xs key first more) key other ∙ (known_same xs key first more ∙ ap (λ o. Some (after_more o first more)) (sym (known_behind x xs key other))))
    ]

pub known_other : (xs : List Tracked) (key other : Key) (first : Progress) (more : Progress → Progress) → same_key key other ≡ false → known_of (with_progress xs key first more) other ≡ known_of xs other
known_other [] key other first more h = known_behind (record { key = key; progress = first }) [] other h
known_other (x ∷ xs) key other first more h =
    elim (cases_Bool (same_key x.key key)) [
      | inl same ↦
          let no : same_key x.key other ≡ false = subst (λ k. same_key k other ≡ false) (sym (same_is x.key key same)) h in
          ap (λ l. known_of l other) (with_here x xs key first more same)
          ∙ (known_behind (record { key = x.key; progress = more x.progress }) xs other no ∙ sym (known_behind x xs other no))
      | inr apart ↦
          ap (λ l. known_of l other) (with_behind x xs key first more apart)
          ∙ elim (cases_Bool (same_key x.key other)) [
            | inl found ↦ known_here x (with_progress xs key first more) other found ∙ sym (known_here x xs other found)
            | inr apart ↦ known_behind x (with_progress xs key first more) other apart ∙ (known_other xs key other first more h ∙ sym (known_behind x xs other apart))
          ]
    ]

-- each key is tracked once
abbrev pub Distinct : List Tracked → Type 0
Distinct [] = Unit {0}
Distinct (x ∷ xs) = (known_of xs x.key ≡ None) × Distinct xs

pub distinct_more : (xs : List Tracked) (key : Key) (first : Progress) (more : Progress → Progress) → Distinct xs → Distinct (with_progress xs key first more)
distinct_more [] key first more d = (refl, tt)
distinct_more (x ∷ xs) key first more d =
    elim (cases_Bool (same_key x.key key)) [
      | inl same ↦ subst Distinct (sym (with_here x xs key first more same)) (d.0, d.1)
      | inr other ↦
          subst Distinct (sym (with_behind x xs key first more other))
          (known_other xs key x.key first more (other_turned x.key key other) ∙ d.0, distinct_more xs key first more d.1)
    ]

pub known_own : (xs : List Tracked) → Distinct xs → (i : ℕ) (x : Tracked) → slice_get xs i ≡ Some x → known_of xs x.key ≡ Some x.progress
known_own [] d i x e = absurd (none-some x e)
known_own (y ∷ ys) d zero x e = subst (λ (z : Tracked). known_of (y ∷ ys) z.key ≡ Some z.progress) (same_Some y x e) (known_here y ys y.key (same_itself y.key))
known_own (y ∷ ys) d (suc i) x e =
    let rest : known_of ys x.key ≡ Some x.progress = known_own ys d.1 i x e in
    elim (cases_Bool (same_key y.key x.key)) [
      | inl same ↦ absurd (none-some x.progress (sym d.0 ∙ (ap (known_of ys) (same_is y.key x.key same) ∙ rest)))
      | inr other ↦ known_behind y ys x.key other ∙ rest
    ]

-- ---- keys in the order of their first occurrence

with_key_behind : (k : Key) (ks : List Key) (key : Key) → same_key k key ≡ false → k ∷ with_key ks key ≡ with_key (k ∷ ks) key
with_key_behind k ks key h =
    elim (list_any (λ j. same_key j key) ks) as (λ b. k ∷ (if b then ks else ks ++ key ∷ []) ≡ (if b then k ∷ ks else k ∷ (ks ++ key ∷ []))) [ true ↦ refl | false ↦ refl ]
    ∙ sym (ap (λ (b : Bool). if b || list_any (λ j. same_key j key) ks then k ∷ ks else k ∷ (ks ++ key ∷ [])) h)

pub keys_more : (xs : List Tracked) (key : Key) (first : Progress) (more : Progress → Progress) → map (λ (x : Tracked). x.key) (with_progress xs key first more) ≡ with_key (map (λ (x : Tracked). x.key) xs) key
keys_more [] key first more = refl
keys_more (x ∷ xs) key first more =
    let ks : List Key = map (λ (y : Tracked). y.key) xs in
    elim (cases_Bool (same_key x.key key)) [
      | inl same ↦
          ap (map (λ (y : Tracked). y.key)) (with_here x xs key first more same)
          ∙ sym (ap (λ (b : Bool). if b || list_any (λ j. same_key j key) ks then x.key ∷ ks else x.key ∷ (ks ++ key ∷ [])) same)
      | inr other ↦
          ap (map (λ (y : Tracked). y.key)) (with_behind x xs key first more other)
          ∙ (ap (λ l. x.key ∷ l) (keys_more xs key first more) ∙ with_key_behind x.key ks key other)
    ]

pub keys_from_both : (keys : List Key) (seen more : List Sight) → keys_from keys (seen ++ more) ≡ keys_from (keys_from keys seen) more
keys_from_both keys [] more = refl
keys_from_both keys (s ∷ seen) more = keys_from_both (with_key keys s.key) seen more

pub keys_push : (seen : List Sight) (s : Sight) → keys_in (seen ++ s ∷ []) ≡ with_key (keys_in seen) s.key
keys_push seen s = keys_from_both [] seen (s ∷ [])

-- ---- what is so of the sights of a key, and one sight more

of_key_push : {X : Type 0} (what : Sight → List X) (key : Key) (seen : List Sight) (s : Sight) → of_key what key (seen ++ s ∷ []) ≡ of_key what key seen ++ (if same_key s.key key then what s else [])
of_key_push what key seen s =
    flat_map-append (λ (x : Sight). if same_key x.key key then what x else []) seen (s ∷ [])
    ∙ ap (λ l. of_key what key seen ++ l) (append-nil (if same_key s.key key then what s else []))

pub of_key_same : {X : Type 0} (what : Sight → List X) (key : Key) (seen : List Sight) (s : Sight) → same_key s.key key ≡ true → of_key what key (seen ++ s ∷ []) ≡ of_key what key seen ++ what s
of_key_same what key seen s h = of_key_push what key seen s ∙ ap (λ (b : Bool). of_key what key seen ++ (if b then what s else [])) h

pub of_key_other : {X : Type 0} (what : Sight → List X) (key : Key) (seen : List Sight) (s : Sight) → same_key s.key key ≡ false → of_key what key (seen ++ s ∷ []) ≡ of_key what key seen
of_key_other what key seen s h = of_key_push what key seen s ∙ (ap (λ (b : Bool). of_key what key seen ++ (if b then what s else [])) h ∙ append-nil (of_key what key seen))

-- Texts at the start of others.
use Rattle.std.proofs.Common.{◌≡◌, ℕ, ◌+◌, ◌<◌, true, false, eqb, List, [], ◌∷◌, ◌++◌, length, take, drop, get_or, suc, Option, Some, None, ap, sym, ◌∙◌, append_assoc, arith, drop-cons, subst}
use Rattle.std.specs.Borrow.{Bor}
use Rattle.std.specs.List.{concat, flat_map}
use Rattle.std.specs.Str.{bytes_eq}
use Rattle.std.proofs.lemmas.Bool.{false_from_ne_true}
use Rattle.std.proofs.lemmas.Bool.Decides.{nat_tests, Decides-eqb}
use Rattle.std.proofs.lemmas.List.{append-nil, get_or_default, length-append, take-append-drop}
use Rattle.std.proofs.lemmas.List.Concat.{flat_map-append}
use Rattle.std.proofs.lemmas.Slice.Eq.{bytes_eq-Decides, strip_prefix_is}
use Rattle.std.specs.Prelude.{MatchOption}
use Rattle.std.specs.Cmp.Lexicographic.{pointwise}
use Rattle.text_core.specs.Afters.{IsAfter}

append_cancel : (a x y : List ℕ) → a ++ x ≡ a ++ y → x ≡ y
append_cancel [] x y e = e
append_cancel (c ∷ a) x y e = append_cancel a x y (tail_same e)
  where
    tail_same : {p q : List ℕ} → c ∷ p ≡ c ∷ q → p ≡ q
    tail_same f = cc

-- what is stripped off the start of a text
pub stripped : (text front : List ℕ) (r : Option (Bor (List ℕ))) → MatchOption r (pointwise eqb (take (length front) text) front ≡ false) (λ x. (pointwise eqb (take (length front) text) front ≡ true) × (x.now ≡ drop (length front) text) × (length x.now + length front ≡ length text))
    → IsAfter text front r
stripped text front None h = strip_prefix_is Decides-eqb text front None h
stripped text front (Some x) h = strip_prefix_is Decides-eqb text front (Some x) h

-- one text behind another
pub after_both : (text a b rest : List ℕ) (r : Option (Bor (List ℕ))) → text ≡ a ++ rest → IsAfter rest b r → IsAfter text (a ++ b) r
after_both text a b rest None e h = λ more f. h more (append_cancel a rest (b ++ more) (sym e ∙ f ∙ append_assoc a b more))
after_both text a b rest (Some x) e h = e ∙ ap (λ (l : List ℕ). a ++ l) h ∙ sym (append_assoc a b x.now)

-- where the first is not at the start, both are not
not_both : (text a b : List ℕ) → ((rest : List ℕ) → text ≡ a ++ rest → ⊥) → (rest : List ℕ) → text ≡ (a ++ b) ++ rest → ⊥
not_both text a b h rest e = h (b ++ rest) (e ∙ append_assoc a b rest)

-- a text goes on with each of these texts in its turn, and then so
pub data Steps (end : List ℕ) : List ℕ → List (List ℕ) → Type 0 where
  here : {text : List ℕ} → text ≡ end → Steps end text []
  step : {text behind x : List ℕ} {xs : List (List ℕ)} → text ≡ x ++ behind → Steps end behind xs → Steps end text (x ∷ xs)

-- what follows others behind several texts follows all of them
pub after_steps : (end text : List ℕ) (xs ys : List (List ℕ)) (r : Option (Bor (List ℕ))) → Steps end text xs → IsAfter end (concat ys) r → IsAfter text (concat (xs ++ ys)) r
after_steps end text [] ys r (here e) h = subst (λ (t : List ℕ). IsAfter t (concat ys) r) (sym e) h
after_steps end text (x ∷ xs) ys r (step {behind = behind} e s) h = after_both text x (concat (xs ++ ys)) behind r e (after_steps end behind xs ys r s h)

-- where one of several texts does not follow, all of them do not
pub stopped : (end text : List ℕ) (xs : List (List ℕ)) (y : List ℕ) (ys : List (List ℕ)) (r : Option (Bor (List ℕ))) → r ≡ None → Steps end text xs → IsAfter end y None → IsAfter text (concat (xs ++ y ∷ ys)) r
stopped end text xs y ys r e s h = subst (IsAfter text (concat (xs ++ y ∷ ys))) (sym e) (after_steps end text xs (y ∷ ys) None s (not_both end y (concat ys) h))

module _ {X : Type 0} (f : X → List ℕ) (xs : List X) (i : ℕ) (x : X) (within : i < length xs) (is : x ≡ get_or xs i x) (text rest : List ℕ) (so_far : text ≡ flat_map f (take i xs) ++ rest) where
  parts : flat_map f xs ≡ flat_map f (take i xs) ++ (f x ++ flat_map f (drop (suc i) xs))
  parts =
      ap (flat_map f) (sym (take-append-drop i xs)) ∙ flat_map-append f (take i xs) (drop i xs)
      ∙ ap (λ (l : List X). flat_map f (take i xs) ++ flat_map f l) (drop-cons xs i x within ∙ ap (λ (y : X). y ∷ drop (suc i) xs) (sym is))

  -- where it does not follow, all of them do not
  pub stops : ((behind : List ℕ) → rest ≡ f x ++ behind → ⊥) → (behind : List ℕ) → text ≡ flat_map f xs ++ behind → ⊥
  stops h behind e =
      let others = flat_map f (drop (suc i) xs) in
      h (others ++ behind) (append_cancel (flat_map f (take i xs)) rest (f x ++ (others ++ behind))
      (sym so_far ∙ e ∙ ap (λ (l : List ℕ). l ++ behind) parts ∙ append_assoc (flat_map f (take i xs)) (f x ++ others) behind
      ∙ ap (λ (l : List ℕ). flat_map f (take i xs) ++ l) (append_assoc (f x) others behind)))

-- the same of the one at a place
pub stops_at : {X : Type 0} (f : X → List ℕ) (xs : List X) (i : ℕ) (d : X) → i < length xs → (text rest : List ℕ) → text ≡ flat_map f (take i xs) ++ rest → ((behind : List ℕ) → rest ≡ f (get_or xs i d) ++ behind → ⊥) → (behind : List ℕ) → text ≡ flat_map f xs ++ behind → ⊥
stops_at f xs i d within text rest so_far h = stops f xs i (get_or xs i d) within (get_or_default xs i d (get_or xs i d) within) text rest so_far h

some_left : (c : ℕ) (rest : List ℕ) → eqb (length (c ∷ rest)) 0 ≡ false
some_left c rest = grind (arith, nat_tests)

-- a text is another one where nothing follows that
pub is_whole : (text front rest : List ℕ) → text ≡ front ++ rest → eqb (length rest) 0 ≡ bytes_eq text front
is_whole text front [] e = sym ((bytes_eq-Decides text front).1 (e ∙ append-nil front))
is_whole text front (c ∷ rest) e =
    some_left c rest ∙ sym (false_from_ne_true _ (λ yes.
    let same : text ≡ front = (bytes_eq-Decides text front).0 yes in
    let sizes : length text ≡ length front = ap length same in
    let whole : length text ≡ length (front ++ c ∷ rest) = ap length e in
    let sum : length (front ++ c ∷ rest) ≡ length front + length (c ∷ rest) = length-append front (c ∷ rest) in
    omega arith))

pub is_other : (text front : List ℕ) → ((rest : List ℕ) → text ≡ front ++ rest → ⊥) → false ≡ bytes_eq text front
is_other text front h = sym (false_from_ne_true _ (λ yes. h [] ((bytes_eq-Decides text front).0 yes ∙ sym (append-nil front))))

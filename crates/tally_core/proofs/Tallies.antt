-- A tally tells of each kind how many there were, and the first.
use Rattle.std.proofs.Common.{◌≡◌, ◌≢◌, ◌≤◌, ◌<◌, ◌⊎◌, inl, inr, ℕ, ◌+◌, ◌-◌, ◌^◌, ◌==◌, ◌||◌, ltb, Bool, true, false, not, List, [], ◌∷◌, ◌++◌, map, length, get_or, min, Option, Some, None, refl, sym, ap, subst, ◌∙◌, arith, zero, suc}
use Rattle.std.specs.List.{AllByRecursion, list_any}
use Rattle.std.proofs.lemmas.Bool.{eq-eqb, eqb-false, eqb-true, ltb-false, ltb-true, ne_eqb}
use Rattle.std.proofs.lemmas.List.{append-nil, append_assoc, length-append, length-map, map-append}
use Rattle.std.proofs.lemmas.List.Elements.{filter-append}
use Rattle.std.proofs.lemmas.List.Folds.{list_any-append}
use Rattle.std.proofs.lemmas.List.Quantifiers.{all_pairs_push}
use Rattle.tally_core.specs.Tally.{Counts, CountsIfAny, EachIsCounted, IsTallyOf, Tally, again, again_of, first_one, is_of, new_kind, no_tally, numbers_where, one_more, count_all, count_one}
use Rattle.tally_core.specs.declared.kind_tally.Total.{Total}
use Rattle.tally_core.specs.declared.kind_tally.KindTotal.{KindTotal}

-- what the kinds are
abbrev words : List KindTotal → List ℕ
words ks = map (λ k. k.kind) ks

-- none of the kinds is this one
abbrev is_apart : List KindTotal → ℕ → Bool
is_apart ks u = not (list_any (is_of u) ks)

-- of each kind its total is told
abbrev TellTotals : List (ℕ × ℕ) → List KindTotal → Type 0
TellTotals fs ks = AllByRecursion (λ k. Counts (numbers_where (λ u. u == k.kind) fs) k.total) ks

-- of two tests neither passes
neither : (a b : Bool) → (a || b) ≡ false → (a ≡ false) × (b ≡ false)
neither false b e = (refl, e)
neither true b e = absurd (cc)

or_true : (a : Bool) → (a || true) ≡ true
or_true true = refl
or_true false = refl

-- what passes the second test only by the first
left_passes : (a b : Bool) → not (a || b) ≡ true → not a ≡ true
left_passes true b e = e
left_passes false b e = refl

saturates : (n m : ℕ) → min (min n m + 1) m ≡ min (n + 1) m
saturates n m = omega arith

counts_more : (ns : List ℕ) (p : Total) (n : ℕ) → Counts ns p → Counts (ns ++ n ∷ []) (again p)
counts_more ns p n (first, more, is, kept) = (first, more ++ n ∷ [], rw is refl, rw (kept, length-append, saturates (length ns) (2 ^ 64 - 1)) refl)

counts_one : (n : ℕ) → Counts (n ∷ []) (first_one n)
counts_one n = (n, [], refl, refl)

-- tests that pass alike
where_same : (p q : ℕ → Bool) → ((u : ℕ) → p u ≡ q u) → (fs : List (ℕ × ℕ)) → numbers_where p fs ≡ numbers_where q fs
where_same p q same [] = refl
where_same p q same (f ∷ fs) = go (q f.1) refl (where_same p q same fs)
  where
    go : (b : Bool) → q f.1 ≡ b → numbers_where p fs ≡ numbers_where q fs → numbers_where p (f ∷ fs) ≡ numbers_where q (f ∷ fs)
    go true is rest = rw (same f.1, is) (ap (λ ns. f.0 ∷ ns) rest)
    go false is rest = rw (same f.1, is) rest

-- a test that passes only where another one does
none_where : (p q : ℕ → Bool) → ((u : ℕ) → p u ≡ true → q u ≡ true) → (fs : List (ℕ × ℕ)) → numbers_where q fs ≡ [] → numbers_where p fs ≡ []
none_where p q so [] e = refl
none_where p q so (f ∷ fs) e = go (q f.1) (p f.1) refl refl (none_where p q so fs)
  where
    go : (b a : Bool) → q f.1 ≡ b → p f.1 ≡ a → (numbers_where q fs ≡ [] → numbers_where p fs ≡ []) → numbers_where p (f ∷ fs) ≡ []
    go true a is was rest = absurd (let wrong : f.0 ∷ numbers_where q fs ≡ [] = rw is at e in cc)
    go false true is was rest = absurd (let wrong = sym is ∙ so f.1 was in cc)
    go false false is was rest = rw was (rest (rw is at e))

-- one more
module _ (fs : List (ℕ × ℕ)) (n t : ℕ) where
  abbrev more : List (ℕ × ℕ)
  more = fs ++ (n, t) ∷ []

  where_more : (test : ℕ → Bool) → numbers_where test more ≡ numbers_where test fs ++ numbers_where test ((n, t) ∷ [])
  where_more test = rw (filter-append, map-append) refl

  where_yes : (test : ℕ → Bool) → test t ≡ true → numbers_where test more ≡ numbers_where test fs ++ n ∷ []
  where_yes test passes = where_more test ∙ rw passes refl

  where_no : (test : ℕ → Bool) → test t ≡ false → numbers_where test more ≡ numbers_where test fs
  where_no test fails = where_more test ∙ rw (fails, append-nil) refl

  type_same : (k : KindTotal) → (again_of t k).kind ≡ k.kind
  type_same k = go (is_of t k) refl
    where
      go : (b : Bool) → is_of t k ≡ b → (again_of t k).kind ≡ k.kind
      go true is = rw is refl
      go false is = rw is refl

  types_same : (ks : List KindTotal) → words (map (again_of t) ks) ≡ words ks
  types_same [] = refl
  types_same (k ∷ ks) = rw (type_same k, types_same ks) refl

  any_same : (u : ℕ) (ks : List KindTotal) → list_any (is_of u) (map (again_of t) ks) ≡ list_any (is_of u) ks
  any_same u [] = refl
  any_same u (k ∷ ks) = rw (type_same k, any_same u ks) refl

  kind_again : (k : KindTotal) → Counts (numbers_where (λ u. u == k.kind) fs) k.total → Counts (numbers_where (λ u. u == (again_of t k).kind) more) (again_of t k).total
  kind_again k h = go (is_of t k) refl
    where
      go : (b : Bool) → is_of t k ≡ b → Counts (numbers_where (λ u. u == (again_of t k).kind) more) (again_of t k).total
      go true is =
          let same : t ≡ k.kind = sym (eqb-true k.kind t is) in
          rw (is, where_yes (λ u. u == k.kind) (eq-eqb t k.kind same)) (counts_more (numbers_where (λ u. u == k.kind) fs) k.total n h)
      go false is =
          rw (is, where_no (λ u. u == k.kind) (ne_eqb t k.kind (λ same. eqb-false k.kind t is (sym same)))) h

  kinds_again : (ks : List KindTotal) → TellTotals fs ks → TellTotals more (map (again_of t) ks)
  kinds_again [] h = tt
  kinds_again (k ∷ ks) h = (kind_again k h.0, kinds_again ks h.1)

  kinds_stay : (ks : List KindTotal) → list_any (is_of t) ks ≡ false → TellTotals fs ks → TellTotals more ks
  kinds_stay [] none h = tt
  kinds_stay (k ∷ ks) none h =
      let other = neither (is_of t k) (list_any (is_of t) ks) none in
      (rw (where_no (λ u. u == k.kind) (ne_eqb t k.kind (λ same. eqb-false k.kind t other.0 (sym same)))) h.0, kinds_stay ks other.1 h.1)

  -- this kind
  abbrev new : KindTotal
  new = record { kind = t; total = first_one n }

  kinds_push : (ks : List KindTotal) → TellTotals more ks → Counts (numbers_where (λ u. u == t) more) (first_one n) → TellTotals more (ks ++ new ∷ [])
  kinds_push [] h one = (one, tt)
  kinds_push (k ∷ ks) h one = (h.0, kinds_push ks h.1 one)

  types_differ : (ks : List KindTotal) → list_any (is_of t) ks ≡ false → (i d : ℕ) → i < length (words ks) → get_or (words ks) i d ≢ t
  types_differ [] none i d inside = absurd (omega arith)
  types_differ (k ∷ ks) none zero d inside = eqb-false k.kind t (neither (is_of t k) (list_any (is_of t) ks) none).0
  types_differ (k ∷ ks) none (suc i) d inside = types_differ ks (neither (is_of t k) (list_any (is_of t) ks) none).1 i d (omega arith)

  -- one of a kind that there is
  tells_again : (ks : List KindTotal) (o : Option Total) → list_any (is_of t) ks ≡ true → IsTallyOf fs (record { kinds = ks; others = o }) → IsTallyOf more (record { kinds = map (again_of t) ks; others = o })
  tells_again ks o found h = record {
    kinds = kinds_again ks h.kinds;
    apart = rw (types_same ks) h.apart;
    others = rw (where_same (is_apart (map (again_of t) ks)) (is_apart ks) (λ u. rw (any_same u ks) refl) more, where_no (is_apart ks) (rw found refl)) h.others;
    few = rw length-map h.few;
    full = rw length-map h.full;
  }

  -- the first one of a further kind: beside fewer than sixteen kinds all before were of one of them
  tells_new : (ks : List KindTotal) → list_any (is_of t) ks ≡ false → length ks < 16 → IsTallyOf fs (record { kinds = ks; others = None }) → IsTallyOf more (record { kinds = ks ++ new ∷ []; others = None })
  tells_new ks none room h = record {
    kinds = kinds_push ks (kinds_stay ks none h.kinds) (rw (where_yes (λ u. u == t) (eq-eqb t t refl), none_before) (counts_one n));
    apart = rw map-append (all_pairs_push (λ u v. u ≢ v) (words ks) t h.apart (λ i d inside. types_differ ks none i d inside));
    others = where_no (is_apart (ks ++ new ∷ [])) (rw (list_any-append, eq-eqb t t refl, or_true (list_any (is_of t) ks)) refl) ∙ none_where (is_apart (ks ++ new ∷ [])) (is_apart ks) still fs h.others;
    few = rw length-append (omega arith);
    full = inr refl;
  }
    where
      none_before : numbers_where (λ u. u == t) fs ≡ []
      none_before = none_where (λ u. u == t) (is_apart ks) (λ u is. rw (eqb-true u t is, none) refl) fs h.others

      still : (u : ℕ) → is_apart (ks ++ new ∷ []) u ≡ true → is_apart ks u ≡ true
      still u e = left_passes (list_any (is_of u) ks) (list_any (is_of u) (new ∷ [])) (rw list_any-append at e)

  -- one of the others
  other_more : (ns : List ℕ) (o : Option Total) → CountsIfAny ns o → CountsIfAny (ns ++ n ∷ []) (one_more n o)
  other_more ns None h = rw h (counts_one n)
  other_more ns (Some p) h = counts_more ns p n h

  tells_other : (ks : List KindTotal) (o : Option Total) → list_any (is_of t) ks ≡ false → 16 ≤ length ks → IsTallyOf fs (record { kinds = ks; others = o }) → IsTallyOf more (record { kinds = ks; others = one_more n o })
  tells_other ks o none full h =
      let many : length ks ≤ 16 = h.few in
      record {
        kinds = kinds_stay ks none h.kinds;
        apart = h.apart;
        others = rw (where_yes (is_apart ks) (rw none refl)) (other_more (numbers_where (is_apart ks) fs) o h.others);
        few = h.few;
        full = inl (omega arith);
      }

  tells_further : (ks : List KindTotal) (o : Option Total) → list_any (is_of t) ks ≡ false → IsTallyOf fs (record { kinds = ks; others = o }) → (b : Bool) → ltb (length ks) 16 ≡ b → IsTallyOf more (new_kind n t (record { kinds = ks; others = o }))
  tells_further ks None none h true is = rw is (tells_new ks none (ltb-true (length ks) 16 is) h)
  tells_further ks (Some p) none h true is = absurd (beside (ltb-true (length ks) 16 is) h.full)
    where
      beside : length ks < 16 → (length ks ≡ 16) ⊎ (Some p ≡ None) → ⊥
      beside room (inl many) = omega arith
      beside room (inr none) = cc
  tells_further ks o none h false is = rw is (tells_other ks o none (ltb-false (length ks) 16 is) h)

  tells_step : (ks : List KindTotal) (o : Option Total) → IsTallyOf fs (record { kinds = ks; others = o }) → (b : Bool) → list_any (is_of t) ks ≡ b → IsTallyOf more (count_one n t (record { kinds = ks; others = o }))
  tells_step ks o h true is = rw is (tells_again ks o is h)
  tells_step ks o h false is = rw is (tells_further ks o is h (ltb (length ks) 16) refl)

tells_on : (fs before : List (ℕ × ℕ)) (a : Tally) → IsTallyOf before a → IsTallyOf (before ++ fs) (count_all fs a)
tells_on [] before a h = rw append-nil h
tells_on (f ∷ fs) before a h =
    subst (λ l. IsTallyOf l (count_all (f ∷ fs) a)) (append_assoc before (f ∷ []) fs)
    (tells_on fs (before ++ f ∷ []) (count_one f.0 f.1 a) (tells_step before f.0 f.1 a.kinds a.others h (list_any (is_of f.1) a.kinds) refl))

pub each_is_counted : EachIsCounted
each_is_counted fs = tells_on fs [] no_tally (record { kinds = tt; apart = λ i j d before inside. absurd (omega arith); others = refl; few = omega arith; full = inr refl })

-- what is counted behind others
pub count_append : (fs gs : List (ℕ × ℕ)) (a : Tally) → count_all (fs ++ gs) a ≡ count_all gs (count_all fs a)
count_append [] gs a = refl
count_append (f ∷ fs) gs a = count_append fs gs (count_one f.0 f.1 a)

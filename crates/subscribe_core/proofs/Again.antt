-- A name that stands behind the same name, and the first block that is given twice.
use Rattle.std.proofs.Common.{◌≡◌, ℕ, Option, zero, suc, ◌+◌, ◌-◌, ◌<◌, ◌≤◌, Some, None, List, length, min, slice_get, get_or, false, sym, ap, ◌∙◌, arith, subst, refl, inl, inr}
use Rattle.std.proofs.lemmas.Bool.{cases_lt, cases_eq, false≢true, lt-ltb}
use Rattle.std.proofs.lemmas.Option.{slice_get-get_or, slice_get_read, slice_get_within, get_or_from_slice_get, same_Some}
use Rattle.std.proofs.lemmas.List.Sorted.{ranks_by, sorted_far}
use Rattle.std.proofs.lemmas.Cmp.{nat_cmp_total, then_total, on_total, tied_itself}
use Rattle.std.specs.Prelude.{MatchOption}
use Rattle.std.specs.List.{Contains}
use Rattle.std.specs.Cmp.{IsTotalOrder}
use Rattle.std.specs.Ordering.{nat_cmp, is_lt, ordering_then, ordering_reverse}
use Rattle.std.specs.declared.cmp.Ordering.{Ordering}
use Rattle.std.specs.declared.cmp.Ordering.TheVariants.{Less, Equal, Greater}
use Rattle.block_core.specs.declared.block.Block.{Block}
use Rattle.subscribe_core.specs.declared.names.Name.{Name}
use Rattle.subscribe_core.specs.Apart.{AreApart, IsTwice, IsFirstTwice}
use Rattle.subscribe_core.specs.computed.Names.{key_cmp, key_of, block_key, place_cmp, place_of, lesser_of, AreSorted, ArePlaced, IsAgainAt, IsLeastAgain, AreNamesOf}
use Rattle.subscribe_core.proofs.Fresh.{apart_from}
use Rattle.subscribe_core.proofs.NameLemmas.{key_total, key_exact}

pub place_total : IsTotalOrder place_cmp
place_total = then_total (on_total (λ (p : (ℕ × List ℕ) × ℕ). p.0) key_total) (on_total (λ (p : (ℕ × List ℕ) × ℕ). p.1) nat_cmp_total)

first_not_less : (o p : Ordering) → is_lt (ordering_then o p) ≡ false → is_lt o ≡ false
first_not_less Less p e = e
first_not_less Equal p e = refl
first_not_less Greater p e = refl

numbers_not_less : (a b : ℕ) → is_lt (nat_cmp a b) ≡ false → b ≤ a
numbers_not_less a b e =
    elim (cases_lt a b) [
      | inl lt ↦ absurd (false≢true (sym e ∙ rw (lt-ltb a b lt) refl))
      | inr le ↦ le
    ]

second_not_less : (o : Ordering) (a b : ℕ) → o ≡ Equal → is_lt (ordering_then o (nat_cmp a b)) ≡ false → b ≤ a
second_not_less o a b same e = numbers_not_less a b (subst (λ (x : Ordering). is_lt (ordering_then x (nat_cmp a b)) ≡ false) same e)

neither_less : (o p : Ordering) → p ≡ ordering_reverse o → is_lt o ≡ false → is_lt p ≡ false → o ≡ Equal
neither_less Less p e first second = absurd (false≢true (sym first))
neither_less Equal p e first second = refl
neither_less Greater p e first second = absurd (false≢true (sym second ∙ ap is_lt e))

-- by their keys alone
pub placed_sorted : {A : Type 0} → (names : List (Name A)) → ArePlaced names → AreSorted names
placed_sorted names placed k d low lt = first_not_less _ _ (placed k d low lt)

-- a name before another is no later in order
in_place : {A : Type 0} → (names : List (Name A)) (i j : ℕ) (x y : Name A) → ArePlaced names → i ≤ j → slice_get names i ≡ Some x → slice_get names j ≡ Some y
    → is_lt (place_cmp (place_of y) (place_of x)) ≡ false
in_place {A} names i j x y placed le first second =
    let far = sorted_far (λ a b. is_lt (place_cmp (place_of a) (place_of b))) (ranks_by place_total place_of) names placed i j x le (slice_get_within names j y second) in
    rw (get_or_from_slice_get names i x x first, get_or_from_slice_get names j y x second) at far

-- of two names with one key the later one is for a block that is no earlier
in_position : {A : Type 0} → (names : List (Name A)) (i j : ℕ) (x y : Name A) → ArePlaced names → i ≤ j → slice_get names i ≡ Some x → slice_get names j ≡ Some y
    → key_of x ≡ key_of y → x.position ≤ y.position
in_position {A} names i j x y placed le first second same =
    second_not_less (key_cmp (key_of y) (key_of x)) y.position x.position
    (ap (λ (k : ℕ × List ℕ). key_cmp (key_of y) k) same ∙ tied_itself key_total (key_of y))
    (in_place names i j x y placed le first second)

-- a name between two that have one key has it too
between : {A : Type 0} → (names : List (Name A)) (i j k : ℕ) (x z y : Name A) → ArePlaced names → i ≤ j → j ≤ k → slice_get names i ≡ Some x → slice_get names j ≡ Some z
    → slice_get names k ≡ Some y → key_of x ≡ key_of y → key_of z ≡ key_of x
between {A} names i j k x z y placed low high first middle last same =
    let up = first_not_less _ _ (in_place names i j x z placed low first middle) in
    let down = first_not_less _ _ (in_place names j k z y placed high middle last) in
    let down' : is_lt (key_cmp (key_of x) (key_of z)) ≡ false = ap (λ (q : ℕ × List ℕ). is_lt (key_cmp q (key_of z))) same ∙ down in
    key_exact (key_of z) (key_of x) (neither_less (key_cmp (key_of z) (key_of x)) (key_cmp (key_of x) (key_of z)) (key_total.antisymm (key_of x) (key_of z)) up down')

-- behind a name that is there for a later block too, a name stands behind the same name for that block
again_between : {A : Type 0} → (names : List (Name A)) (n p r i : ℕ) (x y : Name A) → ArePlaced names → p ≤ r → r ≤ p + n → slice_get names p ≡ Some x
    → slice_get names (r + 1) ≡ Some y → key_of x ≡ key_of y → x.position < y.position → y.position ≡ i → (k : ℕ) × (k + 1 < length names) × IsAgainAt names k i
again_between {A} names zero p r i x y placed low close first last same before at =
    let e : p ≡ r = omega arith in
    (r, slice_get_within names (r + 1) y last, (x, y, subst (λ (k : ℕ). slice_get names k ≡ Some x) e first, last, same, before, at))
again_between {A} names (suc n) p r i x y placed low close first last same before at =
    let within : r + 1 < length names = slice_get_within names (r + 1) y last in
    elim (cases_eq p r) [
      | inl e ↦ (r, within, (x, y, subst (λ (k : ℕ). slice_get names k ≡ Some x) e first, last, same, before, at))
      | inr apart ↦
          let z : Name A = get_or names r x in
          let middle : slice_get names r ≡ Some z = slice_get-get_or names r x (omega arith) in
          let key : key_of z ≡ key_of x = between names p r (r + 1) x z y placed low (omega arith) first middle last same in
          let up : z.position ≤ y.position = in_position names r (r + 1) z y placed (omega arith) middle last (key ∙ same) in
          elim (cases_lt z.position y.position) [
            | inl lt ↦ (r, within, (z, y, middle, last, key ∙ same, lt, at))
            | inr le ↦
                let back : r ≡ (r - 1) + 1 = omega arith in
                again_between names n p (r - 1) i x z placed (omega arith) (omega arith) first
                (subst (λ (k : ℕ). slice_get names k ≡ Some z) back middle) (sym key) (omega arith) (omega arith)
          ]
    ]

contained : {A : Type 0} → (names : List (Name A)) (k : ℕ) (x : Name A) → slice_get names k ≡ Some x → Contains names x
contained names k x e = (k, slice_get_within names k x e, get_or_from_slice_get names k x x e)

-- the block of such a name is given twice
again_twice : {A : Type 0} → (names : List (Name A)) (blocks : List (Block A)) (k i : ℕ) → AreNamesOf names blocks → IsAgainAt names k i → IsTwice blocks i
again_twice {A} names blocks k i all w =
    let a = all.sound w.0 (contained names k w.0 w.2) in
    let b = all.sound w.1 (contained names (k + 1) w.1 w.3) in
    let same : block_key a.0 ≡ block_key b.0 = a.2 ∙ (w.4 ∙ sym b.2) in (
      w.0.position,
      a.0,
      b.0,
      omega (arith, w.5, w.6),
      a.1,
      subst (λ (j : ℕ). slice_get blocks j ≡ Some b.0) w.6 b.1,
      (ap (λ (x : ℕ × List ℕ). x.0) same, ap (λ (x : ℕ × List ℕ). x.1) same),
    )

-- and a block that is given twice has such a name
twice_again : {A : Type 0} → (names : List (Name A)) (blocks : List (Block A)) (i : ℕ) → AreNamesOf names blocks → ArePlaced names → IsTwice blocks i
    → (k : ℕ) × (k + 1 < length names) × IsAgainAt names k i
twice_again {A} names blocks i all placed w =
    let a = all.whole w.0 w.1 w.4 in
    let b = all.whole i w.2 w.5 in
    let p = a.1.0 in
    let q = b.1.0 in
    let first : slice_get names p ≡ Some a.0 = slice_get_read names (length names) p a.0 refl a.1.1 (sym a.1.2) in
    let last : slice_get names q ≡ Some b.0 = slice_get_read names (length names) q b.0 refl b.1.1 (sym b.1.2) in
    let same : key_of a.0 ≡ key_of b.0 = a.2 ∙ (cc (w.6.0, w.6.1) ∙ sym b.2) in
    let before : a.0.position < b.0.position = omega (arith, a.3, b.3, w.3) in
    elim (cases_lt p q) [
      | inl lt ↦
          let back : q ≡ (q - 1) + 1 = omega arith in
          again_between names q p (q - 1) i a.0 b.0 placed (omega arith) (omega arith) first
          (subst (λ (k : ℕ). slice_get names k ≡ Some b.0) back last) same before b.3
      | inr le ↦
          let down : b.0.position ≤ a.0.position = in_position names q p b.0 a.0 placed le last first (sym same) in
          absurd (omega arith)
    ]

-- the least such position is that of the first block given twice
pub first_twice_is : {A : Type 0} → (names : List (Name A)) (blocks : List (Block A)) (o : Option ℕ) → AreNamesOf names blocks → ArePlaced names → IsLeastAgain names (length names) o
    → MatchOption o (AreApart blocks) (λ i. IsFirstTwice blocks i)
first_twice_is {A} names blocks None all placed none =
    apart_from blocks (λ i lt w. let at = twice_again names blocks i all placed w in none at.0 i at.1 at.2)
first_twice_is {A} names blocks (Some i) all placed least = (
  again_twice names blocks least.0.0 i all least.0.2,
  λ j lt w.
      let at = twice_again names blocks j all placed w in
      let le : i ≤ j = least.1 at.0 j at.1 at.2 in
      omega arith,
)

-- one more name

again_one : {A : Type 0} → (names : List (Name A)) (k i j : ℕ) → IsAgainAt names k i → IsAgainAt names k j → i ≡ j
again_one {A} names k i j v w = sym v.6 ∙ (ap (λ (n : Name A). n.position) (same_Some v.1 w.1 (sym v.3 ∙ w.3)) ∙ w.6)

-- what holds of those before and of the last one
each_more : {A : Type 0} → (names : List (Name A)) (n : ℕ) (P : ℕ → Type 0) → ((k i : ℕ) → k + 1 < n → IsAgainAt names k i → P i) → ((i : ℕ) → IsAgainAt names (n - 1) i → P i)
    → (k i : ℕ) → k + 1 < n + 1 → IsAgainAt names k i → P i
each_more {A} names n P before last k i lt w =
    elim (cases_lt (k + 1) n) [
      | inl below ↦ before k i below w
      | inr above ↦
          let e : k ≡ n - 1 = omega arith in
          last i (subst (λ (j : ℕ). IsAgainAt names j i) e w)
    ]

pub again_none : {A : Type 0} → (names : List (Name A)) (n : ℕ) (o : Option ℕ) → IsLeastAgain names n o → ((i : ℕ) → IsAgainAt names (n - 1) i → ⊥) → IsLeastAgain names (n + 1) o
again_none {A} names n None least none = each_more names n (λ i. ⊥) least none
again_none {A} names n (Some m) least none =
    ((least.0.0, omega (arith, least.0.1), least.0.2), each_more names n (λ i. m ≤ i) least.1 (λ i w. absurd (none i w)))

pub again_more : {A : Type 0} → (names : List (Name A)) (n : ℕ) (o : Option ℕ) (at : ℕ) → 0 < n → IsLeastAgain names n o → IsAgainAt names (n - 1) at → IsLeastAgain names (n + 1) (lesser_of o at)
again_more {A} names n None at some least w = (
  (n - 1, omega arith, w),
  each_more names n (λ i. at ≤ i) (λ k i lt v. absurd (least k i lt v)) (λ i v. let e = again_one names (n - 1) i at v w in omega arith),
)
again_more {A} names n (Some m) at some least w = (
  elim (cases_lt at m) [
    | inl lt ↦ let e : at ≡ min m at = omega arith in (n - 1, omega arith, subst (λ (i : ℕ). IsAgainAt names (n - 1) i) e w)
    | inr le ↦
        let e : m ≡ min m at = omega arith in
        (least.0.0, omega (arith, least.0.1), subst (λ (i : ℕ). IsAgainAt names least.0.0 i) e least.0.2)
  ],
  each_more names n (λ i. min m at ≤ i) (λ k i lt v. let le = least.1 k i lt v in omega arith)
      (λ i v. let e = again_one names (n - 1) i at v w in omega arith),
)

-- all of them
pub again_all : {A : Type 0} → (names : List (Name A)) (n : ℕ) (o : Option ℕ) → length names ≤ n → IsLeastAgain names n o → IsLeastAgain names (length names) o
again_all {A} names n None whole least = λ k i lt w. least k i (omega arith) w
again_all {A} names n (Some m) whole least =
    ((least.0.0, slice_get_within names (least.0.0 + 1) least.0.2.1 least.0.2.3, least.0.2), λ k i lt w. least.1 k i (omega arith) w)

-- two names, one behind the other, as they are read
pub again_read : {A : Type 0} → (names : List (Name A)) (n : ℕ) (x y : Name A) → 0 < n → n < length names → x ≡ get_or names (n - 1) x → y ≡ get_or names n y
    → key_of x ≡ key_of y → x.position < y.position → IsAgainAt names (n - 1) y.position
again_read {A} names n x y some lt first last same before =
    let back : n ≡ (n - 1) + 1 = omega arith in
    (x, y, slice_get_read names (length names) (n - 1) x refl (omega arith) first, subst (λ (k : ℕ). slice_get names k ≡ Some y) back (slice_get_read names (length names) n y refl lt last), same, before, refl)

pub again_told : {A : Type 0} → (names : List (Name A)) (n i : ℕ) (x y : Name A) → 0 < n → n < length names → x ≡ get_or names (n - 1) x → y ≡ get_or names n y
    → IsAgainAt names (n - 1) i → (key_of x ≡ key_of y) × (x.position < y.position)
again_told {A} names n i x y some lt first last w =
    let back : (n - 1) + 1 ≡ n = omega arith in
    let a : w.0 ≡ x = same_Some w.0 x (sym w.2 ∙ slice_get_read names (length names) (n - 1) x refl (omega arith) first) in
    let b : w.1 ≡ y = same_Some w.1 y (sym w.3 ∙ (ap (slice_get names) back ∙ slice_get_read names (length names) n y refl lt last)) in
    (sym (ap key_of a) ∙ (w.4 ∙ ap key_of b), subst (λ (n : Name A). n.position < y.position) a (subst (λ (n : Name A). w.0.position < n.position) b w.5))

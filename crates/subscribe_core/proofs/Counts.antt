-- The counts that are seen: one more count, all counts, and indexes in small steps.
use Rattle.std.proofs.Common.{◌≡◌, ◌⊎◌, ℕ, zero, suc, ◌+◌, ◌-◌, ◌*◌, ◌/◌, ◌%◌, ◌<◌, ◌≤◌, max, Bool, true, false, if◌then◌else◌, Option, Some, None, List, [], ◌∷◌, ◌++◌, length, map, slice_get, add-zero, zero-add, append-nil, append_assoc, sym, refl, ap, ap₂, ◌∙◌, subst, arith, inl, inr}
use Rattle.std.proofs.lemmas.Bool.{cases_order, cases_eq, false≢true, ne_eqb, lt-ltb, le-ltb}
use Rattle.std.proofs.lemmas.List.{length-append, length_push}
use Rattle.std.proofs.lemmas.Option.{none-some, same_Some}
use Rattle.subscribe_core.specs.declared.watch.Seen.{Seen}
use Rattle.subscribe_core.specs.declared.watch.Seen.TheVariants as seen
use Rattle.subscribe_core.specs.Watch.{AreSeen, IsLastCount, IsSeenLast, WatchState, WatchesAfter, by_way, moves, seen_after, way}
use Rattle.subscribe_core.specs.computed.WatchAnswers.{last_by, seen_all}
use Rattle.subscribe_core.specs.WatchLaws.{SeenAreOne, GoesOn, SkipsAddUp, advance, advances, greatest_index}
use Rattle.subscribe_core.proofs.Traces.{get_front, get_middle, get_pushed}
use Rattle.std.proofs.Math.Nat.{add-mod_left, div-add-mod, mod-add-mod, mod-eq_of_lt, mod-lt, mul-add-mod_self_left}

-- the last count before a position depends on what stands before it alone

get_back : {X : Type 0} (xs ys : List X) (i : ℕ) (x : X) → i < length xs → slice_get (xs ++ ys) i ≡ Some x → slice_get xs i ≡ Some x
get_back xs ys i x lt e = sym (get_front xs ys i lt) ∙ e

last_front : (counts more : List ℕ) (answers others : List Seen) (i : ℕ) (last : Option ℕ) → i ≤ length counts → i ≤ length answers → IsLastCount counts answers i last → IsLastCount (counts ++ more) (answers ++ others) i last
last_front counts more answers others i None a b w = λ j s lt e. w j s lt (get_back answers others j s (omega arith) e)
last_front counts more answers others i (Some c) a b w =
    let lt : w.0 < i = w.2 in (
      w.0,
      w.1,
      w.2,
      get_front answers others w.0 (omega arith) ∙ w.3,
      w.4,
      get_front counts more w.0 (omega arith) ∙ w.5,
      λ k r x y e. w.6 k r x y (get_back answers others k r (omega arith) e),
    )

last_back : (counts more : List ℕ) (answers others : List Seen) (i : ℕ) (last : Option ℕ) → i ≤ length counts → i ≤ length answers → IsLastCount (counts ++ more) (answers ++ others) i last → IsLastCount counts answers i last
last_back counts more answers others i None a b w = λ j s lt e. w j s lt (get_front answers others j (omega arith) ∙ e)
last_back counts more answers others i (Some c) a b w =
    let lt : w.0 < i = w.2 in (
      w.0,
      w.1,
      w.2,
      get_back answers others w.0 w.1 (omega arith) w.3,
      w.4,
      get_back counts more w.0 c (omega arith) w.5,
      λ k r x y e. w.6 k r x y (get_front answers others k (omega arith) ∙ e),
    )

-- one count more

-- a position of a list with one more item is one of the list, or the last
place : {X : Type 0} (xs : List X) (x : X) (i : ℕ) (y : X) → slice_get (xs ++ x ∷ []) i ≡ Some y → ((i < length xs) × (slice_get xs i ≡ Some y)) ⊎ ((i ≡ length xs) × (x ≡ y))
place [] x zero y e = inr (refl, same_Some x y e)
place [] x (suc i) y e = absurd (none-some y e)
place (z ∷ zs) x zero y e = inl (omega arith, e)
place (z ∷ zs) x (suc i) y e =
    elim (place zs x i y e) [ inl w ↦ let lt : i < length zs = w.0 in inl (omega arith, w.1) | inr w ↦ inr (ap suc w.0, w.1) ]

pub seen_push : (period : ℕ) (counts : List ℕ) (answers : List Seen) (last : Option ℕ) (count : ℕ) → AreSeen period counts answers → IsLastCount counts answers (length counts) last
    → AreSeen period (counts ++ count ∷ []) (answers ++ seen_after period last count ∷ [])
seen_push period counts answers last count all is =
    let sizes : length answers ≡ length counts = all.sizes in
    record {
      sizes = length_push answers (seen_after period last count) ∙ (ap (λ n. n + 1) all.sizes ∙ sym (length_push counts count));
      each = λ i c s p q.
          elim (place counts count i c p) [
            | inl w ↦
                let lt : i < length counts = w.0 in
                let x = all.each i c s w.1 (get_back answers (seen_after period last count ∷ []) i s (omega arith) q) in
                (x.0, last_front counts (count ∷ []) answers (seen_after period last count ∷ []) i x.0 (omega arith) (omega arith) x.1, x.2)
            | inr w ↦
                let at : i ≡ length counts = w.0 in
                let here : i ≡ length answers = omega arith in
                let said : seen_after period last count ≡ s =
                same_Some (seen_after period last count) s (sym (get_pushed answers (seen_after period last count)) ∙ (ap (slice_get (answers ++ seen_after period last count ∷ [])) (sym here) ∙ q)) in (
                  last,
                  last_front counts (count ∷ []) answers (seen_after period last count ∷ []) i last (omega arith) (omega arith) (subst (λ n. IsLastCount counts answers n last) (sym at) is),
                  sym said ∙ ap (seen_after period last) w.1,
                )
          ];
    }

moved : (counts : List ℕ) (answers : List Seen) (count : ℕ) (s : Seen) → length answers ≡ length counts → moves s ≡ true → IsLastCount (counts ++ count ∷ []) (answers ++ s ∷ []) (length (counts ++ count ∷ [])) (Some count)
moved counts answers count s same m =
    let more : length (counts ++ count ∷ []) ≡ length counts + 1 = length_push counts count in (
      length counts,
      s,
      omega arith,
      subst (λ n. slice_get (answers ++ s ∷ []) n ≡ Some s) same (get_pushed answers s),
      m,
      get_pushed counts count,
      λ k r a b e. absurd (omega arith),
    )

stayed : (counts : List ℕ) (answers : List Seen) (last : Option ℕ) (count : ℕ) (s : Seen) → length answers ≡ length counts → moves s ≡ false → IsLastCount counts answers (length counts) last
    → IsLastCount (counts ++ count ∷ []) (answers ++ s ∷ []) (length (counts ++ count ∷ [])) last
stayed counts answers None count s same m w = λ j r lt e.
    elim (place answers s j r e) [
      | inl x ↦ let below : j < length answers = x.0 in w j r (omega arith) x.1
      | inr x ↦ ap moves (sym x.1) ∙ m
    ]
stayed counts answers (Some c) count s same m w =
    let more : length (counts ++ count ∷ []) ≡ length counts + 1 = length_push counts count in
    let lt : w.0 < length counts = w.2 in (
      w.0,
      w.1,
      omega arith,
      get_front answers (s ∷ []) w.0 (omega arith) ∙ w.3,
      w.4,
      get_front counts (count ∷ []) w.0 (omega arith) ∙ w.5,
      λ k r a b e. elim (place answers s k r e) [
        | inl x ↦ let below : k < length answers = x.0 in w.6 k r a (omega arith) x.1
        | inr x ↦ ap moves (sym x.1) ∙ m
      ],
    )

pub last_push : (counts : List ℕ) (answers : List Seen) (last : Option ℕ) (count : ℕ) (s : Seen) → length answers ≡ length counts → IsLastCount counts answers (length counts) last
    → IsLastCount (counts ++ count ∷ []) (answers ++ s ∷ []) (length (counts ++ count ∷ [])) (last_by last count s)
last_push counts answers last count seen.First same w = moved counts answers count seen.First same refl
last_push counts answers last count seen.Next same w = moved counts answers count seen.Next same refl
last_push counts answers last count (seen.Skipped m) same w = moved counts answers count (seen.Skipped m) same refl
last_push counts answers last count seen.Same same w = stayed counts answers last count seen.Same same refl w
last_push counts answers last count seen.Late same w = stayed counts answers last count seen.Late same refl w
last_push counts answers last count seen.OutOfRange same w = stayed counts answers last count seen.OutOfRange same refl w

pub seen_last : (counts : List ℕ) (w : WatchState) (count : ℕ) (s : Seen) → s ≡ seen_after w.period w.last count → WatchesAfter counts w → IsSeenLast w.period counts count s
seen_last counts w count s is stands =
    (stands.0, subst (λ x. AreSeen w.period (counts ++ count ∷ []) (stands.0 ++ x ∷ [])) (sym is) (seen_push w.period counts stands.0 w.last count stands.1 stands.2))

pub watches_on : (counts : List ℕ) (w v : WatchState) (count : ℕ) (s : Seen) → s ≡ seen_after w.period w.last count → v.period ≡ w.period → v.last ≡ last_by w.last count s → WatchesAfter counts w → WatchesAfter (counts ++ count ∷ []) v
unfolding seen_last
watches_on counts w v count s is period last stands = (
  stands.0 ++ s ∷ [],
  subst (λ p. AreSeen p (counts ++ count ∷ []) (stands.0 ++ s ∷ [])) (sym period) (seen_last counts w count s is stands).1,
  subst (λ l. IsLastCount (counts ++ count ∷ []) (stands.0 ++ s ∷ []) (length (counts ++ count ∷ [])) l) (sym last) (last_push counts stands.0 w.last count s stands.1.sizes stands.2),
)

pub none_seen : (period : ℕ) → AreSeen period [] []
none_seen period = record { sizes = refl; each = λ i c s p q. absurd (none-some c p) }

-- all counts

pub seen_from : (period : ℕ) (cs before : List ℕ) (answers : List Seen) (last : Option ℕ) → AreSeen period before answers → IsLastCount before answers (length before) last → AreSeen period (before ++ cs) (answers ++ seen_all period last cs)
seen_from period [] before answers last all is =
    subst (λ (l : List ℕ). AreSeen period l (answers ++ [])) (sym (append-nil before)) (subst (λ (l : List Seen). AreSeen period before l) (sym (append-nil answers)) all)
seen_from period (c ∷ cs) before answers last all is =
    let s : Seen = seen_after period last c in
    let rest : AreSeen period ((before ++ c ∷ []) ++ cs) ((answers ++ seen_after period last c ∷ []) ++ seen_all period (last_by last c (seen_after period last c)) cs) =
    seen_from period cs (before ++ c ∷ []) (answers ++ seen_after period last c ∷ []) (last_by last c (seen_after period last c)) (seen_push period before answers last c all is) (last_push before answers last c (seen_after period last c) all.sizes is) in
    subst (λ (l : List ℕ). AreSeen period l (answers ++ seen_all period last (c ∷ cs))) (append_assoc before (c ∷ []) cs)
    (subst (λ (l : List Seen). AreSeen period ((before ++ c ∷ []) ++ cs) l) (append_assoc answers (seen_after period last c ∷ []) (seen_all period (last_by last c (seen_after period last c)) cs)) rest)

last_unique : (counts : List ℕ) (answers : List Seen) (i : ℕ) (a b : Option ℕ) → IsLastCount counts answers i a → IsLastCount counts answers i b → a ≡ b
last_unique counts answers i None None u v = refl
last_unique counts answers i None (Some c) u v = absurd (false≢true (sym (u v.0 v.1 v.2 v.3) ∙ v.4))
last_unique counts answers i (Some c) None u v = absurd (false≢true (sym (v u.0 u.1 u.2 u.3) ∙ u.4))
last_unique counts answers i (Some c) (Some d) u v =
    elim (cases_order u.0 v.0) [
      | inl same ↦ sym u.5 ∙ (ap (slice_get counts) same ∙ v.5)
      | inr (inl lt) ↦ absurd (false≢true (sym (u.6 v.0 v.1 lt v.2 v.3) ∙ v.4))
      | inr (inr gt) ↦ absurd (false≢true (sym (v.6 u.0 u.1 gt u.2 u.3) ∙ u.4))
    ]

seen_one : (period : ℕ) (cs before : List ℕ) (answers rest : List Seen) (last : Option ℕ) → length answers ≡ length before → IsLastCount before answers (length before) last → AreSeen period (before ++ cs) (answers ++ rest) → rest ≡ seen_all period last cs
seen_one period [] before answers [] last same is all = refl
seen_one period [] before answers (r ∷ rest) last same is all =
    let sizes : length (answers ++ r ∷ rest) ≡ length (before ++ []) = all.sizes in
    absurd (omega (arith, length-append answers (r ∷ rest), length-append before []))
seen_one period (c ∷ cs) before answers [] last same is all =
    let sizes : length (answers ++ []) ≡ length (before ++ c ∷ cs) = all.sizes in
    absurd (omega (arith, length-append answers [], length-append before (c ∷ cs)))
seen_one period (c ∷ cs) before answers (r ∷ rest) last same is all =
    let at : slice_get (answers ++ r ∷ rest) (length before) ≡ Some r = subst (λ n. slice_get (answers ++ r ∷ rest) n ≡ Some r) same (get_middle answers r rest) in
    let x = all.each (length before) c r (get_middle before c cs) at in
    let one : x.0 ≡ last = last_unique before answers (length before) x.0 last (last_back before (c ∷ cs) answers (r ∷ rest) (length before) x.0 (omega arith) (omega arith) x.1) is in
    let said : r ≡ seen_after period last c = x.2 ∙ ap (λ (l : Option ℕ). seen_after period l c) one in
    let more : IsLastCount (before ++ c ∷ []) (answers ++ r ∷ []) (length (before ++ c ∷ [])) (last_by last c r) = last_push before answers last c r same is in
    let sizes : length (answers ++ r ∷ []) ≡ length (before ++ c ∷ []) = length_push answers r ∙ (ap (λ n. n + 1) same ∙ sym (length_push before c)) in
    let whole : AreSeen period ((before ++ c ∷ []) ++ cs) ((answers ++ r ∷ []) ++ rest) =
    subst (λ (l : List ℕ). AreSeen period l ((answers ++ r ∷ []) ++ rest)) (sym (append_assoc before (c ∷ []) cs))
    (subst (λ (l : List Seen). AreSeen period (before ++ c ∷ cs) l) (sym (append_assoc answers (r ∷ []) rest)) all) in
    let tail : rest ≡ seen_all period (last_by last c r) cs = seen_one period cs (before ++ c ∷ []) (answers ++ r ∷ []) rest (last_by last c r) sizes more whole in
    ap₂ (λ (x : Seen) (xs : List Seen). x ∷ xs) said (tail ∙ ap (λ (a : Seen). seen_all period (last_by last c a) cs) said)

pub none_last : IsLastCount [] [] 0 None
none_last = λ j s lt e. absurd (omega arith)

pub answers_are_one : SeenAreOne
answers_are_one period counts = (
  seen_from period counts [] [] None (none_seen period) none_last,
  λ a b u v. seen_one period counts [] [] a None refl none_last u ∙ sym (seen_one period counts [] [] b None refl none_last v),
)

-- indexes in small steps

way_up : (p g d : ℕ) → d < p → way p (g % p) ((g + d) % p) ≡ d
way_up p g d lt =
    let rest : g % p < p = mod-lt g (omega arith) in
    let whole : p * (g / p) + g % p ≡ g = div-add-mod g p in
    let sum : (g + d) + (p - g % p) ≡ p * (g / p) + (p + d) = omega arith in
    mod-add-mod (g + d) p (p - g % p) ∙ (ap (λ n. n % p) sum ∙ (mul-add-mod_self_left p (g / p) (p + d) ∙ (add-mod_left p d ∙ mod-eq_of_lt lt)))

way_down : (p k e : ℕ) → 0 < e → e < p → way p ((k + e) % p) (k % p) ≡ p - e
way_down p k e some lt =
    let rest : (k + e) % p < p = mod-lt (k + e) (omega arith) in
    let whole : p * ((k + e) / p) + (k + e) % p ≡ k + e = div-add-mod (k + e) p in
    let sum : k + (p - (k + e) % p) ≡ p * ((k + e) / p) + (p - e) = omega arith in
    let less : p - e < p = omega arith in
    mod-add-mod k p (p - (k + e) % p) ∙ (ap (λ n. n % p) sum ∙ (mul-add-mod_self_left p ((k + e) / p) (p - e) ∙ mod-eq_of_lt less))

-- what an index in range says, by its way
index_seen : (p g k d : ℕ) → 0 < p → way p (g % p) (k % p) ≡ d → seen_after p (Some (g % p)) (k % p) ≡ by_way p d
index_seen p g k d some e =
    let lt : k % p < p = mod-lt k some in
    ap (λ (b : Bool). if b then by_way p (way p (g % p) (k % p)) else seen.OutOfRange) (lt-ltb (k % p) p lt) ∙ ap (by_way p) e

-- what it adds, and the last count after it
record Steps (p g k : ℕ) (s : Seen) : Type 0 where
  adds : g + advance s ≡ max g k
  keeps : last_by (Some (g % p)) (k % p) s ≡ Some (max g k % p)

steps_same : (p g : ℕ) → Steps p g g seen.Same
steps_same p g = let top : max g g ≡ g = omega arith in record { adds = omega arith; keeps = ap (λ n. Some (n % p)) (sym top) }

steps_late : (p g k : ℕ) → k ≤ g → Steps p g k seen.Late
steps_late p g k le = let top : max g k ≡ g = omega arith in record { adds = omega arith; keeps = ap (λ n. Some (n % p)) (sym top) }

steps_next : (p g k : ℕ) → k ≡ g + 1 → Steps p g k seen.Next
steps_next p g k e = let top : max g k ≡ k = omega arith in record { adds = omega arith; keeps = ap (λ n. Some (n % p)) (sym top) }

steps_skipped : (p g k d : ℕ) → k ≡ g + d → 0 < d → Steps p g k (seen.Skipped (d - 1))
steps_skipped p g k d e some = let top : max g k ≡ k = omega arith in record { adds = omega arith; keeps = ap (λ n. Some (n % p)) (sym top) }

up_seen : (p g d : ℕ) → 2 ≤ p → d < p → 0 < d → (d ≡ 1) ⊎ (2 * d < p) → Steps p g (g + d) (seen_after p (Some (g % p)) ((g + d) % p))
up_seen p g d two lt some small =
    let seen_is = index_seen p g (g + d) d (omega arith) (way_up p g d lt) in
    elim (cases_eq d 1) [
      | inl one ↦ subst (λ s. Steps p g (g + d) s) (sym (seen_is ∙ ap (by_way p) one)) (steps_next p g (g + d) (omega arith))
      | inr more ↦
          let half : 2 * d < p = elim small [ inl e ↦ absurd (more e) | inr h ↦ h ] in
          let skip : by_way p d ≡ seen.Skipped (d - 1) = rw (ne_eqb d 0 (λ e. omega arith), ne_eqb d 1 more, lt-ltb (2 * d) p half) refl in
          subst (λ s. Steps p g (g + d) s) (sym (seen_is ∙ skip)) (steps_skipped p g (g + d) d refl some)
    ]

down_seen : (p k e : ℕ) → 2 ≤ p → 0 < e → 2 * e < p → Steps p (k + e) k (seen_after p (Some ((k + e) % p)) (k % p))
down_seen p k e two some half =
    let seen_is = index_seen p (k + e) k (p - e) (omega arith) (way_down p k e some (omega arith)) in
    let late : by_way p (p - e) ≡ seen.Late = rw (ne_eqb (p - e) 0 (λ x. omega arith), ne_eqb (p - e) 1 (λ x. omega arith), le-ltb (2 * (p - e)) p (omega arith)) refl in
    subst (λ s. Steps p (k + e) k s) (sym (seen_is ∙ late)) (steps_late p (k + e) k (omega arith))

index_step : (p g k : ℕ) → 2 ≤ p → (k ≡ g + 1) ⊎ (2 * ((k - g) + (g - k)) < p) → Steps p g k (seen_after p (Some (g % p)) (k % p))
index_step p g k two small =
    elim (cases_order g k) [
      | inl same ↦
          let seen_is = index_seen p g (g + 0) 0 (omega arith) (way_up p g 0 (omega arith)) in
          let here : g + 0 ≡ k = omega arith in
          subst (λ n. Steps p g n (seen_after p (Some (g % p)) (n % p))) here
          (subst (λ s. Steps p g (g + 0) s) (sym seen_is) (subst (λ n. Steps p g n seen.Same) (sym (add-zero g)) (steps_same p g)))
      | inr (inl less) ↦
          let d : ℕ = k - g in
          let at : g + (k - g) ≡ k = omega arith in
          let near : ((k - g) ≡ 1) ⊎ (2 * (k - g) < p) = elim small [ inl e ↦ inl (omega arith) | inr h ↦ inr (omega arith) ] in
          let within : k - g < p = elim near [ inl e ↦ omega arith | inr h ↦ omega arith ] in
          subst (λ n. Steps p g n (seen_after p (Some (g % p)) (n % p))) at (up_seen p g (k - g) two within (omega arith) near)
      | inr (inr more) ↦
          let at : k + (g - k) ≡ g = omega arith in
          let half : 2 * (g - k) < p = elim small [ inl e ↦ omega arith | inr h ↦ omega arith ] in
          subst (λ n. Steps p n k (seen_after p (Some (n % p)) (k % p))) at (down_seen p k (g - k) two (omega arith) half)
    ]

skips_from : (p g : ℕ) (ks : List ℕ) → 2 ≤ p → GoesOn p g ks → g + advances (seen_all p (Some (g % p)) (map (λ k. k % p) ks)) ≡ greatest_index g ks
skips_from p g [] two on = omega arith
skips_from p g (k ∷ ks) two on =
    let step = index_step p g k two on.0 in
    let adds : g + advance (seen_after p (Some (g % p)) (k % p)) ≡ max g k = step.adds in
    let rest : max g k + advances (seen_all p (Some (max g k % p)) (map (λ k. k % p) ks)) ≡ greatest_index (max g k) ks = skips_from p (max g k) ks two on.1 in
    let same : advances (seen_all p (last_by (Some (g % p)) (k % p) (seen_after p (Some (g % p)) (k % p))) (map (λ k. k % p) ks)) ≡ advances (seen_all p (Some (max g k % p)) (map (λ k. k % p) ks)) =
    ap (λ (l : Option ℕ). advances (seen_all p l (map (λ k. k % p) ks))) step.keeps in
    omega (arith, adds, rest, same)

pub skips_add_up : SkipsAddUp
skips_add_up p first ks answers period on all =
    let two : 2 ≤ p = period.0 in
    let lt : first % p < p = mod-lt first (omega arith) in
    let is = seen_one p (map (λ k. k % p) (first ∷ ks)) [] [] answers None refl none_last all in
    let begins : seen_after p None (first % p) ≡ seen.First = ap (λ (b : Bool). if b then seen.First else seen.OutOfRange) (lt-ltb (first % p) p lt) in
    let split : advances (seen_all p None (map (λ k. k % p) (first ∷ ks))) ≡ advances (seen_all p (Some (first % p)) (map (λ k. k % p) ks)) =
    ap (λ (s : Seen). advance s + advances (seen_all p (last_by None (first % p) s) (map (λ k. k % p) ks))) begins ∙ zero-add _ in
    ap (λ (l : List Seen). first + advances l) is ∙ (ap (λ n. first + n) split ∙ skips_from p first ks two on)

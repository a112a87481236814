-- The number that is nearest to the samples due.
use Rattle.std.proofs.Common.{◌≡◌, ◌⊎◌, ℕ, zero, suc, ◌+◌, ◌-◌, ◌*◌, ◌/◌, ◌%◌, ◌<◌, ◌≤◌, Bool, if◌then◌else◌, sym, refl, ap, ap₂, ◌∙◌, subst, arith, inl, inr}
use Rattle.std.proofs.lemmas.Bool.{cases_order, lt-ltb}
use Rattle.std.proofs.Math.Nat.{add-mod_left, div-add-mod, mod-add-mod, mod-eq_of_lt, mod-lt, mul-add-mod_self_left, mul-le-mul_right}
use Rattle.loss_core.specs.declared.advance.Advance.TheVariants.{Ahead, Back}
use Rattle.loss_core.specs.Advance.{IsAdvance, IsNearest, advance_of, distance, due, way_round}
use Rattle.loss_core.specs.computed.AdvanceSteps.{advance_by, greatest_upto, most, nearest_to}

-- a multiple by one more is a period more
more : (n u v : ℕ) → u < v → n * u + n ≤ n * v
more n u zero lt = absurd (omega arith)
more n zero (suc v) lt = omega arith
more n (suc u) (suc v) lt = let less : n * u + n ≤ n * v = more n u v (omega arith) in omega arith

-- two numbers with one rest are the same, or a period or more apart
pub apart : (n a b : ℕ) → a % n ≡ b % n → (a ≡ b) ⊎ ((a + n ≤ b) ⊎ (b + n ≤ a))
apart n a b same =
    let x : n * (a / n) + a % n ≡ a = div-add-mod a n in
    let y : n * (b / n) + b % n ≡ b = div-add-mod b n in
    elim (cases_order (a / n) (b / n)) [
      | inl e ↦ inl (sym x ∙ (ap₂ (λ (q r : ℕ). n * q + r) e same ∙ y))
      | inr (inl lt) ↦ let less : n * (a / n) + n ≤ n * (b / n) = more n (a / n) (b / n) lt in inr (inl (omega arith))
      | inr (inr gt) ↦ let less : n * (b / n) + n ≤ n * (a / n) = more n (b / n) (a / n) gt in inr (inr (omega arith))
    ]

-- the greatest number with a rest up to another
pub record IsGreatest (n rest top b : ℕ) : Type 0 where
  pub congruent : b % n ≡ rest
  pub upto : b ≤ top
  pub greatest : top < b + n

greatest_at : (n rest top q s : ℕ) → rest < n → n ≤ top → s < n → n * q + s ≡ top + (n - rest) → IsGreatest n rest top (top - s)
greatest_at n rest top zero s lt le below whole = absurd (omega arith)
greatest_at n rest top (suc q) s lt le below whole =
    let parts : n * q + rest ≡ top - s = omega arith in
    record {
      congruent = ap (λ b. b % n) (sym parts) ∙ (mul-add-mod_self_left n q rest ∙ mod-eq_of_lt lt);
      upto = omega arith;
      greatest = omega arith;
    }

pub greatest_is : (n rest top : ℕ) → rest < n → n ≤ top → IsGreatest n rest top (greatest_upto n rest top)
greatest_is n rest top lt le =
    greatest_at n rest top ((top + (n - rest)) / n) ((top + (n - rest)) % n) lt le (mod-lt (top + (n - rest)) (omega arith)) (div-add-mod (top + (n - rest)) n)

-- the greatest up to half a second above what is due is the nearest, and any number within less than half a second is it

near_enough : (n rest d top b : ℕ) → 0 < n → 2000000 * top ≤ 2 * d + 1000000 * n → 2 * d + 1000000 * n < 2000000 * (top + 1) → IsGreatest n rest top b
    → (other : ℕ) → other % n ≡ rest → (other ≡ b) ⊎ (((other < b) × (distance (1000000 * b) d ≤ distance (1000000 * other) d)) ⊎ (distance (1000000 * b) d < distance (1000000 * other) d))
near_enough n rest d top b some low high g other same =
    let upto : b ≤ top = g.upto in
    let over : top < b + n = g.greatest in
    elim (apart n other b (same ∙ sym g.congruent)) [
      | inl e ↦ inl e
      | inr (inl less) ↦ inr (inl (omega arith, omega arith))
      | inr (inr above) ↦ inr (inr (omega arith))
    ]

top_is : (n d : ℕ) → (2000000 * ((2 * d + 1000000 * n) / 2000000) ≤ 2 * d + 1000000 * n) × (2 * d + 1000000 * n < 2000000 * ((2 * d + 1000000 * n) / 2000000 + 1))
top_is n d =
    let whole : 2000000 * ((2 * d + 1000000 * n) / 2000000) + (2 * d + 1000000 * n) % 2000000 ≡ 2 * d + 1000000 * n = div-add-mod (2 * d + 1000000 * n) 2000000 in
    let below : (2 * d + 1000000 * n) % 2000000 < 2000000 = mod-lt (2 * d + 1000000 * n) (omega arith) in
    (omega arith, omega arith)

enough : (n d : ℕ) → 0 < n → 1000000 * n ≤ d → n ≤ (2 * d + 1000000 * n) / 2000000
enough n d some le = let t = top_is n d in let high : 2 * d + 1000000 * n < 2000000 * ((2 * d + 1000000 * n) / 2000000 + 1) = t.1 in omega arith

pub nearest_at : (n rest elapsed : ℕ) → rest < n → IsNearest n elapsed rest (nearest_to n elapsed rest)
nearest_at n rest elapsed lt =
    let d : ℕ = due n elapsed in
    let t = top_is n (due n elapsed) in
    let g = greatest_is n rest (most n elapsed) lt (enough n (due n elapsed) (omega arith) (omega arith)) in
    let near = near_enough n rest (due n elapsed) (most n elapsed) (nearest_to n elapsed rest) (omega arith) t.0 t.1 g in
    record {
      congruent = g.congruent;
      nearest = λ other same. elim (near other same) [
        | inl e ↦ subst (λ x. distance (1000000 * nearest_to n elapsed rest) (due n elapsed) ≤ distance (1000000 * x) (due n elapsed)) (sym e) (omega arith)
        | inr (inl w) ↦ w.1
        | inr (inr w) ↦ let it : distance (1000000 * nearest_to n elapsed rest) (due n elapsed) < distance (1000000 * other) (due n elapsed) = w in omega arith
      ];
      greater = λ other same alike. elim (near other same) [
        | inl e ↦ omega arith
        | inr (inl w) ↦ let it : other < nearest_to n elapsed rest = w.0 in omega arith
        | inr (inr w) ↦ let it : distance (1000000 * nearest_to n elapsed rest) (due n elapsed) < distance (1000000 * other) (due n elapsed) = w in absurd (omega arith)
      ];
    }

-- the nearest number is one
pub nearest_once : (n elapsed rest a b : ℕ) → IsNearest n elapsed rest a → IsNearest n elapsed rest b → a ≡ b
nearest_once n elapsed rest a b x y =
    let low : distance (1000000 * a) (due n elapsed) ≤ distance (1000000 * b) (due n elapsed) = x.nearest b y.congruent in
    let high : distance (1000000 * b) (due n elapsed) ≤ distance (1000000 * a) (due n elapsed) = y.nearest a x.congruent in
    let same : distance (1000000 * a) (due n elapsed) ≡ distance (1000000 * b) (due n elapsed) = omega arith in
    let le : b ≤ a = x.greater b y.congruent (sym same) in
    let ge : a ≤ b = y.greater a x.congruent same in
    omega arith

-- a number that is less than half a second off is the nearest
pub nearest_within : (n elapsed rest a : ℕ) → a % n ≡ rest → 2 * distance (1000000 * a) (due n elapsed) < 1000000 * n → IsNearest n elapsed rest a
nearest_within n elapsed rest a is near =
    record {
      congruent = is;
      nearest = λ other same. elim (apart n other a (same ∙ sym is)) [
        | inl e ↦ subst (λ x. distance (1000000 * a) (due n elapsed) ≤ distance (1000000 * x) (due n elapsed)) (sym e) (omega arith)
        | inr (inl less) ↦ omega arith
        | inr (inr above) ↦ omega arith
      ];
      greater = λ other same alike. elim (apart n other a (same ∙ sym is)) [
        | inl e ↦ omega arith
        | inr (inl less) ↦ omega arith
        | inr (inr above) ↦ absurd (omega arith)
      ];
    }

-- at most half a second on, the first number behind a period is nearest
pub next_at : (n elapsed : ℕ) → 1 < n → elapsed ≤ 500000 → nearest_to n elapsed 1 ≡ n + 1
next_at n elapsed some le =
    let t = top_is n (due n elapsed) in
    let low : 2000000 * most n elapsed ≤ 2 * due n elapsed + 1000000 * n = t.0 in
    let high : 2 * due n elapsed + 1000000 * n < 2000000 * (most n elapsed + 1) = t.1 in
    let g = greatest_is n 1 (most n elapsed) some (enough n (due n elapsed) (omega arith) (omega arith)) in
    let upto : nearest_to n elapsed 1 ≤ most n elapsed = g.upto in
    let over : most n elapsed < nearest_to n elapsed 1 + n = g.greatest in
    let few : elapsed * n ≤ 500000 * n = mul-le-mul_right n le in
    elim (apart n (nearest_to n elapsed 1) (n + 1) (g.congruent ∙ sym (add-mod_left n 1 ∙ mod-eq_of_lt some))) [
      | inl e ↦ e
      | inr (inl less) ↦ absurd (omega arith)
      | inr (inr above) ↦ absurd (omega arith)
    ]

-- the way to the next count is one
pub way_to_next : (n from : ℕ) → 1 < n → from < n → way_round n from ((from + 1) % n) ≡ 1
way_to_next n from some lt =
    let whole : from + 1 + (n - from) ≡ n + 1 = omega arith in
    mod-add-mod (from + 1) n (n - from) ∙ (ap (λ x. x % n) whole ∙ (add-mod_left n 1 ∙ mod-eq_of_lt some))

-- so it is one sample on, where it comes at most half a second later
pub one_on : (n elapsed from : ℕ) → 1 < n → elapsed ≤ 500000 → from < n → advance_by n elapsed from ((from + 1) % n) ≡ Ahead 1
one_on n elapsed from some le lt =
    ap (λ rest. advance_of n (nearest_to n elapsed rest)) (way_to_next n from some lt) ∙
    (ap (advance_of n) (next_at n elapsed some le) ∙
    (ap (λ (b : Bool). if b then Ahead (n + 1 - n) else Back (n - (n + 1))) (lt-ltb n (n + 1) (omega arith)) ∙ ap Ahead (omega arith)))

-- the advance that is computed is the advance
pub advance_is : (n elapsed from to : ℕ) → 0 < n → IsAdvance n elapsed from to (advance_by n elapsed from to)
advance_is n elapsed from to some = (nearest_to n elapsed (way_round n from to), nearest_at n (way_round n from to) elapsed (mod-lt (to + (n - from)) some), refl)

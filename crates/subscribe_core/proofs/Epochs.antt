-- Starts, expiries and best positions: what is unique, and in which order they come.
use Rattle.std.proofs.Common.{◌≡◌, ℕ, zero, suc, ◌+◌, ◌<◌, ◌≤◌, ◌⊎◌, inl, inr, Option, Some, None, sym, refl, ap, ◌∙◌, subst, arith, le_refl}
use Rattle.std.proofs.lemmas.Bool.{cases_order, cases_lt}
use Rattle.std.proofs.lemmas.Option.{none-some, same_Some}
use Rattle.subscribe_core.specs.declared.registers.Facts.{Facts}
use Rattle.subscribe_core.specs.Epoch.{Trace, IsBefore, IsBest, IsOver, Ends, IsFirstGood, IsStart, First, Next}

-- the order of the numbers

pub IsBefore-irrefl : (f : Facts) → ¬ IsBefore f f
IsBefore-irrefl f (inl a) = omega arith
IsBefore-irrefl f (inr a) = omega arith

pub IsBefore-trans : (f g h : Facts) → IsBefore f g → IsBefore g h → IsBefore f h
IsBefore-trans f g h (inl a) (inl b) = inl (omega arith)
IsBefore-trans f g h (inl a) (inr b) = inl (omega arith)
IsBefore-trans f g h (inr a) (inl b) = inl (omega arith)
IsBefore-trans f g h (inr a) (inr b) = inr (omega arith)

-- what doesn't come after f comes before what does
pub IsBefore-between : (f g h : Facts) → ¬ IsBefore f h → IsBefore f g → IsBefore h g
IsBefore-between f g h past before =
    elim (cases_order f.state h.state) [
      | inl e ↦ elim (cases_lt f.sequence h.sequence) [
        | inl lt ↦ absurd (past (inr (e, lt)))
        | inr ge ↦ elim before [ inl a ↦ inl (omega arith) | inr a ↦ inr (omega arith) ]
      ]
      | inr (inl lt) ↦ absurd (past (inl lt))
      | inr (inr gt) ↦ elim before [ inl a ↦ inl (omega arith) | inr a ↦ inl (omega arith) ]
    ]

-- best positions

pub best_unique : {t : Trace} {s k p q : ℕ} {f g : Facts} → IsBest t s k p f → IsBest t s k q g → p ≡ q
best_unique {t} {s} {k} {p} {q} {f} {g} a b =
    elim (cases_order p q) [
      | inl e ↦ e
      | inr (inl lt) ↦ absurd (a.greatest q g b.from b.below b.good (b.first p f a.from lt a.good))
      | inr (inr gt) ↦ absurd (b.greatest p f a.from a.below a.good (a.first q g b.from gt b.good))
    ]

pub best_facts : {t : Trace} {s k p q : ℕ} {f g : Facts} → IsBest t s k p f → IsBest t s k q g → f ≡ g
best_facts {t} {s} {k} {p} {q} {f} {g} a b =
    same_Some f g (sym a.good ∙ ap t.good (best_unique a b) ∙ b.good)

-- expiries

pub ends_unique : {t : Trace} {s k j : ℕ} → Ends t s k → Ends t s j → k ≡ j
ends_unique {t} {s} {k} {j} a b =
    elim (cases_order k j) [
      | inl e ↦ e
      | inr (inl lt) ↦ absurd (b.first k lt a.over)
      | inr (inr gt) ↦ absurd (a.first j gt b.over)
    ]

-- what is over at k started before
pub over_after : (t : Trace) (s k : ℕ) → IsOver t s k → s < k
over_after t s k (inl d) = d.after
over_after t s k (inr x) = x.0

-- starts

pub good_not_none : (t : Trace) (i : ℕ) (f : Facts) → t.good i ≡ Some f → t.good i ≡ None → ⊥
good_not_none t i f a b = none-some f (sym b ∙ a)

-- a start is possible from k on
abbrev pub MayStart : Trace → ℕ → Type 0
MayStart t k = (k ≡ 0) ⊎ ((r : ℕ) × IsStart t r × Ends t r k)

pub start_good : {t : Trace} {s : ℕ} → IsStart t s → (f : Facts) × (t.good s ≡ Some f)
start_good (First g) = (g.facts, g.good)
start_good (Next u e g) = (g.facts, g.good)

pub start_from : {t : Trace} {s : ℕ} → IsStart t s → (k : ℕ) × MayStart t k × IsFirstGood t k s
start_from (First g) = (0, inl refl, g)
start_from (Next {r = r} {k = k} u e g) = (k, inr (r, u, e), g)

pub start_at : (t : Trace) (k s : ℕ) → MayStart t k → IsFirstGood t k s → IsStart t s
start_at t k s (inl e) g = First (subst (λ x. IsFirstGood t x s) e g)
start_at t k s (inr w) g = Next w.1 w.2 g

-- a start before the first good position from k on is before k
pub before_first : {t : Trace} {k s r : ℕ} → IsFirstGood t k s → IsStart t r → r < s → r < k
before_first {t} {k} {s} {r} g u lt =
    elim (cases_lt r k) [
      | inl below ↦ below
      | inr from ↦ absurd (good_not_none t r (start_good u).0 (start_good u).1 (g.first r from lt))
    ]

-- what started before k is over at k or before
pub settled : (n : ℕ) (t : Trace) (k : ℕ) → k ≤ n → MayStart t k → (r : ℕ) → IsStart t r → r < k → (j : ℕ) × (j ≤ k) × Ends t r j
settled n t k kn (inl e) r u lt = absurd (omega arith)
settled zero t k kn (inr w) r u lt = absurd (omega arith)
settled (suc n) t k kn (inr w) r u lt =
    elim (cases_order r w.0) [
      | inl e ↦ (k, le_refl k, subst (λ x. Ends t x k) (sym e) w.2)
      | inr (inl less) ↦
          let b = start_from w.1 in
          let after : w.0 < k = over_after t w.0 k w.2.over in
          let from : b.0 ≤ w.0 = b.2.from in
          let x = settled n t b.0 (omega arith) b.1 r u (before_first b.2 u less) in
          (x.0, omega arith, x.2)
      | inr (inr more) ↦
          let b = start_from u in
          let from : b.0 ≤ r = b.2.from in
          let x = settled n t b.0 (omega arith) b.1 w.0 w.1 (before_first b.2 w.1 more) in
          let same : x.0 ≡ k = ends_unique x.2 w.2 in
          absurd (omega arith)
    ]

-- what started before another start is over there or before
pub later : {t : Trace} {s r : ℕ} → IsStart t s → IsStart t r → s < r → (j : ℕ) × (j ≤ r) × Ends t s j
later {t} {s} {r} u v lt =
    let b = start_from v in
    let from : b.0 ≤ r = b.2.from in
    let x = settled b.0 t b.0 (le_refl b.0) b.1 s u (before_first b.2 u lt) in
    (x.0, omega arith, x.2)

-- there is a first good position at or after k, if there is any
first_here : (t : Trace) (k i : ℕ) (o : Option Facts) → t.good k ≡ o → k ≤ i → (m : ℕ) × (m ≤ i) × IsFirstGood t (suc k) m → (m : ℕ) × (m ≤ i) × IsFirstGood t k m
first_here t k i (Some g) is le x =
    (k, le, record { from = le_refl k; facts = g; good = is; first = λ j a b. absurd (omega arith) })
first_here t k i None is le x =
    let from : suc k ≤ x.0 = x.2.from in (
      x.0,
      x.1,
      record {
        from = omega arith;
        facts = x.2.facts;
        good = x.2.good;
        first = λ j a b. elim (cases_order j k) [
          | inl e ↦ ap t.good e ∙ is
          | inr (inl lt) ↦ absurd (omega arith)
          | inr (inr gt) ↦ x.2.first j gt b
        ];
      },
    )

pub first_good : (d : ℕ) (t : Trace) (k i : ℕ) (f : Facts) → i ≡ k + d → t.good i ≡ Some f → (m : ℕ) × (m ≤ i) × IsFirstGood t k m
first_good zero t k i f e h = (
  i,
  le_refl i,
  record { from = omega arith; facts = f; good = h; first = λ j a b. absurd (omega arith) },
)
first_good (suc d) t k i f e h =
    first_here t k i (t.good k) refl (omega arith) (first_good d t (suc k) i f (omega arith) h)

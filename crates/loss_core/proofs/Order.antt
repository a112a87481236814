-- The order of pairs of stNum and sqNum.
use Rattle.std.proofs.Common.{◌≡◌, ◌⊎◌, ℕ, ◌<◌, ◌≤◌, true, false, sym, refl, ap₂, ◌∙◌, inl, inr, arith}
use Rattle.std.proofs.lemmas.Bool.{cases_order, cases_lt, lt-ltb, le-ltb, ne_eqb, eq-eqb, false≢true, or_left, or_right, or_from, and_from, and_left, and_right}
use Rattle.std.specs.Prelude.{◌==◌, ◌&&◌, nat_lt}
use Rattle.loss_core.specs.declared.sender.Pair.{Pair}
use Rattle.loss_core.specs.Sender.{is_above}

-- a pair stands above another, or at most there
abbrev pub Above : Pair → Pair → Type 0
Above a b = (b.state < a.state) ⊎ ((b.state ≡ a.state) × (b.sequence < a.sequence))

abbrev pub AtMost : Pair → Pair → Type 0
AtMost a b = (a.state < b.state) ⊎ ((a.state ≡ b.state) × (a.sequence ≤ b.sequence))

pub above_is : (a b : Pair) → Above a b → is_above a b ≡ true
above_is a b (inl lt) = or_left (nat_lt b.state a.state) (b.state == a.state && nat_lt b.sequence a.sequence) (lt-ltb b.state a.state lt)
above_is a b (inr x) =
    or_right (nat_lt b.state a.state) (b.state == a.state && nat_lt b.sequence a.sequence)
    (and_from (b.state == a.state) (nat_lt b.sequence a.sequence) (eq-eqb b.state a.state x.0) (lt-ltb b.sequence a.sequence x.1))

pub at_most_is : (a b : Pair) → AtMost a b → is_above a b ≡ false
at_most_is a b (inl lt) =
    or_from (nat_lt b.state a.state) (b.state == a.state && nat_lt b.sequence a.sequence) (le-ltb b.state a.state (omega arith))
    (and_left (b.state == a.state) (nat_lt b.sequence a.sequence) (ne_eqb b.state a.state (λ e. omega arith)))
at_most_is a b (inr x) =
    let same : a.state ≡ b.state = x.0 in
    or_from (nat_lt b.state a.state) (b.state == a.state && nat_lt b.sequence a.sequence) (le-ltb b.state a.state (omega arith))
    (and_right (b.state == a.state) (nat_lt b.sequence a.sequence) (le-ltb b.sequence a.sequence x.1))

pub which : (a b : Pair) → Above a b ⊎ AtMost a b
which a b =
    elim (cases_order a.state b.state) [
      | inl same ↦ elim (cases_lt b.sequence a.sequence) [ inl lt ↦ inl (inr (sym same, lt)) | inr ge ↦ inr (inr (same, ge)) ]
      | inr (inl lt) ↦ inr (inl lt)
      | inr (inr gt) ↦ inl (inl gt)
    ]

pub is_then_above : (a b : Pair) → is_above a b ≡ true → Above a b
is_then_above a b e = elim (which a b) [ inl it ↦ it | inr other ↦ absurd (false≢true (sym (at_most_is a b other) ∙ e)) ]

pub not_then_at_most : (a b : Pair) → is_above a b ≡ false → AtMost a b
not_then_at_most a b e = elim (which a b) [ inl other ↦ absurd (false≢true (sym e ∙ above_is a b other)) | inr it ↦ it ]

pub not_above_itself : (a : Pair) → is_above a a ≡ false
not_above_itself a = at_most_is a a (inr (refl, omega arith))

above_chain : (a b c : Pair) → AtMost a b → Above c b → AtMost a c
above_chain a b c (inl x) (inl y) = inl (omega arith)
above_chain a b c (inl x) (inr y) = let same : b.state ≡ c.state = y.0 in inl (omega arith)
above_chain a b c (inr x) (inl y) = let same : a.state ≡ b.state = x.0 in inl (omega arith)
above_chain a b c (inr x) (inr y) =
    let same : a.state ≡ b.state = x.0 in
    let like : b.state ≡ c.state = y.0 in
    let le : a.sequence ≤ b.sequence = x.1 in
    let lt : b.sequence < c.sequence = y.1 in
    inr (omega arith, omega arith)

-- what is not above a pair is not above one that is above that
pub not_above_more : (a b c : Pair) → is_above a b ≡ false → is_above c b ≡ true → is_above a c ≡ false
not_above_more a b c x y = at_most_is a c (above_chain a b c (not_then_at_most a b x) (is_then_above c b y))

above_over : (a b c : Pair) → AtMost a b → Above c b → Above c a
above_over a b c (inl x) (inl y) = inl (omega arith)
above_over a b c (inl x) (inr y) = let same : b.state ≡ c.state = y.0 in inl (omega arith)
above_over a b c (inr x) (inl y) = let same : a.state ≡ b.state = x.0 in inl (omega arith)
above_over a b c (inr x) (inr y) =
    let same : a.state ≡ b.state = x.0 in
    let like : b.state ≡ c.state = y.0 in
    let le : a.sequence ≤ b.sequence = x.1 in
    let lt : b.sequence < c.sequence = y.1 in
    inr (omega arith, omega arith)

-- what is above a pair is above one that is not
pub above_lower : (a b c : Pair) → is_above a b ≡ false → is_above c b ≡ true → is_above c a ≡ true
above_lower a b c x y = above_is c a (above_over a b c (not_then_at_most a b x) (is_then_above c b y))

never : (a b : Pair) → Above a b → Above b a → ⊥
never a b (inl x) (inl y) = omega arith
never a b (inl x) (inr y) = let same : a.state ≡ b.state = y.0 in omega arith
never a b (inr x) (inl y) = let same : b.state ≡ a.state = x.0 in omega arith
never a b (inr x) (inr y) = let l : b.sequence < a.sequence = x.1 in let g : a.sequence < b.sequence = y.1 in omega arith

-- what is above a pair that is above another is above that
pub above_both : (a b c : Pair) → is_above c b ≡ true → is_above b a ≡ true → is_above c a ≡ true
above_both a b c x y = above_lower a b c (elim (which a b) [ inl high ↦ absurd (never b a (is_then_above b a y) high) | inr low ↦ at_most_is a b low ]) x

one_of : (a b : Pair) → AtMost a b → AtMost b a → a ≡ b
one_of a b (inl x) (inl y) = absurd (omega arith)
one_of a b (inl x) (inr y) = let same : b.state ≡ a.state = y.0 in absurd (omega arith)
one_of a b (inr x) (inl y) = let same : a.state ≡ b.state = x.0 in absurd (omega arith)
one_of a b (inr x) (inr y) =
    let le : a.sequence ≤ b.sequence = x.1 in
    let ge : b.sequence ≤ a.sequence = y.1 in
    let like : a.sequence ≡ b.sequence = omega arith in
    ap₂ (λ (s q : ℕ). record { state = s; sequence = q }) x.0 like

-- neither of two pairs is above the other where they are one
pub one_where_neither : (a b : Pair) → is_above a b ≡ false → is_above b a ≡ false → a ≡ b
one_where_neither a b x y = one_of a b (not_then_at_most a b x) (not_then_at_most b a y)

-- When a block takes simulated frames.
use Rattle.std.proofs.Common.{◌≡◌, ℕ, zero, suc, ◌+◌, ◌<◌, Bool, true, false, not, ◌&&◌, ◌||◌, nat_lt, sym, ap, ◌∙◌, arith, inl, inr, ◌⊎◌, lt-ltb}
use Rattle.std.proofs.lemmas.Bool.{cases_lt, cases_Bool, false≢true, and_parts, and_from, or_cases, or_left, or_right, and_left, and_right, ltb-true, or_parts}
use Rattle.subscribe_core.specs.Simulation.{some_below}

pub some_is : (n : ℕ) (p : ℕ → Bool) → some_below n p ≡ true → (j : ℕ) × (j < n) × (p j ≡ true)
some_is zero p e = absurd (false≢true e)
some_is (suc n) p e =
    elim (or_cases (p n) (some_below n p) e) [
      | inl here ↦ (n, omega arith, here)
      | inr below ↦ let x = some_is n p below in let lt : x.0 < n = x.1 in (x.0, omega arith, x.2)
    ]

pub some_from : (n : ℕ) (p : ℕ → Bool) (j : ℕ) → j < n → p j ≡ true → some_below n p ≡ true
some_from zero p j lt e = absurd (omega arith)
some_from (suc n) p j lt e =
    elim (cases_lt j n) [
      | inl below ↦ or_right (p n) (some_below n p) (some_from n p j below e)
      | inr here ↦ let same : j ≡ n = omega arith in or_left (p n) (some_below n p) (ap p (sym same) ∙ e)
    ]

-- the two directions of the definition, for any tests of an invitation and of setting off
abbrev pub Taken : (ℕ → Bool) → (ℕ → Bool) → ℕ → Type 0
Taken a off i = (j : ℕ) × (j < i) × (a j ≡ true) × ((k : ℕ) → j < k → k < i → off k ≡ true → ⊥)

abbrev pub taken_by : (ℕ → Bool) → (ℕ → Bool) → ℕ → Bool
taken_by a off i = some_below i (λ j. a j && not (some_below i (λ k. nat_lt j k && off k)))

pub taken_is : (a off : ℕ → Bool) (i : ℕ) → taken_by a off i ≡ true → Taken a off i
taken_is a off i e =
    let x = some_is i (λ j. a j && not (some_below i (λ k. nat_lt j k && off k))) e in
    let parts = and_parts (a x.0) (not (some_below i (λ k. nat_lt x.0 k && off k))) x.2 in (
      x.0,
      x.1,
      parts.0,
      λ k lt le is.
          let some : some_below i (λ k. nat_lt x.0 k && off k) ≡ true =
          some_from i (λ k. nat_lt x.0 k && off k) k le (and_from (nat_lt x.0 k) (off k) (lt-ltb x.0 k lt) is) in
          false≢true (sym (ap not some) ∙ parts.1),
    )

pub taken_from : (a off : ℕ → Bool) (i : ℕ) → Taken a off i → taken_by a off i ≡ true
taken_from a off i w =
    some_from i (λ j. a j && not (some_below i (λ k. nat_lt j k && off k))) w.0 w.1
    (and_from (a w.0) (not (some_below i (λ k. nat_lt w.0 k && off k))) w.2
    (elim (cases_Bool (some_below i (λ k. nat_lt w.0 k && off k))) [
      | inr none ↦ ap not none
      | inl some ↦
          let x = some_is i (λ k. nat_lt w.0 k && off k) some in
          let parts = and_parts (nat_lt w.0 x.0) (off x.0) x.2 in
          absurd (w.3 x.0 (ltb-true w.0 x.0 parts.0) x.1 parts.1)
    ]))

-- one event on
pub taken_kept : (a off : ℕ → Bool) (i : ℕ) → off i ≡ false → Taken a off i → Taken a off (i + 1)
taken_kept a off i e w =
    let lt : w.0 < i = w.1 in (
      w.0,
      omega arith,
      w.2,
      λ k after below is. elim (cases_lt k i) [
        | inl less ↦ w.3 k after less is
        | inr ge ↦ let same : k ≡ i = omega arith in false≢true (sym e ∙ (ap off (sym same) ∙ is))
      ],
    )

pub taken_here : (a off : ℕ → Bool) (i : ℕ) → a i ≡ true → Taken a off (i + 1)
taken_here a off i e = (i, omega arith, e, λ k after below is. absurd (omega arith))

pub taken_back : (a off : ℕ → Bool) (i : ℕ) → Taken a off (i + 1) → Taken a off i ⊎ (a i ≡ true)
taken_back a off i w =
    elim (cases_lt w.0 i) [
      | inl less ↦ inl (w.0, less, w.2, λ k after below is. w.3 k after (omega arith) is)
      | inr ge ↦
          let lt : w.0 < i + 1 = w.1 in
          let same : w.0 ≡ i = omega arith in
          inr (ap a (sym same) ∙ w.2)
    ]

pub taken_off : (a off : ℕ → Bool) (i : ℕ) → a i ≡ false → off i ≡ true → Taken a off (i + 1) → ⊥
taken_off a off i no_invite e w =
    elim (cases_lt w.0 i) [
      | inl less ↦ w.3 i less (omega arith) e
      | inr ge ↦
          let lt : w.0 < i + 1 = w.1 in
          let same : w.0 ≡ i = omega arith in
          false≢true (sym no_invite ∙ (ap a (sym same) ∙ w.2))
    ]

-- it changes only where there is a switch
pub taken_same : (a off : ℕ → Bool) (i : ℕ) → ((a i && not (taken_by a off i)) || (off i && taken_by a off i)) ≡ false → taken_by a off (i + 1) ≡ taken_by a off i
taken_same a off i same =
    let parts = or_parts (a i && not (taken_by a off i)) (off i && taken_by a off i) same in
    elim (cases_Bool (taken_by a off i)) [
      | inl yes_taken ↦
          let stays : off i ≡ false =
          elim (cases_Bool (off i)) [
            | inr f ↦ f
            | inl t ↦ absurd (false≢true (sym parts.1 ∙ and_from (off i) (taken_by a off i) t yes_taken))
          ] in
          taken_from a off (i + 1) (taken_kept a off i stays (taken_is a off i yes_taken)) ∙ sym yes_taken
      | inr not_taken ↦
          elim (cases_Bool (taken_by a off (i + 1))) [
            | inr f ↦ f ∙ sym not_taken
            | inl t ↦
                elim (taken_back a off i (taken_is a off (i + 1) t)) [
                  | inl w ↦ absurd (false≢true (sym not_taken ∙ taken_from a off i w))
                  | inr here ↦
                      absurd (false≢true (sym parts.0 ∙ and_from (a i) (not (taken_by a off i)) here (ap not not_taken)))
                ]
          ]
    ]

-- one event on, as a flag is kept
pub taken_step : (a off : ℕ → Bool) (i : ℕ) → (off i ≡ true → a i ≡ false) → taken_by a off (i + 1) ≡ (not (off i) && (a i || taken_by a off i))
taken_step a off i apart =
    elim (cases_Bool (off i)) [
      | inl o ↦
          elim (cases_Bool (taken_by a off (i + 1))) [
            | inr f ↦ f ∙ sym (and_left (not (off i)) (a i || taken_by a off i) (ap not o))
            | inl t ↦ absurd (taken_off a off i (apart o) o (taken_is a off (i + 1) t))
          ]
      | inr o ↦
          elim (cases_Bool (taken_by a off (i + 1))) [
            | inl t ↦
                t ∙ sym (and_from (not (off i)) (a i || taken_by a off i) (ap not o)
                (elim (taken_back a off i (taken_is a off (i + 1) t)) [
                  | inl w ↦ or_right (a i) (taken_by a off i) (taken_from a off i w)
                  | inr here ↦ or_left (a i) (taken_by a off i) here
                ]))
            | inr f ↦
                elim (cases_Bool (a i || taken_by a off i)) [
                  | inr none ↦ f ∙ sym (and_right (not (off i)) (a i || taken_by a off i) none)
                  | inl some ↦
                      elim (or_cases (a i) (taken_by a off i) some) [
                        | inl here ↦ absurd (false≢true (sym f ∙ taken_from a off (i + 1) (taken_here a off i here)))
                        | inr w ↦
                            absurd (false≢true (sym f ∙ taken_from a off (i + 1) (taken_kept a off i o (taken_is a off i w))))
                      ]
                ]
          ]
    ]

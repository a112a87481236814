-- The laws of epochs.
use Rattle.std.proofs.Common.{◌≡◌, ℕ, zero, suc, ◌+◌, ◌-◌, ◌<◌, ◌≤◌, inl, inr, Option, Some, None, sym, refl, ap, ◌∙◌, arith, le_refl}
use Rattle.std.proofs.lemmas.Bool.{cases_lt, cases_eq}
use Rattle.std.proofs.lemmas.Option.{none-some, same_Some}
use Rattle.subscribe_core.specs.declared.registers.Facts.{Facts}
use Rattle.subscribe_core.specs.Epoch.{Trace, IsLastStart, Acts}
use Rattle.subscribe_core.specs.Laws.{IsIn, NumbersRise, NumbersAreBelow, IsActedOn, ActedWhereInTime}
use Rattle.subscribe_core.proofs.Epochs.{start_good}
use Rattle.subscribe_core.proofs.OneBlock.{last_unique}

-- the epoch goes back to its start
epoch_back : (t : Trace) (s i j : ℕ) → IsLastStart t i s → s ≤ j → j ≤ i → IsLastStart t j s
epoch_back t s i j l from within =
    record { start = l.start; within = from; last = λ r u le. l.last r u (omega arith) }

-- what is acted on is above what came before it in its epoch
acts_above : (t : Trace) (s i j : ℕ) (f g : Facts) → IsIn t s i f → IsIn t s j g → i < j → Acts t j → f.state < g.state
acts_above t s i j f g a b lt w =
    let same : w.start ≡ s = last_unique w.epoch b.epoch in
    let from : s ≤ i = a.epoch.within in
    let facts : w.facts ≡ g = same_Some w.facts g (sym w.good ∙ b.good) in
    let above : f.state < w.facts.state = w.above i f (omega arith) lt a.good in
    let state : w.facts.state ≡ g.state = ap (λ (x : Facts). x.state) facts in
    omega arith

pub numbers_rise : (t : Trace) → NumbersRise t
numbers_rise t s i j f g a b lt u v = acts_above t s i j f g a b lt v

-- the position acted on with the greatest number from s to m
record Leads (t : Trace) (s m a : ℕ) (f : Facts) : Type 0 where
  within : a ≤ m
  in_epoch : IsIn t s a f
  acts : Acts t a
  above : (j : ℕ) (g : Facts) → s ≤ j → j ≤ m → t.good j ≡ Some g → g.state ≤ f.state

lead_here : (t : Trace) (s m : ℕ) (f : Facts) → IsLastStart t m s → t.good m ≡ Some f → ((j : ℕ) (g : Facts) → s ≤ j → j < m → t.good j ≡ Some g → g.state < f.state) → Leads t s m m f
lead_here t s m f l e above =
    record {
      within = le_refl m;
      in_epoch = record { good = e; epoch = l };
      acts = record { facts = f; good = e; start = s; epoch = l; above = above };
      above = λ j g from le is. elim (cases_lt j m) [
        | inl lt ↦ let less : g.state < f.state = above j g from lt is in omega arith
        | inr ge ↦
            let here : j ≡ m = omega arith in
            let same : g ≡ f = same_Some g f (sym is ∙ ap t.good here ∙ e) in
            let state : g.state ≡ f.state = ap (λ (x : Facts). x.state) same in
            omega arith
      ];
    }

lead_kept : (t : Trace) (s m a : ℕ) (f : Facts) → Leads t s m a f → ((g : Facts) → t.good (suc m) ≡ Some g → g.state ≤ f.state) → Leads t s (suc m) a f
lead_kept t s m a f x new =
    let within : a ≤ m = x.within in
    record {
      within = omega arith;
      in_epoch = x.in_epoch;
      acts = x.acts;
      above = λ j g from le is. elim (cases_lt j (suc m)) [
        | inl lt ↦ x.above j g from (omega arith) is
        | inr ge ↦ let here : j ≡ suc m = omega arith in new g (sym (ap t.good here) ∙ is)
      ];
    }

lead_more : (t : Trace) (s m a : ℕ) (f : Facts) → IsLastStart t (suc m) s → Leads t s m a f → (o : Option Facts) → t.good (suc m) ≡ o → (b : ℕ) × (g : Facts) × Leads t s (suc m) b g
lead_more t s m a f l x None e = (a, f, lead_kept t s m a f x (λ g is. absurd (none-some g (sym e ∙ is))))
lead_more t s m a f l x (Some g) e =
    elim (cases_lt f.state g.state) [
      | inl lt ↦ (
        suc m,
        g,
        lead_here t s (suc m) g l e (λ j h from less is.
            let le : h.state ≤ f.state = x.above j h from (omega arith) is in
            omega arith),
      )
      | inr ge ↦ (
        a,
        f,
        lead_kept t s m a f x (λ h is.
            let same : g ≡ h = same_Some g h (sym e ∙ is) in
            let state : g.state ≡ h.state = ap (λ (x : Facts). x.state) same in
            omega arith),
      )
    ]

leads : (d : ℕ) (t : Trace) (s i m : ℕ) → IsLastStart t i s → m ≡ s + d → m ≤ i → (a : ℕ) × (f : Facts) × Leads t s m a f
leads zero t s i m l e le =
    let g = start_good l.start in
    let here : m ≡ s = omega arith in (
      m,
      g.0,
      lead_here t s m g.0 (epoch_back t s i m l (omega arith) le) (ap t.good here ∙ g.1) (λ j h from lt is. absurd (omega arith)),
    )
leads (suc d) t s i zero l e le = absurd (omega arith)
leads (suc d) t s i (suc m) l e le =
    let x = leads d t s i m l (omega arith) (omega arith) in
    lead_more t s m x.0 x.1 (epoch_back t s i (suc m) l (omega arith) le) x.2 (t.good (suc m)) refl

pub numbers_below : (t : Trace) → NumbersAreBelow t
numbers_below t s i f a =
    let from : s ≤ i = a.epoch.within in
    let x = leads (i - s) t s i i a.epoch (omega arith) (le_refl i) in (
      x.0,
      x.1,
      record {
        within = x.2.within;
        in_epoch = x.2.in_epoch;
        acts = x.2.acts;
        newest = λ j lt le w.
            let start : s ≤ x.0 = x.2.in_epoch.epoch.within in
            let here : IsIn t s j w.facts = record { good = w.good; epoch = epoch_back t s i j a.epoch (omega arith) le } in
            let above : x.1.state < w.facts.state = acts_above t s x.0 j x.1 w.facts x.2.in_epoch here lt w in
            let below : w.facts.state ≤ x.1.state = x.2.above j w.facts (omega arith) le w.good in
            omega arith;
      },
      x.2.above i f from (le_refl i) a.good,
    )

-- the first good position of the epoch with the number
record IsFirstOf (t : Trace) (s i number : ℕ) (f : Facts) : Type 0 where
  good : t.good i ≡ Some f
  from : s ≤ i
  state : f.state ≡ number
  first : (j : ℕ) (g : Facts) → s ≤ j → j < i → t.good j ≡ Some g → g.state ≡ number → ⊥

-- position k is the one, or it is looked for after k
first_or : (t : Trace) (s k i number : ℕ) → s ≤ k → k ≤ i → ((j : ℕ) (g : Facts) → s ≤ j → j < k → t.good j ≡ Some g → g.state ≡ number → ⊥) → (o : Option Facts) → t.good k ≡ o → (((j : ℕ) (g : Facts) → s ≤ j → j < suc k → t.good j ≡ Some g → g.state ≡ number → ⊥) → (m : ℕ) × (g : Facts) × (m ≤ i) × IsFirstOf t s m number g) → (m : ℕ) × (g : Facts) × (m ≤ i) × IsFirstOf t s m number g
first_or t s k i number from le none None e rest =
    rest (λ j g a lt is b. elim (cases_lt j k) [
      | inl less ↦ none j g a less is b
      | inr ge ↦ let here : j ≡ k = omega arith in none-some g (sym e ∙ ap t.good (sym here) ∙ is)
    ])
first_or t s k i number from le none (Some f) e rest =
    elim (cases_eq f.state number) [
      | inl same ↦ (k, f, le, record { good = e; from = from; state = same; first = none })
      | inr differ ↦
          rest (λ j g a lt is b. elim (cases_lt j k) [
            | inl less ↦ none j g a less is b
            | inr ge ↦
                let here : j ≡ k = omega arith in
                let facts : f ≡ g = same_Some f g (sym e ∙ ap t.good (sym here) ∙ is) in
                differ (ap (λ (x : Facts). x.state) facts ∙ b)
          ])
    ]

-- there is one from k on, if there is any
first_of : (d : ℕ) (t : Trace) (s k i number : ℕ) (f : Facts) → s ≤ k → ((j : ℕ) (g : Facts) → s ≤ j → j < k → t.good j ≡ Some g → g.state ≡ number → ⊥) → i ≡ k + d → t.good i ≡ Some f → f.state ≡ number → (m : ℕ) × (g : Facts) × (m ≤ i) × IsFirstOf t s m number g
first_of zero t s k i number f from none e is state =
    (i, f, le_refl i, record { good = is; from = omega arith; state = state; first = λ j g a lt b. none j g a (omega arith) b })
first_of (suc d) t s k i number f from none e is state =
    first_or t s k i number from (omega arith) none (t.good k) refl
    (λ more. first_of d t s (suc k) i number f (omega arith) more (omega arith) is state)

acts_first : (t : Trace) (s i number : ℕ) (f : Facts) → IsIn t s i f → ((j : ℕ) (g : Facts) → IsIn t s j g → j < i → g.state ≤ number) → (m : ℕ) (h : Facts) → m ≤ i → IsFirstOf t s m number h → IsActedOn t s number
acts_first t s i number f a below m h le x =
    let from : s ≤ m = x.from in
    let l = epoch_back t s i m a.epoch from le in record {
      position = m;
      facts = h;
      good = record { good = x.good; epoch = l };
      acts = record {
        facts = h;
        good = x.good;
        start = s;
        epoch = l;
        above = λ j g b lt is.
            let at_most : g.state ≤ number =
            below j g (record { good = is; epoch = epoch_back t s i j a.epoch b (omega arith) }) (omega arith) in
            let differ : g.state ≡ number → ⊥ = λ e. x.first j g b lt is e in
            let state : h.state ≡ number = x.state in
            omega arith;
      };
      numbered = x.state;
    }

pub acted_where_in_time : (t : Trace) → ActedWhereInTime t
acted_where_in_time t s number = (
  (λ w. record {
    position = w.position;
    facts = w.facts;
    good = w.good;
    numbered = w.numbered;
    before = λ j g b lt.
        let above : g.state < w.facts.state = acts_above t s j w.position g w.facts b w.good lt w.acts in
        let state : w.facts.state ≡ number = w.numbered in
        omega arith;
  }),
  (λ w.
      let from : s ≤ w.position = w.good.epoch.within in
      let x =
      first_of (w.position - s) t s s w.position number w.facts (le_refl s) (λ j g a lt is b. absurd (omega arith)) (omega arith) w.good.good w.numbered in
      acts_first t s w.position number w.facts w.good w.before x.0 x.1 x.2 x.3),
)

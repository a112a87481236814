-- One event at one block: what the block holds stays what the whole list says.
use Rattle.std.proofs.Common.{◌≡◌, ℕ, zero, suc, ◌+◌, ◌-◌, ◌<◌, ◌≤◌, ◌⊎◌, ◌↔◌, ◌&&◌, ◌==◌, Bool, true, false, nat_le, nat_lt, if◌then◌else◌, inl, inr, Option, Some, None, sym, refl, ap, ◌∙◌, subst, arith, le_refl}
use Rattle.std.proofs.lemmas.Bool.{cases_order, cases_lt, ltb-true, ltb-false, leb-true, leb-false, eqb-true, eqb-false, false≢true}
use Rattle.std.proofs.lemmas.Option.{same_Some}
use Rattle.subscribe_core.specs.declared.registers.Facts.{Facts}
use Rattle.subscribe_core.specs.declared.registers.LiveState.{LiveState}
use Rattle.subscribe_core.specs.declared.registers.Verdict.{Verdict}
use Rattle.subscribe_core.specs.declared.registers.Verdict.TheVariants.{Act, Refreshed, Repeated, Older}
use Rattle.subscribe_core.specs.Epoch.{Trace, IsBefore, IsBest, Dead, IsOver, Ends, IsFirstGood, IsStart, First, Next, IsExpiry, IsLastStart, Acts, IsIdleAfter, HoldsBest, BlockHolds, Refreshes, Repeats, IsVerdict}
use Rattle.subscribe_core.specs.computed.Steps.{is_dead, after_clock, after_switch, verdict_on, held_after_frame}
use Rattle.subscribe_core.proofs.Epochs.{IsBefore-irrefl, IsBefore-trans, IsBefore-between, best_unique, best_facts, over_after, ends_unique, good_not_none, MayStart, start_good, start_at, settled, later, first_good}

-- an epoch starts at n, if that is a good position
pub record Ready (t : Trace) (n : ℕ) : Type 0 where
  pub from : ℕ
  pub may : MayStart t from
  pub past : from ≤ n
  pub none : (j : ℕ) → from ≤ j → j < n → t.good j ≡ None

-- the same, and the last expiry is before n
pub record Idle (t : Trace) (n : ℕ) : Type 0 where
  pub ready : Ready t n
  pub past : (ready.from ≡ 0) ⊎ (ready.from < n)

-- the epoch of s isn't over before n, and p is its best position
pub record Open (t : Trace) (n s p : ℕ) (f : Facts) (m : ℕ) : Type 0 where
  pub start : IsStart t s
  pub lives : (k : ℕ) → k < m → ¬ IsOver t s k
  pub best : IsBest t s n p f

-- no position from k on, and before n, is good, if none of them would be the first such
none_good : (t : Trace) (k n : ℕ) → ((m : ℕ) → m < n → ¬ IsFirstGood t k m) → (j : ℕ) → k ≤ j → j < n → t.good j ≡ None
none_good t k n h j from below = go (t.good j) refl
  where
    go : (o : Option Facts) → t.good j ≡ o → t.good j ≡ None
    go None is = is
    go (Some f) is =
        let x = first_good (j - k) t k j f (omega arith) is in
        absurd (h x.0 (omega arith) x.2)

pub idle_in : (t : Trace) (n : ℕ) → IsIdleAfter t n → Idle t n
idle_in t n (inl none) =
    record {
      ready = record {
        from = 0;
        may = inl refl;
        past = omega arith;
        none = none_good t 0 n (λ m lt g. none m lt (First g));
      };
      past = inl refl;
    }
idle_in t n (inr w) =
    let after : w.start < w.end = over_after t w.start w.end w.ends.over in
    let below : w.end < n = w.before in
    record {
      ready = record {
        from = w.end;
        may = inr (w.start, w.is_start, w.ends);
        past = omega arith;
        none = none_good t w.end n (λ m lt g.
            let le : m ≤ w.start = w.last m (Next w.is_start w.ends g) lt in
            let from : w.end ≤ m = g.from in
            absurd (omega arith));
      };
      past = inr below;
    }

pub idle_out : (t : Trace) (n : ℕ) → Idle t n → IsIdleAfter t n
idle_out t n i = go i.ready.may
  where
    bad : (r : ℕ) → IsStart t r → i.ready.from ≤ r → r < n → ⊥
    bad r u from lt = good_not_none t r (start_good u).0 (start_good u).1 (i.ready.none r from lt)

    go : MayStart t i.ready.from → IsIdleAfter t n
    go (inl e) = inl (λ s lt u. bad s u (omega arith) lt)
    go (inr w) =
        let after : w.0 < i.ready.from = over_after t w.0 i.ready.from w.2.over in
        inr (record {
          start = w.0;
          is_start = w.1;
          last = λ r u lt. elim (cases_lt w.0 r) [
            | inr le ↦ le
            | inl more ↦
                let x = later w.1 u more in
                let same : x.0 ≡ i.ready.from = ends_unique x.2 w.2 in
                absurd (bad r u (omega arith) lt)
          ];
          end = i.ready.from;
          before = omega arith;
          ends = w.2;
        })

pub open_in : (t : Trace) (n : ℕ) (h : LiveState) (b : HoldsBest t n h) → Open t n b.start b.best b.facts n
open_in t n h b =
    record { start = b.is_start; lives = λ k lt. alive (suc k) k (omega arith) lt; best = b.is_best }
  where
    alive : (m k : ℕ) → k < m → k < n → ¬ IsOver t b.start k
    alive zero k a lt d = absurd (omega arith)
    alive (suc m) k a lt d = b.lives k lt (record { over = d; first = λ j less. alive m j (omega arith) (omega arith) })

pub open_out : (t : Trace) (n s p : ℕ) (f : Facts) (h : LiveState) → Open t n s p f n → h.state ≡ f.state → h.sequence ≡ f.sequence → h.deadline ≡ t.now p + f.lifetime → HoldsBest t n h
open_out t n s p f h o a b c =
    record {
      start = s;
      is_start = o.start;
      last = λ r u lt. elim (cases_lt s r) [
        | inr le ↦ le
        | inl more ↦
            let x = later o.start u more in
            absurd (o.lives x.0 (omega arith) x.2.over)
      ];
      lives = λ k lt e. o.lives k lt e.over;
      best = p;
      facts = f;
      is_best = o.best;
      state = a;
      sequence = b;
      deadline = c;
    }

-- the moment of the event

-- nothing that an idle block started ends at n
pub idle_no_end : (t : Trace) (n : ℕ) → Idle t n → (r : ℕ) → IsStart t r → ¬ Ends t r n
idle_no_end t n i r u e =
    elim (cases_lt r i.ready.from) [
      | inl lt ↦
          let x = settled i.ready.from t i.ready.from (le_refl i.ready.from) i.ready.may r u lt in
          let same : x.0 ≡ n = ends_unique x.2 e in
          let le : x.0 ≤ i.ready.from = x.1 in
          let after : r < n = over_after t r n e.over in
          absurd (elim i.past [ inl z ↦ omega arith | inr below ↦ omega arith ])
      | inr from ↦
          absurd (good_not_none t r (start_good u).0 (start_good u).1 (i.ready.none r from (over_after t r n e.over)))
    ]

-- a block that is idle doesn't expire
pub idle_no_expiry : (t : Trace) (n : ℕ) → Idle t n → ¬ IsExpiry t n
idle_no_expiry t n i w = idle_no_end t n i w.start w.is_start w.ends

-- of what isn't over before n, the block expires at n only where that is dead
pub open_expiry : (t : Trace) (n s p : ℕ) (f : Facts) → Open t n s p f n → IsExpiry t n → Dead t s n
open_expiry t n s p f o w =
    elim (cases_order w.start s) [
      | inl e ↦ subst (λ x. Dead t x n) e w.dead
      | inr (inl less) ↦
          let x = later w.is_start o.start less in
          let same : x.0 ≡ n = ends_unique x.2 w.ends in
          let a : s ≤ p = o.best.from in
          let b : p < n = o.best.below in
          absurd (omega arith)
      | inr (inr more) ↦
          let x = later o.start w.is_start more in
          let after : w.start < n = w.dead.after in
          absurd (o.lives x.0 (omega arith) x.2.over)
    ]

pub open_dead : (t : Trace) (n s p : ℕ) (f : Facts) → Open t n s p f n → t.now p + f.lifetime ≤ t.now n → Dead t s n
open_dead t n s p f o over =
    let a : s ≤ p = o.best.from in
    let b : p < n = o.best.below in
    record { after = omega arith; best = p; facts = f; is_best = o.best; over = over }

pub open_switched : (t : Trace) (n s p : ℕ) (f : Facts) → Open t n s p f n → t.switched n ≡ true → IsOver t s n
open_switched t n s p f o e =
    let a : s ≤ p = o.best.from in
    let b : p < n = o.best.below in
    inr (omega arith, e)

pub open_not_dead : (t : Trace) (n s p : ℕ) (f : Facts) → Open t n s p f n → t.now n < t.now p + f.lifetime → ¬ Dead t s n
open_not_dead t n s p f o below d =
    let at : d.best ≡ p = best_unique d.is_best o.best in
    let facts : d.facts ≡ f = best_facts d.is_best o.best in
    let over : t.now p + f.lifetime ≤ t.now n =
    subst (λ x. t.now x + f.lifetime ≤ t.now n) at (subst (λ x. t.now d.best + x.lifetime ≤ t.now n) facts d.over) in
    omega arith

pub dead_ready : (t : Trace) (n s : ℕ) → IsStart t s → Ends t s n → Ready t n
dead_ready t n s u e =
    record { from = n; may = inr (s, u, e); past = le_refl n; none = λ j a b. absurd (omega arith) }

pub lives_more : (t : Trace) (n s : ℕ) → ((k : ℕ) → k < n → ¬ IsOver t s k) → ¬ IsOver t s n → (k : ℕ) → k < n + 1 → ¬ IsOver t s k
lives_more t n s lives here k lt =
    elim (cases_order k n) [
      | inl e ↦ subst (λ y. ¬ IsOver t s y) (sym e) here
      | inr (inl less) ↦ lives k less
      | inr (inr more) ↦ absurd (omega arith)
    ]

-- the frame of the event

pub ready_none : (t : Trace) (n : ℕ) → Ready t n → t.good n ≡ None → Idle t (n + 1)
ready_none t n r e =
    record {
      ready = record {
        from = r.from;
        may = r.may;
        past = omega arith;
        none = λ j a b. elim (cases_order j n) [
          | inl same ↦ ap t.good same ∙ e
          | inr (inl less) ↦ r.none j a less
          | inr (inr more) ↦ absurd (omega arith)
        ];
      };
      past = inr (omega arith);
    }

pub ready_start : (t : Trace) (n : ℕ) (f : Facts) → Ready t n → t.good n ≡ Some f → IsStart t n
ready_start t n f r e = start_at t r.from n r.may (record { from = r.past; facts = f; good = e; first = r.none })

pub ready_acts : (t : Trace) (n : ℕ) (f : Facts) → Ready t n → t.good n ≡ Some f → Acts t n
ready_acts t n f r e =
    record {
      facts = f;
      good = e;
      start = n;
      epoch = record { start = ready_start t n f r e; within = le_refl n; last = λ q u le. le };
      above = λ j g a b. absurd (omega arith);
    }

-- the first position of an epoch is its best
pub best_alone : (t : Trace) (n : ℕ) (f : Facts) → t.good n ≡ Some f → IsBest t n (n + 1) n f
best_alone t n f e =
    record {
      from = le_refl n;
      below = omega arith;
      good = e;
      greatest = λ q g a b is before.
          let here : q ≡ n = omega arith in
          let same : g ≡ f = same_Some g f (sym is ∙ ap t.good here ∙ e) in
          IsBefore-irrefl f (subst (λ x. IsBefore f x) same before);
      first = λ q g a b. absurd (omega arith);
    }

pub ready_open : (t : Trace) (n : ℕ) (f : Facts) → Ready t n → t.good n ≡ Some f → Open t (n + 1) n n f (n + 1)
ready_open t n f r e =
    record {
      start = ready_start t n f r e;
      lives = λ k lt d. let after : n < k = over_after t n k d in absurd (omega arith);
      best = best_alone t n f e;
    }

pub best_kept_none : (t : Trace) (s n p : ℕ) (f : Facts) → IsBest t s n p f → t.good n ≡ None → IsBest t s (n + 1) p f
best_kept_none t s n p f b e =
    let below : p < n = b.below in
    record {
      from = b.from;
      below = omega arith;
      good = b.good;
      greatest = λ q g a lt is. elim (cases_order q n) [
        | inl same ↦ absurd (good_not_none t n g (sym (ap t.good same) ∙ is) e)
        | inr (inl less) ↦ b.greatest q g a less is
        | inr (inr more) ↦ absurd (omega arith)
      ];
      first = b.first;
    }

pub best_kept : (t : Trace) (s n p : ℕ) (f g : Facts) → IsBest t s n p f → t.good n ≡ Some g → ¬ IsBefore f g → IsBest t s (n + 1) p f
best_kept t s n p f g b e past =
    let below : p < n = b.below in
    record {
      from = b.from;
      below = omega arith;
      good = b.good;
      greatest = λ q h a lt is. elim (cases_order q n) [
        | inl same ↦
            let facts : g ≡ h = same_Some g h (sym e ∙ sym (ap t.good same) ∙ is) in
            subst (λ x. ¬ IsBefore f x) facts past
        | inr (inl less) ↦ b.greatest q h a less is
        | inr (inr more) ↦ absurd (omega arith)
      ];
      first = b.first;
    }

pub best_new : (t : Trace) (s n p : ℕ) (f g : Facts) → IsBest t s n p f → t.good n ≡ Some g → IsBefore f g → IsBest t s (n + 1) n g
best_new t s n p f g b e before =
    let from : s ≤ p = b.from in
    let below : p < n = b.below in
    record {
      from = omega arith;
      below = omega arith;
      good = e;
      greatest = λ q h a lt is above. elim (cases_order q n) [
        | inl same ↦
            let facts : h ≡ g = same_Some h g (sym is ∙ ap t.good same ∙ e) in
            IsBefore-irrefl g (subst (λ x. IsBefore g x) facts above)
        | inr (inl less) ↦ b.greatest q h a less is (IsBefore-trans f g h before above)
        | inr (inr more) ↦ absurd (omega arith)
      ];
      first = λ q h a lt is. IsBefore-between f g h (b.greatest q h a lt is) before;
    }

-- the verdict on the frame, where an epoch goes on

pub open_last : (t : Trace) (n s p : ℕ) (f : Facts) → Open t n s p f (n + 1) → IsLastStart t n s
open_last t n s p f o =
    let from : s ≤ p = o.best.from in
    let below : p < n = o.best.below in
    record {
      start = o.start;
      within = omega arith;
      last = λ r u le. elim (cases_lt s r) [
        | inr ge ↦ ge
        | inl more ↦
            let x = later o.start u more in
            absurd (o.lives x.0 (omega arith) x.2.over)
      ];
    }

pub last_unique : {t : Trace} {i s r : ℕ} → IsLastStart t i s → IsLastStart t i r → s ≡ r
last_unique {t} {i} {s} {r} a b =
    let x : s ≤ r = b.last s a.start a.within in
    let y : r ≤ s = a.last r b.start b.within in
    omega arith

pub open_acts : (t : Trace) (n s p : ℕ) (f g : Facts) → Open t n s p f (n + 1) → t.good n ≡ Some g → f.state < g.state → Acts t n
open_acts t n s p f g o e lt =
    record {
      facts = g;
      good = e;
      start = s;
      epoch = open_last t n s p f o;
      above = λ j h a b is. elim (cases_lt f.state h.state) [
        | inl less ↦ absurd (o.best.greatest j h a b is (inl less))
        | inr ge ↦ omega arith
      ];
    }

pub open_not_acts : (t : Trace) (n s p : ℕ) (f g : Facts) → Open t n s p f (n + 1) → t.good n ≡ Some g → g.state ≤ f.state → ¬ Acts t n
open_not_acts t n s p f g o e le a =
    let same : a.start ≡ s = last_unique a.epoch (open_last t n s p f o) in
    let facts : a.facts ≡ g = same_Some a.facts g (sym a.good ∙ e) in
    let from : s ≤ p = o.best.from in
    let above : f.state < a.facts.state = a.above p f (omega arith) o.best.below o.best.good in
    let state : a.facts.state ≡ g.state = ap (λ (x : Facts). x.state) facts in
    omega arith

pub open_refreshes : (t : Trace) (n s p : ℕ) (f g : Facts) → Open t n s p f (n + 1) → t.good n ≡ Some g → IsBefore f g → Refreshes t n g
open_refreshes t n s p f g o e before = record { start = s; epoch = open_last t n s p f o; is_best = best_new t s n p f g o.best e before }

pub open_not_refreshes : (t : Trace) (n s p : ℕ) (f g : Facts) → Open t n s p f (n + 1) → t.good n ≡ Some g → ¬ IsBefore f g → ¬ Refreshes t n g
open_not_refreshes t n s p f g o e past w =
    let same : w.start ≡ s = last_unique w.epoch (open_last t n s p f o) in
    let best : IsBest t s (n + 1) n g = subst (λ x. IsBest t x (n + 1) n g) same w.is_best in
    let at : n ≡ p = best_unique best (best_kept t s n p f g o.best e past) in
    let below : p < n = o.best.below in
    omega arith

pub open_repeats : (t : Trace) (n s p : ℕ) (f g : Facts) → Open t n s p f (n + 1) → g.state ≡ f.state → g.sequence ≡ f.sequence → Repeats t n g
open_repeats t n s p f g o a b =
    record { start = s; epoch = open_last t n s p f o; best = p; facts = f; is_best = o.best; state = a; sequence = b }

pub open_not_repeats : (t : Trace) (n s p : ℕ) (f g : Facts) → Open t n s p f (n + 1) → (g.state ≡ f.state → g.sequence ≡ f.sequence → ⊥) → ¬ Repeats t n g
open_not_repeats t n s p f g o differ w =
    let same : w.start ≡ s = last_unique w.epoch (open_last t n s p f o) in
    let best : IsBest t s n w.best w.facts = subst (λ x. IsBest t x n w.best w.facts) same w.is_best in
    let facts : w.facts ≡ f = best_facts best o.best in
    differ (w.state ∙ ap (λ (x : Facts). x.state) facts) (w.sequence ∙ ap (λ (x : Facts). x.sequence) facts)

-- what a block holds, while its epoch isn't over at n
pub record Going (t : Trace) (n : ℕ) (h : LiveState) : Type 0 where
  pub start : ℕ
  pub best : ℕ
  pub facts : Facts
  pub is_open : Open t n start best facts (n + 1)
  pub state : h.state ≡ facts.state
  pub sequence : h.sequence ≡ facts.sequence
  pub deadline : h.deadline ≡ t.now best + facts.lifetime

-- what a block holds once the expiry at n is done
abbrev pub HoldsAt : Trace → ℕ → Option LiveState → Type 0
HoldsAt t n None = Ready t n
HoldsAt t n (Some h) = Going t n h

-- the expiry at n, and then the switch, if there is one
pub clock_step : (t : Trace) (n : ℕ) (held : Option LiveState) → BlockHolds t n held → ((is_dead held (t.now n) ≡ true) ↔ IsExpiry t n) × HoldsAt t n (after_switch (t.switched n) (after_clock held (t.now n)))
clock_step t n None i = go (t.switched n)
  where
    idle : Idle t n
    idle = idle_in t n i

    go : (sw : Bool) → ((false ≡ true) ↔ IsExpiry t n) × HoldsAt t n (after_switch sw None)
    go true = (((λ e. absurd (false≢true e)), (λ w. absurd (idle_no_expiry t n idle w))), idle.ready)
    go false = (((λ e. absurd (false≢true e)), (λ w. absurd (idle_no_expiry t n idle w))), idle.ready)
clock_step t n (Some h) b = go (nat_le h.deadline (t.now n)) refl (t.switched n) refl
  where
    o : Open t n b.start b.best b.facts n
    o = open_in t n h b

    go : (due : Bool) → nat_le h.deadline (t.now n) ≡ due → (sw : Bool) → t.switched n ≡ sw → ((due ≡ true) ↔ IsExpiry t n) × HoldsAt t n (after_switch sw (if due then None else Some h))
    go true e sw se =
        let deadline : h.deadline ≡ t.now b.best + b.facts.lifetime = b.deadline in
        let dead : Dead t b.start n =
        open_dead t n b.start b.best b.facts o (omega (arith, leb-true h.deadline (t.now n) e)) in
        let ends : Ends t b.start n = record { over = inl dead; first = o.lives } in
        let ready : Ready t n = dead_ready t n b.start o.start ends in (
          ((λ x. record { start = b.start; is_start = o.start; ends = ends; dead = dead }), (λ w. refl)),
          elim sw as (λ v. HoldsAt t n (after_switch v None)) [ true ↦ ready | false ↦ ready ],
        )
    go false e true se =
        let deadline : h.deadline ≡ t.now b.best + b.facts.lifetime = b.deadline in
        let lives : ¬ Dead t b.start n =
        open_not_dead t n b.start b.best b.facts o (omega (arith, leb-false h.deadline (t.now n) e)) in (
          (
            (λ x. absurd (false≢true x)),
            (λ w. absurd (lives (open_expiry t n b.start b.best b.facts o w))),
          ),
          dead_ready t n b.start o.start (record { over = open_switched t n b.start b.best b.facts o se; first = o.lives }),
        )
    go false e false se =
        let deadline : h.deadline ≡ t.now b.best + b.facts.lifetime = b.deadline in
        let lives : ¬ Dead t b.start n =
        open_not_dead t n b.start b.best b.facts o (omega (arith, leb-false h.deadline (t.now n) e)) in
        let goes_on : ¬ IsOver t b.start n =
        λ x. elim x [ inl d ↦ lives d | inr y ↦ false≢true (sym se ∙ y.1) ] in (
          (
            (λ x. absurd (false≢true x)),
            (λ w. absurd (lives (open_expiry t n b.start b.best b.facts o w))),
          ),
          record {
            start = b.start;
            best = b.best;
            facts = b.facts;
            is_open = record { start = o.start; lives = lives_more t n b.start o.lives goes_on; best = o.best };
            state = b.state;
            sequence = b.sequence;
            deadline = b.deadline;
          },
        )

pub none_step : (t : Trace) (n : ℕ) (held : Option LiveState) → HoldsAt t n held → t.good n ≡ None → BlockHolds t (n + 1) held
none_step t n None r e = idle_out t (n + 1) (ready_none t n r e)
none_step t n (Some h) g e =
    open_out t (n + 1) g.start g.best g.facts h
    (record { start = g.is_open.start; lives = g.is_open.lives; best = best_kept_none t g.start n g.best g.facts g.is_open.best e })
    g.state g.sequence g.deadline

-- the numbers and the lifetime of a frame that is acted on or renews
abbrev pub held_of : Facts → ℕ → LiveState
held_of f now = record { state = f.state; sequence = f.sequence; deadline = now + f.lifetime }

new_held : (t : Trace) (n s p : ℕ) (f g : Facts) → Open t n s p f (n + 1) → t.good n ≡ Some g → IsBefore f g → BlockHolds t (n + 1) (Some (held_of g (t.now n)))
new_held t n s p f g o e before =
    open_out t (n + 1) s n g (held_of g (t.now n))
    (record { start = o.start; lives = o.lives; best = best_new t s n p f g o.best e before })
    refl refl refl

kept_held : (t : Trace) (n : ℕ) (h : LiveState) (w : Going t n h) (g : Facts) → t.good n ≡ Some g → ¬ IsBefore w.facts g → BlockHolds t (n + 1) (Some h)
kept_held t n h w g e past =
    open_out t (n + 1) w.start w.best w.facts h
    (record { start = w.is_open.start; lives = w.is_open.lives; best = best_kept t w.start n w.best w.facts g w.is_open.best e past })
    w.state w.sequence w.deadline

pub frame_step : (t : Trace) (n : ℕ) (held : Option LiveState) (g : Facts) → HoldsAt t n held → t.good n ≡ Some g → IsVerdict t n g (verdict_on held g) × BlockHolds t (n + 1) (held_after_frame (verdict_on held g) held (t.now n) g)
frame_step t n None g r e =
    (ready_acts t n g r e, open_out t (n + 1) n n g (held_of g (t.now n)) (ready_open t n g r e) refl refl refl)
frame_step t n (Some h) g w e =
    go (nat_lt h.state g.state) refl (h.state == g.state) refl (nat_lt h.sequence g.sequence) refl (h.sequence == g.sequence) refl
  where
    f : Facts
    f = w.facts

    o : Open t n w.start w.best w.facts (n + 1)
    o = w.is_open

    by : Bool → Bool → Bool → Bool → Verdict
    by a b c d = if a then Act else if b && c then Refreshed else if b && d then Repeated else Older

    stale : (g.state ≤ w.facts.state) → ¬ IsBefore w.facts g → (g.state ≡ w.facts.state → g.sequence ≡ w.facts.sequence → ⊥) → IsVerdict t n g Older × BlockHolds t (n + 1) (Some h)
    stale le past differ = (
      (
        open_not_acts t n w.start w.best w.facts g o e le,
        open_not_refreshes t n w.start w.best w.facts g o e past,
        open_not_repeats t n w.start w.best w.facts g o differ,
      ),
      kept_held t n h w g e past,
    )

    go : (a : Bool) → nat_lt h.state g.state ≡ a → (b : Bool) → (h.state == g.state) ≡ b → (c : Bool) → nat_lt h.sequence g.sequence ≡ c → (d : Bool) → (h.sequence == g.sequence) ≡ d → IsVerdict t n g (by a b c d) × BlockHolds t (n + 1) (held_after_frame (by a b c d) (Some h) (t.now n) g)
    go true ea b eb c ec d ed =
        let lt : w.facts.state < g.state = omega (arith, ltb-true h.state g.state ea, w.state) in
        (open_acts t n w.start w.best w.facts g o e lt, new_held t n w.start w.best w.facts g o e (inl lt))
    go false ea true eb true ec d ed =
        let same : w.facts.state ≡ g.state = omega (arith, eqb-true h.state g.state eb, w.state) in
        let lt : w.facts.sequence < g.sequence =
        omega (arith, ltb-true h.sequence g.sequence ec, w.sequence) in (
          (
            open_not_acts t n w.start w.best w.facts g o e (omega arith),
            open_refreshes t n w.start w.best w.facts g o e (inr (same, lt)),
          ),
          new_held t n w.start w.best w.facts g o e (inr (same, lt)),
        )
    go false ea true eb false ec true ed =
        let same : g.state ≡ w.facts.state = omega (arith, eqb-true h.state g.state eb, w.state) in
        let also : g.sequence ≡ w.facts.sequence =
        omega (arith, eqb-true h.sequence g.sequence ed, w.sequence) in
        let past : ¬ IsBefore w.facts g = λ q. elim q [ inl a ↦ omega arith | inr a ↦ omega arith ] in (
          (
            open_not_acts t n w.start w.best w.facts g o e (omega arith),
            open_not_refreshes t n w.start w.best w.facts g o e past,
            open_repeats t n w.start w.best w.facts g o same also,
          ),
          kept_held t n h w g e past,
        )
    go false ea true eb false ec false ed =
        let same : g.state ≡ w.facts.state = omega (arith, eqb-true h.state g.state eb, w.state) in
        let le : g.sequence ≤ w.facts.sequence =
        omega (arith, ltb-false h.sequence g.sequence ec, w.sequence) in
        stale (omega arith)
        (λ q. elim q [ inl a ↦ omega arith | inr a ↦ omega arith ])
        (λ a b. eqb-false h.sequence g.sequence ed (w.sequence ∙ sym b))
    go false ea false eb c ec d ed =
        let le : g.state ≤ w.facts.state = omega (arith, ltb-false h.state g.state ea, w.state) in
        let differ : g.state ≡ w.facts.state → ⊥ = λ a. eqb-false h.state g.state eb (w.state ∙ sym a) in
        stale le
        (λ q. elim q [ inl a ↦ omega arith | inr a ↦ differ (sym a.0) ])
        (λ a b. differ a)

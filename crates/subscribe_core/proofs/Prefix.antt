-- What is said of the first n positions depends on these alone.
use Rattle.std.proofs.Common.{◌≡◌, ℕ, ◌+◌, ◌<◌, ◌≤◌, inl, inr, Option, Some, None, sym, ap, ◌∙◌, arith}
use Rattle.subscribe_core.specs.declared.registers.Facts.{Facts}
use Rattle.subscribe_core.specs.declared.registers.LiveState.{LiveState}
use Rattle.subscribe_core.specs.declared.registers.Verdict.{Verdict}
use Rattle.subscribe_core.specs.declared.registers.Verdict.TheVariants.{Act, Refreshed, Repeated, Older}
use Rattle.subscribe_core.proofs.Epochs.{over_after}
use Rattle.subscribe_core.specs.Epoch.{Trace, IsBest, Dead, IsOver, Ends, IsFirstGood, IsStart, First, Next, IsExpiry, IsLastStart, Acts, Refreshes, Repeats, IsVerdict, BlockHolds}

-- the two are the same at the first n positions
pub record SameBelow (n : ℕ) (t u : Trace) : Type 0 where
  pub now : (i : ℕ) → i < n → t.now i ≡ u.now i
  pub good : (i : ℕ) → i < n → t.good i ≡ u.good i
  pub switched : (i : ℕ) → i < n → t.switched i ≡ u.switched i

pub same_sym : {n : ℕ} {t u : Trace} → SameBelow n t u → SameBelow n u t
same_sym a = record { now = λ i lt. sym (a.now i lt); good = λ i lt. sym (a.good i lt); switched = λ i lt. sym (a.switched i lt) }

pub best_same : {n : ℕ} {t u : Trace} → SameBelow n t u → (s k p : ℕ) (f : Facts) → k ≤ n → IsBest t s k p f → IsBest u s k p f
best_same a s k p f le b =
    let below : p < k = b.below in
    record {
      from = b.from;
      below = b.below;
      good = sym (a.good p (omega arith)) ∙ b.good;
      greatest = λ q g from lt is. b.greatest q g from lt (a.good q (omega arith) ∙ is);
      first = λ q g from lt is. b.first q g from lt (a.good q (omega arith) ∙ is);
    }

pub dead_same : {n : ℕ} {t u : Trace} → SameBelow n t u → (s k : ℕ) → k < n → Dead t s k → Dead u s k
dead_same {n} {t} {u} a s k lt d =
    let below : d.best < k = d.is_best.below in
    let best : t.now d.best ≡ u.now d.best = a.now d.best (omega arith) in
    let now : t.now k ≡ u.now k = a.now k lt in
    let over : t.now d.best + d.facts.lifetime ≤ t.now k = d.over in
    record {
      after = d.after;
      best = d.best;
      facts = d.facts;
      is_best = best_same a s k d.best d.facts (omega arith) d.is_best;
      over = omega arith;
    }

pub over_same : {n : ℕ} {t u : Trace} → SameBelow n t u → (s k : ℕ) → k < n → IsOver t s k → IsOver u s k
over_same a s k lt (inl d) = inl (dead_same a s k lt d)
over_same a s k lt (inr x) = inr (x.0, sym (a.switched k lt) ∙ x.1)

pub ends_same : {n : ℕ} {t u : Trace} → SameBelow n t u → (s k : ℕ) → k < n → Ends t s k → Ends u s k
ends_same a s k lt e =
    record { over = over_same a s k lt e.over; first = λ j less d. e.first j less (over_same (same_sym a) s j (omega arith) d) }

pub first_same : {n : ℕ} {t u : Trace} → SameBelow n t u → (k i : ℕ) → i < n → IsFirstGood t k i → IsFirstGood u k i
first_same a k i lt g =
    record {
      from = g.from;
      facts = g.facts;
      good = sym (a.good i lt) ∙ g.good;
      first = λ j from less. sym (a.good j (omega arith)) ∙ g.first j from less;
    }

pub start_same : {n : ℕ} {t u : Trace} → SameBelow n t u → {s : ℕ} → s < n → IsStart t s → IsStart u s
start_same a lt (First g) = First (first_same a 0 _ lt g)
start_same {n} a {s} lt (Next {r = r} {k = k} w e g) =
    let from : k ≤ s = g.from in
    let after : r < k = over_after _ r k e.over in
    Next (start_same a (omega arith) w) (ends_same a r k (omega arith) e) (first_same a k s lt g)

pub expiry_same : {n : ℕ} {t u : Trace} → SameBelow n t u → (k : ℕ) → k < n → IsExpiry t k → IsExpiry u k
expiry_same a k lt w =
    let after : w.start < k = w.dead.after in
    record {
      start = w.start;
      is_start = start_same a (omega arith) w.is_start;
      ends = ends_same a w.start k lt w.ends;
      dead = dead_same a w.start k lt w.dead;
    }

pub last_same : {n : ℕ} {t u : Trace} → SameBelow n t u → (i s : ℕ) → i < n → IsLastStart t i s → IsLastStart u i s
last_same a i s lt l =
    let within : s ≤ i = l.within in
    record {
      start = start_same a (omega arith) l.start;
      within = l.within;
      last = λ r v le. l.last r (start_same (same_sym a) (omega arith) v) le;
    }

pub acts_same : {n : ℕ} {t u : Trace} → SameBelow n t u → (i : ℕ) → i < n → Acts t i → Acts u i
acts_same a i lt w =
    record {
      facts = w.facts;
      good = sym (a.good i lt) ∙ w.good;
      start = w.start;
      epoch = last_same a i w.start lt w.epoch;
      above = λ j g from less is. w.above j g from less (a.good j (omega arith) ∙ is);
    }

pub refreshes_same : {n : ℕ} {t u : Trace} → SameBelow n t u → (i : ℕ) (f : Facts) → i < n → Refreshes t i f → Refreshes u i f
refreshes_same a i f lt w =
    record { start = w.start; epoch = last_same a i w.start lt w.epoch; is_best = best_same a w.start (i + 1) i f (omega arith) w.is_best }

pub repeats_same : {n : ℕ} {t u : Trace} → SameBelow n t u → (i : ℕ) (f : Facts) → i < n → Repeats t i f → Repeats u i f
repeats_same a i f lt w = record {
  start = w.start;
  epoch = last_same a i w.start lt w.epoch;
  best = w.best;
  facts = w.facts;
  is_best = best_same a w.start i w.best w.facts (omega arith) w.is_best;
  state = w.state;
  sequence = w.sequence;
}

pub verdict_same : {n : ℕ} {t u : Trace} → SameBelow n t u → (i : ℕ) (f : Facts) (v : Verdict) → i < n → IsVerdict t i f v → IsVerdict u i f v
verdict_same a i f Act lt w = acts_same a i lt w
verdict_same a i f Refreshed lt w =
    ((λ x. w.0 (acts_same (same_sym a) i lt x)), refreshes_same a i f lt w.1)
verdict_same a i f Repeated lt w = (
  (λ x. w.0 (acts_same (same_sym a) i lt x)),
  (λ x. w.1 (refreshes_same (same_sym a) i f lt x)),
  repeats_same a i f lt w.2,
)
verdict_same a i f Older lt w = (
  (λ x. w.0 (acts_same (same_sym a) i lt x)),
  (λ x. w.1 (refreshes_same (same_sym a) i f lt x)),
  (λ x. w.2 (repeats_same (same_sym a) i f lt x)),
)

pub holds_same : {n : ℕ} {t u : Trace} → SameBelow n t u → (held : Option LiveState) → BlockHolds t n held → BlockHolds u n held
holds_same a None (inl none) = inl (λ s lt w. none s lt (start_same (same_sym a) lt w))
holds_same {n} {t} {u} a None (inr w) =
    let after : w.start < w.end = over_after t w.start w.end w.ends.over in
    let below : w.end < n = w.before in
    inr (record {
      start = w.start;
      is_start = start_same a (omega arith) w.is_start;
      last = λ r x lt. w.last r (start_same (same_sym a) lt x) lt;
      end = w.end;
      before = w.before;
      ends = ends_same a w.start w.end below w.ends;
    })
holds_same {n} {t} {u} a (Some h) b =
    let from : b.start ≤ b.best = b.is_best.from in
    let below : b.best < n = b.is_best.below in
    record {
      start = b.start;
      is_start = start_same a (omega arith) b.is_start;
      last = λ r x lt. b.last r (start_same (same_sym a) lt x) lt;
      lives = λ k lt e. b.lives k lt (ends_same (same_sym a) b.start k lt e);
      best = b.best;
      facts = b.facts;
      is_best = best_same a b.start n b.best b.facts (omega arith) b.is_best;
      state = b.state;
      sequence = b.sequence;
      deadline = b.deadline ∙ ap (λ x. x + b.facts.lifetime) (a.now b.best below);
    }

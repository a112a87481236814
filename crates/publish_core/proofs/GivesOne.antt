-- Which call gives which frame: each call gives at most one, and between a frame and the next no call gives one.
use Rattle.std.proofs.Common.{◌≡◌, ℕ, zero, suc, ◌<◌, ◌≤◌, inl, inr, Option, Some, None, List, sym, refl, ap, ◌∙◌, subst, arith}
use Rattle.std.proofs.lemmas.Bool.{cases_order}
use Rattle.publish_core.specs.declared.table.Step.{Step}
use Rattle.publish_core.specs.Frames.{Change}
use Rattle.publish_core.specs.Run.{Request, Changed, Polled, CallTrace, IsChange, IsDue, IsNext, GivesFrame, First, Next}

-- a change is no poll
is_changed : Option Request → Type 0
is_changed None = ⊥
is_changed (Some (Changed change)) = Unit {0}
is_changed (Some Polled) = ⊥

pub changed-polled : (o : Option Request) (change : Change) → o ≡ Some (Changed change) → o ≡ Some Polled → ⊥
unfolding is_changed
changed-polled o change a b = let e : Some (Changed change) ≡ Some Polled = sym a ∙ b in subst is_changed e tt

change_or : Change → Option Request → Change
change_or d None = d
change_or d (Some (Changed change)) = change
change_or d (Some Polled) = d

pub same_change : (a b : Change) → Some (Changed a) ≡ Some (Changed b) → a ≡ b
unfolding change_or
same_change a b e = ap (change_or a) e

-- two frames of one call
pub record IsSame (c k d m : ℕ) (a b : Change) : Type 0 where
  pub state : c ≡ d
  pub frame : k ≡ m
  pub change : a ≡ b

pub due_same : (table : List Step) (t : CallTrace) (i k l j : ℕ) → k ≡ l → IsDue table t i k j → IsDue table t i l j
due_same table t i k l j e d = subst (λ (x : ℕ). IsDue table t i x j) e d

-- both claims at once, by the bound n of the calls
pub record IsSettled (table : List Step) (t : CallTrace) (n : ℕ) : Type 0 where
  pub same : (i c k d m : ℕ) (a b : Change) → i < n → GivesFrame table t i c k a → GivesFrame table t i d m b → IsSame c k d m a b
  pub apart : (i j h c k d m : ℕ) (a b : Change) → j < n → GivesFrame table t i c k a → IsNext table t i k j → i < h → h < j → ¬ GivesFrame table t h d m b

apart_step : (table : List Step) (t : CallTrace) (n : ℕ) → IsSettled table t n → (i j h c k d m : ℕ) (a b : Change) → j < suc n → GivesFrame table t i c k a → IsNext table t i k j → i < h → h < j → GivesFrame table t h d m b → ⊥
apart_step table t n s i j h c k d m a b lt g w after below (First x) = changed-polled (t.request h) b x.request (w.between h after below).0
apart_step table t n s i j h c k d m a b lt g w after below (Next {i = p} {k = l} u v) =
    let less : p < h = v.later in
    elim (cases_order p i) [
      | inl e ↦
          let z = s.same i _ _ _ _ b a (omega arith) (subst (λ (x : ℕ). GivesFrame table t x d l b) e u) g in
          let due : IsDue table t i k h = due_same table t i l k h z.frame (subst (λ (x : ℕ). IsDue table t x l h) e v.due) in
          (w.between h after below).1 due
      | inr (inl lower) ↦ s.apart p h i _ _ _ _ b a (omega arith) u v lower after g
      | inr (inr higher) ↦ apart_step table t n s i j p c k d l a b lt g w higher (omega arith) u
    ]

same_step : (table : List Step) (t : CallTrace) (n : ℕ) → IsSettled table t n → (i c k d m : ℕ) (a b : Change) → i < suc n → GivesFrame table t i c k a → GivesFrame table t i d m b → IsSame c k d m a b
same_step table t n s i c k d m a b lt (First x) (First y) =
    record { state = sym x.before ∙ y.before; frame = refl; change = same_change a b (sym x.request ∙ y.request) }
same_step table t n s i c k d m a b lt (First x) (Next g w) = absurd (changed-polled (t.request i) a x.request w.poll)
same_step table t n s i c k d m a b lt (Next g w) (First y) = absurd (changed-polled (t.request i) b y.request w.poll)
same_step table t n s i c k d m a b lt (Next {i = p} {k = l} g v) (Next {i = q} {k = r} h w) =
    let first : p < i = v.later in
    let second : q < i = w.later in
    elim (cases_order p q) [
      | inl e ↦
          let z = s.same q c l d r a b (omega arith) (subst (λ (x : ℕ). GivesFrame table t x c l a) e g) h in
          record { state = z.state; frame = ap suc z.frame; change = z.change }
      | inr (inl less) ↦ absurd (apart_step table t n s p i q c l d r a b lt g v less second h)
      | inr (inr more) ↦ absurd (apart_step table t n s q i p d r c l b a lt h w more first g)
    ]

settled : (table : List Step) (t : CallTrace) (n : ℕ) → IsSettled table t n
settled table t zero = record { same = λ i c k d m a b lt. absurd (omega arith); apart = λ i j h c k d m a b lt. absurd (omega arith) }
settled table t (suc n) =
    record {
      same = same_step table t n (settled table t n);
      apart = apart_step table t n (settled table t n);
    }

pub gives_one : {table : List Step} {t : CallTrace} {i c k d m : ℕ} {a b : Change} → GivesFrame table t i c k a → GivesFrame table t i d m b → IsSame c k d m a b
gives_one {table} {t} {i} {c} {k} {d} {m} {a} {b} g h = (settled table t (suc i)).same i c k d m a b (omega arith) g h

pub gives_apart : {table : List Step} {t : CallTrace} {i j h c k d m : ℕ} {a b : Change} → GivesFrame table t i c k a → IsNext table t i k j → i < h → h < j → GivesFrame table t h d m b → ⊥
gives_apart {table} {t} {i} {j} {h} {c} {k} {d} {m} {a} {b} g w after below u =
    (settled table t (suc j)).apart i j h c k d m a b (omega arith) g w after below u

-- the change whose values a frame carries
pub carried : {table : List Step} {t : CallTrace} {i c k : ℕ} {change : Change} → GivesFrame table t i c k change → (j : ℕ) × (j ≤ i) × IsChange t j c change
carried {table} {t} {i} {c} {k} {change} (First x) = (i, omega arith, x)
carried {table} {t} {i} {c} {k} {change} (Next {i = p} g w) =
    let later : p < i = w.later in
    let r = carried g in
    let le : r.0 ≤ p = r.1 in
    (r.0, omega arith, r.2)

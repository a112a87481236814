-- One call: what a publisher holds stays what the whole list says.
use Rattle.std.proofs.Common.{◌≡◌, ℕ, zero, suc, ◌+◌, ◌-◌, ◌*◌, ◌<◌, ◌≤◌, ◌↔◌, min, Bool, true, false, if◌then◌else◌, inl, inr, Option, Some, None, List, length, sym, refl, ap, ◌∙◌, subst, arith}
use Rattle.std.proofs.lemmas.Bool.{cases_order, cases_lt, leb-true, leb-false}
use Rattle.publish_core.specs.declared.table.Step.{Step}
use Rattle.publish_core.specs.declared.publisher.Last.{Last}
use Rattle.publish_core.specs.Numbers.{state_number, sequence_number, number_behind}
use Rattle.publish_core.specs.Table.{step_at, step_of}
use Rattle.publish_core.specs.Frames.{Setup, Change, frame_with}
use Rattle.publish_core.specs.Run.{Request, Changed, Polled, CallTrace, IsDue, IsNewestFrame, GivesFrame, First, Next, changes, changes_of, IsAnswer}
use Rattle.publish_core.specs.State.{change_of, HoldsNewest, PublisherHolds}
use Rattle.publish_core.specs.computed.Step.{is_due, last_frame, next_last, polled, polled_frame, first_last}
use Rattle.publish_core.proofs.NumberLaws.{sequence_number_next}
use Rattle.publish_core.proofs.GivesOne.{changed-polled, gives_one, gives_apart, due_same}

-- call i gave frame k, and since then no change came and no poll was due
pub record Open (table : List Step) (t : CallTrace) (n i c k : ℕ) (change : Change) : Type 0 where
  pub gives : GivesFrame table t i c k change
  pub below : i < n
  pub quiet : (h : ℕ) → i < h → h < n → (t.request h ≡ Some Polled) × ¬ IsDue table t i k h

pub open_none : {table : List Step} {t : CallTrace} {n i c k j d m : ℕ} {a b : Change} → Open table t n i c k a → i < j → j < n → GivesFrame table t j d m b → ⊥
open_none {table} {t} {n} {i} {c} {k} {j} {d} {m} {a} {b} o later below (First x) = changed-polled (t.request j) b x.request (o.quiet j later below).0
open_none {table} {t} {n} {i} {c} {k} {j} {d} {m} {a} {b} o later below (Next {i = p} {k = l} g w) =
    let less : p < j = w.later in
    elim (cases_order p i) [
      | inl e ↦
          let z = gives_one (subst (λ (x : ℕ). GivesFrame table t x d l b) e g) o.gives in
          (o.quiet j later below).1 (due_same table t i l k j z.frame (subst (λ (x : ℕ). IsDue table t x l j) e w.due))
      | inr (inl lower) ↦ gives_apart g w lower later o.gives
      | inr (inr higher) ↦ open_none o higher (omega arith) g
    ]

-- no change came at h, and no poll there was due, if h gives nothing and neither does what is between
quiet_at : (table : List Step) (t : CallTrace) (n i c k : ℕ) (a : Change) (b : IsNewestFrame table t n i c k a) (h : ℕ) → i < h → h < n → ((g : ℕ) → i < g → g < h → (t.request g ≡ Some Polled) × ¬ IsDue table t i k g) → (o : Option Request) → t.request h ≡ o → (t.request h ≡ None → ⊥) → (t.request h ≡ Some Polled) × ¬ IsDue table t i k h
quiet_at table t n i c k a b h later lt before None is some = absurd (some is)
quiet_at table t n i c k a b h later lt before (Some (Changed change)) is some =
    let le : h ≤ i = b.newest h (changes t h) 0 change (First (record { request = is; before = refl })) lt in
    absurd (omega arith)
quiet_at table t n i c k a b h later lt before (Some Polled) is some = (
  is,
  λ due.
      let le : h ≤ i = b.newest h c (suc k) a (Next b.gives (record { later = later; poll = is; due = due; between = before })) lt in
      absurd (omega arith),
)

pub open_in : (table : List Step) (t : CallTrace) (n i c k : ℕ) (a : Change) → ((h : ℕ) → h < n → t.request h ≡ None → ⊥) → IsNewestFrame table t n i c k a → Open table t n i c k a
open_in table t n i c k a some b = record { gives = b.gives; below = b.before; quiet = λ h later lt. quiet (suc h) h (omega arith) later lt }
  where
    quiet : (m h : ℕ) → h < m → i < h → h < n → (t.request h ≡ Some Polled) × ¬ IsDue table t i k h
    quiet zero h under later lt = absurd (omega arith)
    quiet (suc m) h under later lt =
        quiet_at table t n i c k a b h later lt (λ g more less. quiet m g (omega arith) more (omega arith)) (t.request h) refl (some h lt)

pub open_out : {A : Type 0} (p : Setup A) (t : CallTrace) (n i c k : ℕ) (l : Last A) → Open p.table t n i c k (change_of l) → l.state ≡ state_number p.first c → l.sequence ≡ sequence_number k → l.step ≡ step_of p.table k → l.given_at ≡ t.now i → HoldsNewest p t n l
open_out p t n i c k l o state sequence step given =
    record {
      call = i;
      c = c;
      k = k;
      newest = record {
        gives = o.gives;
        before = o.below;
        newest = λ j d m change g lt. elim (cases_lt i j) [
          | inl more ↦ absurd (open_none o more lt g)
          | inr le ↦ le
        ];
      };
      state = state;
      sequence = sequence;
      step = step;
      given_at = given;
    }

-- the calls go on by one

pub open_more : {table : List Step} {t : CallTrace} {n i c k : ℕ} {change : Change} → Open table t n i c k change → t.request n ≡ Some Polled → ¬ IsDue table t i k n → Open table t (suc n) i c k change
open_more {table} {t} {n} {i} {c} {k} {change} o poll not_due =
    let below : i < n = o.below in
    record {
      gives = o.gives;
      below = omega arith;
      quiet = λ h later lt. elim (cases_order h n) [
        | inl e ↦ (
          subst (λ (x : ℕ). t.request x ≡ Some Polled) (sym e) poll,
          λ due. not_due (subst (λ (x : ℕ). IsDue table t i k x) e due),
        )
        | inr (inl less) ↦ o.quiet h later less
        | inr (inr more) ↦ absurd (omega arith)
      ];
    }

pub open_next : {table : List Step} {t : CallTrace} {n i c k : ℕ} {change : Change} → Open table t n i c k change → t.request n ≡ Some Polled → IsDue table t i k n → Open table t (suc n) n c (suc k) change
open_next {table} {t} {n} {i} {c} {k} {change} o poll due =
    record {
      gives = Next o.gives (record { later = o.below; poll = poll; due = due; between = o.quiet });
      below = omega arith;
      quiet = λ h later lt. absurd (omega arith);
    }

pub open_first : {table : List Step} {t : CallTrace} {n : ℕ} {change : Change} → t.request n ≡ Some (Changed change) → Open table t (suc n) n (changes t n) 0 change
open_first is =
    record {
      gives = First (record { request = is; before = refl });
      below = omega arith;
      quiet = λ h later lt. absurd (omega arith);
    }

-- before any change nothing is given

pub changes_some : (t : CallTrace) (n i : ℕ) (change : Change) → i < n → t.request i ≡ Some (Changed change) → 0 < changes t n
changes_some t zero i change lt is = absurd (omega arith)
changes_some t (suc n) i change lt is =
    elim (cases_lt i n) [
      | inl less ↦ omega (arith, changes_some t n i change less is)
      | inr ge ↦
          let e : i ≡ n = omega arith in
          let one : changes_of (t.request n) ≡ 1 = ap changes_of (subst (λ (x : ℕ). t.request x ≡ Some (Changed change)) e is) in
          omega (arith, one)
    ]

pub gives_some : {table : List Step} {t : CallTrace} {i c k : ℕ} {change : Change} (n : ℕ) → i < n → GivesFrame table t i c k change → 0 < changes t n
gives_some {table} {t} {i} {c} {k} {change} n lt (First x) = changes_some t n i change lt x.request
gives_some {table} {t} {i} {c} {k} {change} n lt (Next {i = p} g w) = let less : p < i = w.later in gives_some n (omega arith) g

pub none_yet : (table : List Step) (t : CallTrace) (n : ℕ) → changes t n ≡ 0 → t.request n ≡ Some Polled → (c k : ℕ) (change : Change) → ¬ GivesFrame table t n c k change
none_yet table t n zero_yet poll c k change (First x) = changed-polled (t.request n) change x.request poll
none_yet table t n zero_yet poll c k change (Next g w) = let some = gives_some n w.later g in absurd (omega arith)

-- the steps

pub step_next : (table : List Step) (k : ℕ) → min (step_of table k + 1) (length table - 1) ≡ step_of table (suc k)
step_next table k = omega arith

pub poll_step : {A : Type 0} (p : Setup A) (t : CallTrace) (n : ℕ) (last : Option (Last A)) → t.request n ≡ Some Polled → ((h : ℕ) → h < n → t.request h ≡ None → ⊥) → PublisherHolds p t n last → PublisherHolds p t (suc n) (polled p.table last (t.now n)) × IsAnswer p t n (polled_frame p.control p.table last (t.now n))
poll_step p t n None poll some holds =
    let zero_more : changes_of (t.request n) ≡ 0 = ap changes_of poll in
    let still : changes t n + changes_of (t.request n) ≡ 0 = omega (arith, holds, zero_more) in
    (still, none_yet p.table t n holds poll)
poll_step p t n (Some l) poll some b = go (is_due p.table l (t.now n)) refl
  where
    o : Open p.table t n b.call b.c b.k (change_of l)
    o = open_in p.table t n b.call b.c b.k (change_of l) some b.newest

    wait_is : (step_at p.table l.step).wait_ms ≡ (step_at p.table (step_of p.table b.k)).wait_ms
    wait_is = ap (λ (s : ℕ). (step_at p.table s).wait_ms) b.step

    go : (d : Bool) → is_due p.table l (t.now n) ≡ d → PublisherHolds p t (suc n) (if d then Some (next_last p.table l (t.now n)) else Some l) × IsAnswer p t n (if d then Some (last_frame p.control p.table (next_last p.table l (t.now n))) else None)
    go true is =
        let over : l.given_at + 1000 * (step_at p.table l.step).wait_ms ≤ t.now n = leb-true _ _ is in
        let given : l.given_at ≡ t.now b.call = b.given_at in
        let due : IsDue p.table t b.call b.k n = omega (arith, over, given, wait_is) in
        let x = open_next o poll due in
        let q : number_behind l.sequence ≡ sequence_number (suc b.k) = ap number_behind b.sequence ∙ sym (sequence_number_next b.k) in
        let s : min (l.step + 1) (length p.table - 1) ≡ step_of p.table (suc b.k) = ap (λ (y : ℕ). min (y + 1) (length p.table - 1)) b.step ∙ step_next p.table b.k in (
          open_out p t (suc n) n b.c (suc b.k) (next_last p.table l (t.now n)) x b.state q s refl,
          record {
            c = b.c;
            k = suc b.k;
            change = change_of l;
            gives = x.gives;
            is_frame = ap (λ (y : ℕ). frame_with p.control (change_of l) y (number_behind l.sequence) (step_at p.table (min (l.step + 1) (length p.table - 1))).live_ms) b.state ∙
                ap (λ (y : ℕ). frame_with p.control (change_of l) (state_number p.first b.c) y (step_at p.table (min (l.step + 1) (length p.table - 1))).live_ms) q ∙
                ap (λ (y : ℕ). frame_with p.control (change_of l) (state_number p.first b.c) (sequence_number (suc b.k)) (step_at p.table y).live_ms) s;
          },
        )
    go false is =
        let early : t.now n < l.given_at + 1000 * (step_at p.table l.step).wait_ms = leb-false _ _ is in
        let given : l.given_at ≡ t.now b.call = b.given_at in
        let x = open_more o poll (λ due. let d : t.now b.call + 1000 * (step_at p.table (step_of p.table b.k)).wait_ms ≤ t.now n = due in absurd (omega (arith, d, early, given, wait_is))) in (
          open_out p t (suc n) b.call b.c b.k l x b.state b.sequence b.step b.given_at,
          λ c k change g. open_none x b.newest.before (omega arith) g,
        )

pub change_step : {A : Type 0} (p : Setup A) (t : CallTrace) (n : ℕ) (change : Change) → t.request n ≡ Some (Changed change) → PublisherHolds p t (suc n) (Some (first_last (state_number p.first (changes t n)) change (t.now n))) × IsAnswer p t n (Some (last_frame p.control p.table (first_last (state_number p.first (changes t n)) change (t.now n))))
change_step p t n change is =
    let s : 0 ≡ step_of p.table 0 = omega arith in
    let x = open_first {table = p.table} is in (
      open_out p t (suc n) n (changes t n) 0 (first_last (state_number p.first (changes t n)) change (t.now n)) x refl refl s refl,
      record {
        c = changes t n;
        k = 0;
        change = change;
        gives = x.gives;
        is_frame = ap (λ (y : ℕ). frame_with p.control change (state_number p.first (changes t n)) 0 (step_at p.table y).live_ms) s;
      },
    )

-- what gives a frame after the newest one is due

gives_due : {table : List Step} {t : CallTrace} {n i c k d m : ℕ} {a b : Change} → IsNewestFrame table t n i c k a → t.request n ≡ Some Polled → GivesFrame table t n d m b → IsDue table t i k n
gives_due {table} {t} {n} {i} {c} {k} {d} {m} {a} {b} w poll (First x) = absurd (changed-polled (t.request n) b x.request poll)
gives_due {table} {t} {n} {i} {c} {k} {d} {m} {a} {b} w poll (Next {i = p} {k = l} g v) =
    let le : p ≤ i = w.newest p d l b g v.later in
    elim (cases_order p i) [
      | inl e ↦
          let z = gives_one (subst (λ (x : ℕ). GivesFrame table t x d l b) e g) w.gives in
          due_same table t i l k n z.frame (subst (λ (x : ℕ). IsDue table t x l n) e v.due)
      | inr (inl lower) ↦ absurd (gives_apart g v lower w.before w.gives)
      | inr (inr higher) ↦ absurd (omega arith)
    ]

-- two frames of one call, the second of which is frame k + 1 of state c
pub poll_gives : (table : List Step) (t : CallTrace) (n : ℕ) → ((h : ℕ) → h < n → t.request h ≡ None → ⊥) → t.request n ≡ Some Polled → (i c k : ℕ) (change : Change) → IsNewestFrame table t n i c k change → (GivesFrame table t n c (suc k) change ↔ IsDue table t i k n) × ((d m : ℕ) (other : Change) → GivesFrame table t n d m other → (d ≡ c) × (m ≡ suc k) × (other ≡ change))
poll_gives table t n some poll i c k change w = (((λ g. gives_due w poll g), next_given), only)
  where
    next_given : IsDue table t i k n → GivesFrame table t n c (suc k) change
    next_given due = (open_next (open_in table t n i c k change some w) poll due).gives

    only : (d m : ℕ) (other : Change) → GivesFrame table t n d m other → (d ≡ c) × (m ≡ suc k) × (other ≡ change)
    only d m other g =
        let z = gives_one g (next_given (gives_due w poll g)) in
        (z.state, z.frame, z.change)

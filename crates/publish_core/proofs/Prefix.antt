-- What is said of the first n calls depends on these alone.
use Rattle.std.proofs.Common.{◌≡◌, ℕ, zero, suc, ◌+◌, ◌*◌, ◌<◌, ◌≤◌, Option, Some, None, List, sym, refl, ap, ◌∙◌, arith}
use Rattle.publish_core.specs.declared.table.Step.{Step}
use Rattle.publish_core.specs.declared.publisher.Last.{Last}
use Rattle.publish_core.specs.Table.{step_at, step_of}
use Rattle.publish_core.specs.Frames.{Setup, Change}
use Rattle.publish_core.specs.Run.{CallTrace, IsDue, IsNext, GivesFrame, First, Next, changes, changes_of}
use Rattle.publish_core.specs.State.{PublisherHolds}

pub record SameBelow (n : ℕ) (t u : CallTrace) : Type 0 where
  pub now : (i : ℕ) → i < n → t.now i ≡ u.now i
  pub request : (i : ℕ) → i < n → t.request i ≡ u.request i

pub same_sym : {n : ℕ} {t u : CallTrace} → SameBelow n t u → SameBelow n u t
same_sym a = record { now = λ i lt. sym (a.now i lt); request = λ i lt. sym (a.request i lt) }

pub changes_same : (n : ℕ) (t u : CallTrace) → SameBelow n t u → (i : ℕ) → i ≤ n → changes t i ≡ changes u i
changes_same n t u a zero le = refl
changes_same n t u a (suc i) le =
    let rest : changes t i ≡ changes u i = changes_same n t u a i (omega arith) in
    let here : changes_of (t.request i) ≡ changes_of (u.request i) = ap changes_of (a.request i (omega arith)) in
    omega (arith, rest, here)

pub due_as : {n : ℕ} {t u : CallTrace} (table : List Step) → SameBelow n t u → (i k j : ℕ) → i < n → j < n → IsDue table t i k j → IsDue table u i k j
due_as {n} {t} {u} table a i k j below lt d =
    let x : t.now i ≡ u.now i = a.now i below in
    let y : t.now j ≡ u.now j = a.now j lt in
    let z : t.now i + 1000 * (step_at table (step_of table k)).wait_ms ≤ t.now j = d in
    omega (arith, x, y, z)

pub next_same : {n : ℕ} {t u : CallTrace} (table : List Step) → SameBelow n t u → (i k j : ℕ) → j < n → IsNext table t i k j → IsNext table u i k j
next_same table a i k j lt w =
    let later : i < j = w.later in
    record {
      later = w.later;
      poll = sym (a.request j lt) ∙ w.poll;
      due = due_as table a i k j (omega arith) lt w.due;
      between = λ h more less. (
        sym (a.request h (omega arith)) ∙ (w.between h more less).0,
        λ due. (w.between h more less).1 (due_as table (same_sym a) i k h (omega arith) (omega arith) due),
      );
    }

pub gives_same : {n : ℕ} {t u : CallTrace} {table : List Step} → SameBelow n t u → {i c k : ℕ} {change : Change} → i < n → GivesFrame table t i c k change → GivesFrame table u i c k change
gives_same {n} {t} {u} {table} a {i} {c} {k} {change} lt (First x) =
    First (record { request = sym (a.request i lt) ∙ x.request; before = sym (changes_same n t u a i (omega arith)) ∙ x.before })
gives_same {n} {t} {u} {table} a {i} {c} {k} {change} lt (Next {i = p} {k = l} g w) =
    let later : p < i = w.later in
    Next (gives_same a (omega arith) g) (next_same table a p l i lt w)

pub holds_same : {A : Type 0} {n : ℕ} {t u : CallTrace} → SameBelow n t u → (p : Setup A) (last : Option (Last A)) → PublisherHolds p t n last → PublisherHolds p u n last
holds_same {A} {n} {t} {u} a p None e = sym (changes_same n t u a n (omega arith)) ∙ e
holds_same {A} {n} {t} {u} a p (Some l) b =
    record {
      call = b.call;
      c = b.c;
      k = b.k;
      newest = record {
        gives = gives_same a b.newest.before b.newest.gives;
        before = b.newest.before;
        newest = λ j d m change g lt. b.newest.newest j d m change (gives_same (same_sym a) lt g) lt;
      };
      state = b.state;
      sequence = b.sequence;
      step = b.step;
      given_at = b.given_at ∙ a.now b.call b.newest.before;
    }

-- One call at a publisher: what it gives and what it keeps are those of the whole list.
use Rattle.std.proofs.Common.{◌≡◌, ℕ, zero, suc, ◌+◌, ◌<◌, max, Option, Some, None, List, [], ◌∷◌, ◌++◌, length, slice_get, option_map, sym, refl, ap, ◌∙◌, subst, arith, take_all}
use Rattle.std.proofs.lemmas.Option.{none-some}
use Rattle.std.proofs.lemmas.List.{length_push, take-append-le}
use Rattle.publish_core.specs.declared.table.Step.{Step}
use Rattle.publish_core.specs.declared.control.Control.{Control}
use Rattle.publish_core.specs.Numbers.{state_number, number_behind}
use Rattle.publish_core.specs.Frames.{Setup, Change}
use Rattle.publish_core.specs.Run.{Changed, Polled, Call, call, CallTrace, changes, changes_of, greatest_call_moment, trace_of_calls, IsAnswer}
use Rattle.publish_core.specs.declared.fault.PublishFault.{PublishFault}
use Rattle.publish_core.specs.Refusal.{Accepts, IsAccepted, IsRefusal, Refuses}
use Rattle.publish_core.specs.State.{PublisherState, PublisherStandsAfter, PublisherHolds}
use Rattle.publish_core.specs.computed.Step.{polled, polled_frame, poll_frame, poll_state, change_frame, change_state, first_last, last_frame}
use Rattle.publish_core.proofs.NumberLaws.{state_number_next}
use Rattle.publish_core.proofs.Prefix.{SameBelow, holds_same, changes_same}
use Rattle.publish_core.proofs.Steps.{poll_step, change_step}

-- lists

pub get_front : {X : Type 0} (xs ys : List X) (i : ℕ) → i < length xs → slice_get (xs ++ ys) i ≡ slice_get xs i
get_front [] ys i lt = absurd (omega arith)
get_front (x ∷ xs) ys zero lt = refl
get_front (x ∷ xs) ys (suc i) lt = get_front xs ys i (omega arith)

get_pushed : {X : Type 0} (xs : List X) (y : X) → slice_get (xs ++ y ∷ []) (length xs) ≡ Some y
get_pushed [] y = refl
get_pushed (x ∷ xs) y = get_pushed xs y

get_some : {X : Type 0} (xs : List X) (i : ℕ) → i < length xs → slice_get xs i ≡ None → ⊥
get_some [] i lt e = absurd (omega arith)
get_some (x ∷ xs) zero lt e = none-some x (sym e)
get_some (x ∷ xs) (suc i) lt e = get_some xs i (omega arith) e

pub greatest-push : (calls : List Call) (e : Call) → greatest_call_moment (calls ++ e ∷ []) ≡ max (greatest_call_moment calls) e.moment
greatest-push [] e = omega arith
greatest-push (x ∷ xs) e = omega (arith, greatest-push xs e)

-- traces

pub trace_same : (calls : List Call) (e : Call) → SameBelow (length calls) (trace_of_calls calls) (trace_of_calls (calls ++ e ∷ []))
trace_same calls e =
    record {
      now = λ i lt. ap greatest_call_moment (sym (take-append-le (i + 1) calls (e ∷ []) (omega arith)));
      request = λ i lt. ap (option_map (λ (c : Call). c.request)) (sym (get_front calls (e ∷ []) i lt));
    }

pub trace_now : (calls : List Call) (e : Call) → (trace_of_calls (calls ++ e ∷ [])).now (length calls) ≡ max (greatest_call_moment calls) e.moment
trace_now calls e =
    ap greatest_call_moment (take_all (length calls + 1) (calls ++ e ∷ []) (omega (arith, length_push calls e))) ∙ greatest-push calls e

pub trace_request : (calls : List Call) (e : Call) → (trace_of_calls (calls ++ e ∷ [])).request (length calls) ≡ Some e.request
trace_request calls e = ap (option_map (λ (c : Call). c.request)) (get_pushed calls e)

trace_some : (calls : List Call) (e : Call) (h : ℕ) → h < length calls → (trace_of_calls (calls ++ e ∷ [])).request h ≡ None → ⊥
trace_some calls e h lt is = go (slice_get (calls ++ e ∷ []) h) (get_some (calls ++ e ∷ []) h (omega (arith, length_push calls e))) is
  where
    go : (o : Option Call) → (o ≡ None → ⊥) → option_map (λ (c : Call). c.request) o ≡ None → ⊥
    go None no_none is = no_none refl
    go (Some c) no_none is = none-some c.request (sym is)

pushed : (calls : List Call) (e : Call) → suc (length calls) ≡ length (calls ++ e ∷ [])
pushed calls e = omega (arith, length_push calls e)

pub poll_ok : {A : Type 0} (p : Setup A) (calls : List Call) (s : PublisherState A) (now : ℕ) → PublisherStandsAfter p calls s → IsAnswer p (trace_of_calls (calls ++ call now Polled ∷ [])) (length calls) (poll_frame s now) × PublisherStandsAfter p (calls ++ call now Polled ∷ []) (poll_state s now)
poll_ok {A} p calls s now w = (
  subst (λ (m : ℕ). IsAnswer p t n (polled_frame s.control s.table s.last m)) m_is
      (subst (λ (b : List Step). IsAnswer p t n (polled_frame s.control b s.last (t.now n))) (sym w.table)
      (subst (λ (c : Control A). IsAnswer p t n (polled_frame c p.table s.last (t.now n))) (sym w.control) step.1)),
  record {
    control = w.control;
    table = w.table;
    next = w.next ∙ ap (state_number p.first) count;
    moment = ap (λ (m : ℕ). max m now) w.moment ∙ sym (greatest-push calls e);
    holds =
        subst (λ (l : ℕ). PublisherHolds p t l (polled s.table s.last (max s.moment now))) (pushed calls e)
        (subst (λ (m : ℕ). PublisherHolds p t (suc n) (polled s.table s.last m)) m_is
        (subst (λ (b : List Step). PublisherHolds p t (suc n) (polled b s.last (t.now n))) (sym w.table) step.0));
  },
)
  where
    e : Call
    e = call now Polled

    t : CallTrace
    t = trace_of_calls (calls ++ call now Polled ∷ [])

    n : ℕ
    n = length calls

    m_is : t.now n ≡ max s.moment now
    m_is = trace_now calls (call now Polled) ∙ ap (λ (m : ℕ). max m now) (sym w.moment)

    step : PublisherHolds p t (suc n) (polled p.table s.last (t.now n)) × IsAnswer p t n (polled_frame p.control p.table s.last (t.now n))
    step = poll_step p t n s.last (trace_request calls (call now Polled)) (trace_some calls (call now Polled)) (holds_same (trace_same calls (call now Polled)) p s.last w.holds)

    count : changes (trace_of_calls calls) n ≡ changes t (length (calls ++ call now Polled ∷ []))
    count =
        let a : changes (trace_of_calls calls) n ≡ changes t n = changes_same n (trace_of_calls calls) t (trace_same calls (call now Polled)) n (omega arith) in
        let b : changes_of (t.request n) ≡ 0 = ap changes_of (trace_request calls (call now Polled)) in
        let c : changes (trace_of_calls calls) n ≡ changes t (suc n) = omega (arith, a, b) in
        c ∙ ap (changes t) (pushed calls (call now Polled))

pub change_ok : {A : Type 0} (p : Setup A) (calls : List Call) (s : PublisherState A) (change : Change) (now : ℕ) → PublisherStandsAfter p calls s → IsAnswer p (trace_of_calls (calls ++ call now (Changed change) ∷ [])) (length calls) (Some (change_frame s change now)) × PublisherStandsAfter p (calls ++ call now (Changed change) ∷ []) (change_state s change now)
change_ok {A} p calls s change now w = (
  subst (λ (m : ℕ). IsAnswer p t n (Some (last_frame s.control s.table (first_last s.next change m)))) m_is
      (subst (λ (x : ℕ). IsAnswer p t n (Some (last_frame s.control s.table (first_last x change (t.now n))))) (sym next_is)
      (subst (λ (b : List Step). IsAnswer p t n (Some (last_frame s.control b (first_last (state_number p.first (changes t n)) change (t.now n))))) (sym w.table)
      (subst (λ (c : Control A). IsAnswer p t n (Some (last_frame c p.table (first_last (state_number p.first (changes t n)) change (t.now n))))) (sym w.control) step.1))),
  record {
    control = w.control;
    table = w.table;
    next = ap number_behind next_is ∙ sym (state_number_next p.first (changes t n)) ∙ ap (state_number p.first) count;
    moment = ap (λ (m : ℕ). max m now) w.moment ∙ sym (greatest-push calls e);
    holds =
        subst (λ (l : ℕ). PublisherHolds p t l (Some (first_last s.next change (max s.moment now)))) (pushed calls e)
        (subst (λ (m : ℕ). PublisherHolds p t (suc n) (Some (first_last s.next change m))) m_is
        (subst (λ (x : ℕ). PublisherHolds p t (suc n) (Some (first_last x change (t.now n)))) (sym next_is) step.0));
  },
)
  where
    e : Call
    e = call now (Changed change)

    t : CallTrace
    t = trace_of_calls (calls ++ call now (Changed change) ∷ [])

    n : ℕ
    n = length calls

    m_is : t.now n ≡ max s.moment now
    m_is = trace_now calls (call now (Changed change)) ∙ ap (λ (m : ℕ). max m now) (sym w.moment)

    next_is : s.next ≡ state_number p.first (changes t n)
    next_is = w.next ∙ ap (state_number p.first) (changes_same n (trace_of_calls calls) t (trace_same calls (call now (Changed change))) n (omega arith))

    step : PublisherHolds p t (suc n) (Some (first_last (state_number p.first (changes t n)) change (t.now n))) × IsAnswer p t n (Some (last_frame p.control p.table (first_last (state_number p.first (changes t n)) change (t.now n))))
    step = change_step p t n change (trace_request calls (call now (Changed change)))

    count : changes t n + 1 ≡ changes t (length (calls ++ call now (Changed change) ∷ []))
    count =
        let b : changes_of (t.request n) ≡ 1 = ap changes_of (trace_request calls (call now (Changed change))) in
        let c : changes t n + 1 ≡ changes t (suc n) = omega (arith, b) in
        c ∙ ap (changes t) (pushed calls (call now (Changed change)))

-- what is accepted or refused by what is held, is so by the whole list
pub accepts_behind : {A : Type 0} (p : Setup A) (calls : List Call) (s : PublisherState A) (change : Change) → PublisherStandsAfter p calls s → IsAccepted s.control s.table s.next change → Accepts p calls change
accepts_behind {A} p calls s change w accepted =
    subst (λ (n : ℕ). IsAccepted p.control p.table n change) w.next
    (subst (λ (b : List Step). IsAccepted p.control b s.next change) w.table
    (subst (λ (c : Control A). IsAccepted c s.table s.next change) w.control accepted))

pub refuses_behind : {A : Type 0} (p : Setup A) (calls : List Call) (s : PublisherState A) (change : Change) (fault : PublishFault) → PublisherStandsAfter p calls s → IsRefusal s.control s.table s.next change fault → Refuses p calls change fault
refuses_behind {A} p calls s change fault w refused =
    subst (λ (n : ℕ). IsRefusal p.control p.table n change fault) w.next
    (subst (λ (b : List Step). IsRefusal p.control b s.next change fault) w.table
    (subst (λ (c : Control A). IsRefusal c s.table s.next change fault) w.control refused))

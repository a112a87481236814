-- A run of steps gives the answers of the whole list, and there are no others.
use Rattle.std.proofs.Common.{◌≡◌, ℕ, zero, suc, ◌+◌, ◌<◌, ◌≤◌, Option, Some, None, List, [], ◌∷◌, ◌++◌, length, slice_get, option_map, sym, refl, ap, ◌∙◌, subst, arith, append_assoc}
use Rattle.std.proofs.lemmas.Option.{none-some, same_Some}
use Rattle.std.proofs.lemmas.List.{length_push, take-append-le}
use Rattle.publish_core.specs.Numbers.{state_number}
use Rattle.frame_core.specs.declared.frame.Frame.{Frame}
use Rattle.publish_core.specs.Frames.{Setup, Change, frame}
use Rattle.publish_core.specs.Run.{Request, Changed, Polled, Call, call, CallTrace, greatest_call_moment, trace_of_calls, IsAnswer, AreAnswers}
use Rattle.publish_core.specs.Laws.{AnswersAreOne, AnswersAreThere, AnswersStay, PollsGive}
use Rattle.publish_core.specs.State.{PublisherState, PublisherStandsAfter}
use Rattle.publish_core.specs.computed.Step.{request_frame, request_state, run_calls, fresh_publisher}
use Rattle.publish_core.proofs.NumberLaws.{state_number_first}
use Rattle.publish_core.proofs.GivesOne.{gives_one}
use Rattle.publish_core.proofs.Prefix.{SameBelow, same_sym, gives_same}
use Rattle.publish_core.proofs.Steps.{poll_gives, none_yet}
use Rattle.publish_core.proofs.Whole.{poll_ok, change_ok, get_front}

-- one answer

pub answer_one : {A : Type 0} (p : Setup A) (t : CallTrace) (i : ℕ) (a b : Option (Frame A)) → IsAnswer p t i a → IsAnswer p t i b → a ≡ b
answer_one p t i None None x y = refl
answer_one p t i None (Some g) x y = absurd (x y.c y.k y.change y.gives)
answer_one p t i (Some f) None x y = absurd (y x.c x.k x.change x.gives)
answer_one {A} p t i (Some f) (Some g) x y =
    let z = gives_one x.gives y.gives in
    ap (λ (o : Frame A). Some o)
    (x.is_frame ∙
    ap (λ (c : ℕ). frame p.control p.table (state_number p.first c) x.change x.k) z.state ∙
    ap (λ (k : ℕ). frame p.control p.table (state_number p.first y.c) x.change k) z.frame ∙
    ap (λ (ch : Change). frame p.control p.table (state_number p.first y.c) ch y.k) z.change ∙
    sym y.is_frame)

list_same : {X : Type 0} (xs ys : List X) → length xs ≡ length ys → ((i : ℕ) (x y : X) → slice_get xs i ≡ Some x → slice_get ys i ≡ Some y → x ≡ y) → xs ≡ ys
list_same [] [] e h = refl
list_same [] (y ∷ ys) e h = absurd (omega arith)
list_same (x ∷ xs) [] e h = absurd (omega arith)
list_same {X} (x ∷ xs) (y ∷ ys) e h =
    ap (λ (z : X). z ∷ xs) (h 0 x y refl refl) ∙ ap (λ (zs : List X). y ∷ zs) (list_same xs ys (omega arith) (λ i. h (suc i)))

pub answers_are_one : {A : Type 0} → AnswersAreOne A
answers_are_one p calls xs ys a b =
    list_same xs ys (a.sizes ∙ sym b.sizes) (λ i x y e f. answer_one p (trace_of_calls calls) i x y (a.each i x e) (b.each i y f))

-- later calls change nothing

trace_longer : (calls later : List Call) → SameBelow (length calls) (trace_of_calls calls) (trace_of_calls (calls ++ later))
trace_longer calls later =
    record {
      now = λ i lt. ap greatest_call_moment (sym (take-append-le (i + 1) calls later (omega arith)));
      request = λ i lt. ap (option_map (λ (c : Call). c.request)) (sym (get_front calls later i lt));
    }

answer_same : {A : Type 0} {n : ℕ} {t u : CallTrace} → SameBelow n t u → (p : Setup A) (i : ℕ) (a : Option (Frame A)) → i < n → IsAnswer p t i a → IsAnswer p u i a
answer_same e p i None lt x = λ c k change g. x c k change (gives_same (same_sym e) lt g)
answer_same e p i (Some f) lt x = record { c = x.c; k = x.k; change = x.change; gives = gives_same e lt x.gives; is_frame = x.is_frame }

pub answers_stay : {A : Type 0} → AnswersStay A
answers_stay p calls later i a lt x = answer_same (trace_longer calls later) p i a lt x

-- a run

pub request_ok : {A : Type 0} (p : Setup A) (calls : List Call) (s : PublisherState A) (request : Request) (now : ℕ) → PublisherStandsAfter p calls s → IsAnswer p (trace_of_calls (calls ++ call now request ∷ [])) (length calls) (request_frame s request now) × PublisherStandsAfter p (calls ++ call now request ∷ []) (request_state s request now)
request_ok p calls s (Changed change) now w = change_ok p calls s change now w
request_ok p calls s Polled now w = poll_ok p calls s now w

run_length : {A : Type 0} (cs : List Call) (s : PublisherState A) → length (run_calls s cs) ≡ length cs
run_length [] s = refl
run_length (c ∷ cs) s = ap suc (run_length cs (request_state s c.request c.moment))

run_from : {A : Type 0} (p : Setup A) (cs before : List Call) (s : PublisherState A) → PublisherStandsAfter p before s → (i : ℕ) (a : Option (Frame A)) → slice_get (run_calls s cs) i ≡ Some a → IsAnswer p (trace_of_calls (before ++ cs)) (length before + i) a
run_from p [] before s w i a e = absurd (none-some a e)
run_from {A} p (c ∷ cs) before s w zero a is =
    let step = request_ok p before s c.request c.moment w in
    let here : IsAnswer p (trace_of_calls ((before ++ c ∷ []) ++ cs)) (length before) (request_frame s c.request c.moment) =
    answers_stay p (before ++ c ∷ []) cs (length before) (request_frame s c.request c.moment) (omega (arith, length_push before c)) step.0 in
    let there : IsAnswer p (trace_of_calls (before ++ c ∷ cs)) (length before) (request_frame s c.request c.moment) =
    subst (λ (l : List Call). IsAnswer p (trace_of_calls l) (length before) (request_frame s c.request c.moment)) (append_assoc before (c ∷ []) cs) here in
    let e : length before ≡ length before + 0 = omega arith in
    subst (λ (n : ℕ). IsAnswer p (trace_of_calls (before ++ c ∷ cs)) n a) e
    (subst (λ (x : Option (Frame A)). IsAnswer p (trace_of_calls (before ++ c ∷ cs)) (length before) x) (same_Some (request_frame s c.request c.moment) a is) there)
run_from {A} p (c ∷ cs) before s w (suc i) a is =
    let step = request_ok p before s c.request c.moment w in
    let rest = run_from p cs (before ++ c ∷ []) (request_state s c.request c.moment) step.1 i a is in
    let e : length (before ++ c ∷ []) + i ≡ length before + suc i = omega (arith, length_push before c) in
    subst (λ (n : ℕ). IsAnswer p (trace_of_calls (before ++ c ∷ cs)) n a) e
    (subst (λ (l : List Call). IsAnswer p (trace_of_calls l) (length (before ++ c ∷ []) + i) a) (append_assoc before (c ∷ []) cs) rest)

pub fresh_stands : {A : Type 0} (p : Setup A) → 0 < p.first → p.first ≤ 4294967295 → PublisherStandsAfter p [] (fresh_publisher p)
fresh_stands p some most =
    record { control = refl; table = refl; next = sym (state_number_first p.first some most); moment = refl; holds = refl }

pub runs_are_whole : {A : Type 0} (p : Setup A) (calls : List Call) → 0 < p.first → p.first ≤ 4294967295 → AreAnswers p calls (run_calls (fresh_publisher p) calls)
runs_are_whole p calls some most = record {
  sizes = run_length calls (fresh_publisher p);
  each = λ i a is.
      let e : 0 + i ≡ i = omega arith in
      subst (λ (n : ℕ). IsAnswer p (trace_of_calls calls) n a) e (run_from p calls [] (fresh_publisher p) (fresh_stands p some most) i a is);
}

pub answers_are_there : {A : Type 0} → AnswersAreThere A
answers_are_there p calls some most = (run_calls (fresh_publisher p) calls, runs_are_whole p calls some most)

-- polls

get_less : {X : Type 0} (xs : List X) (i j : ℕ) (x : X) → slice_get xs j ≡ Some x → i < j → slice_get xs i ≡ None → ⊥
get_less [] i j x e lt n = none-some x e
get_less (y ∷ xs) zero j x e lt n = none-some y (sym n)
get_less (y ∷ xs) (suc i) zero x e lt n = absurd (omega arith)
get_less (y ∷ xs) (suc i) (suc j) x e lt n = get_less xs i j x e (omega arith) n

request_less : (calls : List Call) (n h : ℕ) (a : Request) → (trace_of_calls calls).request n ≡ Some a → h < n → (trace_of_calls calls).request h ≡ None → ⊥
request_less calls n h a is lt none = go (slice_get calls n) (slice_get calls h) refl refl is none
  where
    go : (o q : Option Call) → slice_get calls n ≡ o → slice_get calls h ≡ q → option_map (λ (c : Call). c.request) o ≡ Some a → option_map (λ (c : Call). c.request) q ≡ None → ⊥
    go None q e f x y = none-some a x
    go (Some c) None e f x y = get_less calls h n c e lt f
    go (Some c) (Some d) e f x y = none-some d.request (sym y)

pub polls_give : PollsGive
polls_give table calls n poll =
    let gives = poll_gives table (trace_of_calls calls) n (λ h lt. request_less calls n h Polled poll lt) poll in
    record {
      where_due = λ i c k change newest. (gives i c k change newest).0;
      no_other = λ i c k change newest. (gives i c k change newest).1;
      none_yet = λ zero_yet c k change. none_yet table (trace_of_calls calls) n zero_yet poll c k change;
    }

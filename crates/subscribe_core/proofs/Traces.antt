-- What a block sees of a list with one more event.
use Rattle.std.proofs.Common.{◌≡◌, ℕ, zero, suc, ◌+◌, ◌<◌, ◌≤◌, Bool, true, false, not, ◌&&◌, ◌||◌, nat_lt, Option, Some, List, [], ◌∷◌, ◌++◌, length, slice_get, sym, refl, ap, ap₂, ◌∙◌, arith, take_all}
use Rattle.std.proofs.lemmas.Bool.{false≢true}
use Rattle.std.proofs.lemmas.List.{take-append-le}
use Rattle.block_core.specs.declared.block.Block.{Block}
use Rattle.subscribe_core.specs.EventsRead.{EventRead, Content, OfGoose, OfSampled, OfFault, OfClock, OfMode}
use Rattle.subscribe_core.specs.Simulation.{some_below, holds_at, is_plain_simulated, is_off, mode_by, last_mode, mode_at, invites, sets_off, takes_simulated, is_switched}
use Rattle.subscribe_core.specs.Sight.{facts_of, facts_at, greatest_event_moment, trace_of_block}
use Rattle.subscribe_core.specs.computed.Steps.{switch_by, flag_by}
use Rattle.subscribe_core.proofs.Flags.{taken_by, taken_step}
use Rattle.subscribe_core.proofs.Prefix.{SameBelow}

pub get_front : {X : Type 0} (xs ys : List X) (i : ℕ) → i < length xs → slice_get (xs ++ ys) i ≡ slice_get xs i
get_front [] ys i lt = absurd (omega arith)
get_front (x ∷ xs) ys zero lt = refl
get_front (x ∷ xs) ys (suc i) lt = get_front xs ys i (omega arith)

pub get_pushed : {X : Type 0} (xs : List X) (y : X) → slice_get (xs ++ y ∷ []) (length xs) ≡ Some y
get_pushed [] y = refl
get_pushed (x ∷ xs) y = get_pushed xs y

pub get_middle : {X : Type 0} (xs : List X) (y : X) (ys : List X) → slice_get (xs ++ y ∷ ys) (length xs) ≡ Some y
get_middle [] y ys = refl
get_middle (x ∷ xs) y ys = get_middle xs y ys

-- tests that agree below n

some_same : (n : ℕ) (p q : ℕ → Bool) → ((j : ℕ) → j < n → p j ≡ q j) → some_below n p ≡ some_below n q
some_same zero p q h = refl
some_same (suc n) p q h = ap₂ (λ x y. x || y) (h n (omega arith)) (some_same n p q (λ j lt. h j (omega arith)))

taken_agree : (n : ℕ) (a b off out : ℕ → Bool) → ((j : ℕ) → j < n → a j ≡ b j) → ((j : ℕ) → j < n → off j ≡ out j) → taken_by a off n ≡ taken_by b out n
taken_agree n a b off out h k =
    some_same n (λ j. a j && not (some_below n (λ k. nat_lt j k && off k))) (λ j. b j && not (some_below n (λ k. nat_lt j k && out k)))
    (λ j lt. ap₂ (λ x y. x && not y) (h j lt) (some_same n (λ k. nat_lt j k && off k) (λ k. nat_lt j k && out k) (λ i less. ap (λ y. nat_lt j i && y) (k i less))))

-- the parts of a trace, below the end of the list

pub mode_front : (events later : List EventRead) (i : ℕ) → i ≤ length events → mode_at (events ++ later) i ≡ mode_at events i
mode_front events later i le = ap (last_mode false) (take-append-le i events later le)

invites_front : {A : Type 0} → (b : Block A) (events later : List EventRead) (i : ℕ) → i < length events → invites b (events ++ later) i ≡ invites b events i
invites_front b events later i lt =
    ap₂ (λ (x : Option EventRead) (m : Bool). holds_at (is_plain_simulated b) x && m) (get_front events later i lt) (mode_front events later i (omega arith))

off_front : (events later : List EventRead) (i : ℕ) → i < length events → sets_off (events ++ later) i ≡ sets_off events i
off_front events later i lt = ap (holds_at is_off) (get_front events later i lt)

pub takes_front : {A : Type 0} → (b : Block A) (events later : List EventRead) (i : ℕ) → i ≤ length events → takes_simulated b (events ++ later) i ≡ takes_simulated b events i
takes_front b events later i le =
    taken_agree i (invites b (events ++ later)) (invites b events) (sets_off (events ++ later)) (sets_off events)
    (λ j lt. invites_front b events later j (omega arith)) (λ j lt. off_front events later j (omega arith))

good_front : {A : Type 0} → (b : Block A) (events later : List EventRead) (i : ℕ) → i < length events → (trace_of_block b (events ++ later)).good i ≡ (trace_of_block b events).good i
good_front b events later i lt =
    ap (λ (x : Option EventRead). facts_at b (mode_at (events ++ later) i) (takes_simulated b (events ++ later) i) x) (get_front events later i lt) ∙
    (ap (λ m. facts_at b m (takes_simulated b (events ++ later) i) (slice_get events i)) (mode_front events later i (omega arith)) ∙
    ap (λ s. facts_at b (mode_at events i) s (slice_get events i)) (takes_front b events later i (omega arith)))

pub switched_front : {A : Type 0} → (b : Block A) (events later : List EventRead) (i : ℕ) → i < length events → is_switched b (events ++ later) i ≡ is_switched b events i
switched_front b events later i lt =
    ap (λ x. (x && not (takes_simulated b (events ++ later) i)) || (sets_off (events ++ later) i && takes_simulated b (events ++ later) i)) (invites_front b events later i lt) ∙
    (ap (λ x. (invites b events i && not (takes_simulated b (events ++ later) i)) || (x && takes_simulated b (events ++ later) i)) (off_front events later i lt) ∙
    ap (λ x. (invites b events i && not x) || (sets_off events i && x)) (takes_front b events later i (omega arith)))

pub front_same : {A : Type 0} → (b : Block A) (events later : List EventRead) → SameBelow (length events) (trace_of_block b events) (trace_of_block b (events ++ later))
front_same b events later =
    record {
      now = λ i lt. ap greatest_event_moment (sym (take-append-le (i + 1) events later (omega arith)));
      good = λ i lt. sym (good_front b events later i lt);
      switched = λ i lt. sym (switched_front b events later i lt);
    }

-- and at the new event, by the mode and the flag that are kept

last_mode-push : (m : Bool) (events : List EventRead) (e : EventRead) → last_mode m (events ++ e ∷ []) ≡ mode_by e.content (last_mode m events)
last_mode-push m [] e = refl
last_mode-push m (x ∷ xs) e = last_mode-push (mode_by x.content m) xs e

pub mode_new : (events : List EventRead) (e : EventRead) → mode_at (events ++ e ∷ []) (length events) ≡ last_mode false events
mode_new events e =
    mode_front events (e ∷ []) (length events) (omega arith) ∙ ap (last_mode false) (take_all (length events) events (omega arith))

invites_new : {A : Type 0} → (b : Block A) (events : List EventRead) (e : EventRead) → invites b (events ++ e ∷ []) (length events) ≡ (is_plain_simulated b e.content && last_mode false events)
invites_new b events e =
    ap₂ (λ (x : Option EventRead) (m : Bool). holds_at (is_plain_simulated b) x && m) (get_pushed events e) (mode_new events e)

off_new : (events : List EventRead) (e : EventRead) → sets_off (events ++ e ∷ []) (length events) ≡ is_off e.content
off_new events e = ap (holds_at is_off) (get_pushed events e)

pub switched_new : {A : Type 0} → (b : Block A) (events : List EventRead) (e : EventRead) → (trace_of_block b (events ++ e ∷ [])).switched (length events) ≡ switch_by b (last_mode false events) (takes_simulated b events (length events)) e.content
switched_new b events e =
    let n : ℕ = length events in
    let l : List EventRead = events ++ e ∷ [] in
    ap (λ x. (x && not (takes_simulated b (events ++ e ∷ []) (length events))) || (sets_off (events ++ e ∷ []) (length events) && takes_simulated b (events ++ e ∷ []) (length events))) (invites_new b events e) ∙
    (ap (λ x. ((is_plain_simulated b e.content && last_mode false events) && not (takes_simulated b (events ++ e ∷ []) (length events))) || (x && takes_simulated b (events ++ e ∷ []) (length events))) (off_new events e) ∙
    ap (λ x. ((is_plain_simulated b e.content && last_mode false events) && not x) || (is_off e.content && x)) (takes_front b events (e ∷ []) (length events) (omega arith)))

-- no event both invites and sets the mode off
not_both : {A : Type 0} → (b : Block A) (k : Content) (m : Bool) → is_off k ≡ true → (is_plain_simulated b k && m) ≡ false
not_both b (OfGoose f) m e = absurd (false≢true e)
not_both b OfSampled m e = refl
not_both b (OfFault x) m e = refl
not_both b OfClock m e = refl
not_both b (OfMode on) m e = refl

pub flag_new : {A : Type 0} → (b : Block A) (events : List EventRead) (e : EventRead) → takes_simulated b (events ++ e ∷ []) (length events + 1) ≡ flag_by b (last_mode false events) (takes_simulated b events (length events)) e.content
flag_new b events e =
    taken_step (invites b (events ++ e ∷ [])) (sets_off (events ++ e ∷ [])) (length events)
    (λ o. invites_new b events e ∙ not_both b e.content (last_mode false events) (sym (off_new events e) ∙ o)) ∙
    (ap (λ x. not x && (invites b (events ++ e ∷ []) (length events) || takes_simulated b (events ++ e ∷ []) (length events))) (off_new events e) ∙
    (ap (λ x. not (is_off e.content) && (x || takes_simulated b (events ++ e ∷ []) (length events))) (invites_new b events e) ∙
    ap (λ x. not (is_off e.content) && ((is_plain_simulated b e.content && last_mode false events) || x)) (takes_front b events (e ∷ []) (length events) (omega arith))))

pub mode_kept : (events : List EventRead) (e : EventRead) → last_mode false (events ++ e ∷ []) ≡ mode_by e.content (last_mode false events)
mode_kept events e = last_mode-push false events e

pub good_new : {A : Type 0} → (b : Block A) (events : List EventRead) (e : EventRead) → (trace_of_block b (events ++ e ∷ [])).good (length events) ≡ facts_of b (last_mode false events) (takes_simulated b events (length events)) e.content
good_new b events e =
    ap (facts_at b (mode_at (events ++ e ∷ []) (length events)) (takes_simulated b (events ++ e ∷ []) (length events))) (get_pushed events e) ∙
    (ap (λ m. facts_of b m (takes_simulated b (events ++ e ∷ []) (length events)) e.content) (mode_new events e) ∙
    ap (λ s. facts_of b (last_mode false events) s e.content) (takes_front b events (e ∷ []) (length events) (omega arith)))

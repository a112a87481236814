-- Entries in runs: what is held when one run changes or is cut.
use Rattle.std.proofs.Common.{◌≡◌, ℕ, zero, suc, ◌+◌, ◌-◌, ◌<◌, ◌≤◌, List, [], ◌∷◌, ◌++◌, length, take, drop, get_or, set, Result, Ok, Err, OnErr, OnOk, ap, sym, ◌∙◌, refl, subst, arith, inl, inr, append_assoc, zero-add, add-one, drop-cons, vec_capacity}
use Rattle.std.specs.List.{flat_map, insert}
use Rattle.std.specs.declared.vec.Vec.{Vec}
use Rattle.std.proofs.lemmas.Bool.{cases_lt}
use Rattle.std.proofs.lemmas.List.{append-nil, get_or_default, length-append, length-drop, length-set, length-take-le, set-append_left, set-append_right, take-append-drop}
use Rattle.std.proofs.lemmas.List.Concat.{flat_map-append, get_or-flat_map}
use Rattle.std.proofs.lemmas.List.Edits.{insert-append_left, insert-append_right, insert_end, length-insert}
use Rattle.known_core.specs.declared.runs.Runs.{Runs}
use Rattle.known_core.specs.declared.runs.Place.{Place}
use Rattle.known_core.specs.computed.Held.{AreRuns, IsRun, held, in_run, in_runs}
use Rattle.known_core.specs.computed.RunSteps.{MovesPlace}

module _ {X Y : Type 0} (f : Y → List X) where
  -- one run, and those before and behind it
  pub parted : (ys : List Y) (i : ℕ) (d : Y) → i < length ys → flat_map f ys ≡ flat_map f (take i ys) ++ (f (get_or ys i d) ++ flat_map f (drop (suc i) ys))
  parted ys i d lt =
      ap (flat_map f) (sym (take-append-drop i ys)) ∙ flat_map-append f (take i ys) (drop i ys)
      ∙ ap (λ (l : List Y). flat_map f (take i ys) ++ flat_map f l) (drop-cons ys i d lt)

  -- a write in a run
  pub written : (ys : List Y) (i at : ℕ) (d y : Y) (x : X) → i < length ys → at < length (f (get_or ys i d)) → f y ≡ set (f (get_or ys i d)) at x
      → flat_map f (set ys i y) ≡ set (flat_map f ys) (length (flat_map f (take i ys)) + at) x
  written [] i at d y x lt within is = absurd (omega arith)
  written (z ∷ ys) zero at d y x lt within is =
      ap (λ (l : List X). l ++ flat_map f ys) is ∙ sym (set-append_left (f z) (flat_map f ys) at x within) ∙ ap (λ (n : ℕ). set (f z ++ flat_map f ys) n x) (sym (zero-add at))
  written (z ∷ ys) (suc i) at d y x lt within is =
      let n = length (flat_map f (take i ys)) in
      let size : length (f z ++ flat_map f (take i ys)) ≡ length (f z) + n = length-append (f z) (flat_map f (take i ys)) in
      let left : length (f z ++ flat_map f (take i ys)) + at - length (f z) ≡ n + at = omega arith in
      ap (λ (l : List X). f z ++ l) (written ys i at d y x (omega arith) within is)
      ∙ ap (λ (m : ℕ). f z ++ set (flat_map f ys) m x) (sym left)
      ∙ sym (set-append_right (f z) (flat_map f ys) (length (f z)) (length (f z ++ flat_map f (take i ys)) + at) x refl (omega arith))

  -- a run whose entries stay
  pub same_in : (ys : List Y) (i : ℕ) (d y : Y) → f y ≡ f (get_or ys i d) → flat_map f (set ys i y) ≡ flat_map f ys
  same_in [] i d y is = refl
  same_in (z ∷ ys) zero d y is = ap (λ (l : List X). l ++ flat_map f ys) is
  same_in (z ∷ ys) (suc i) d y is = ap (λ (l : List X). f z ++ l) (same_in ys i d y is)

  -- one more in a run
  pub put_in : (ys : List Y) (i at : ℕ) (d y : Y) (x : X) → i < length ys → at ≤ length (f (get_or ys i d)) → f y ≡ insert (f (get_or ys i d)) at x
      → flat_map f (set ys i y) ≡ insert (flat_map f ys) (length (flat_map f (take i ys)) + at) x
  put_in [] i at d y x lt within is = absurd (omega arith)
  put_in (z ∷ ys) zero at d y x lt within is =
      ap (λ (l : List X). l ++ flat_map f ys) is ∙ sym (insert-append_left (f z) (flat_map f ys) at x within) ∙ ap (λ (n : ℕ). insert (f z ++ flat_map f ys) n x) (sym (zero-add at))
  put_in (z ∷ ys) (suc i) at d y x lt within is =
      let n = length (flat_map f (take i ys)) in
      let size : length (f z ++ flat_map f (take i ys)) ≡ length (f z) + n = length-append (f z) (flat_map f (take i ys)) in
      let left : length (f z ++ flat_map f (take i ys)) + at - length (f z) ≡ n + at = omega arith in
      ap (λ (l : List X). f z ++ l) (put_in ys i at d y x (omega arith) within is)
      ∙ ap (λ (m : ℕ). f z ++ insert (flat_map f ys) m x) (sym left)
      ∙ sym (insert-append_right (f z) (flat_map f ys) (length (f z)) (length (f z ++ flat_map f (take i ys)) + at) x refl (omega arith))

  -- a run that is cut in two
  pub cut_same : (ys : List Y) (i : ℕ) (d a b : Y) → i < length ys → f (get_or ys i d) ≡ f a ++ f b → flat_map f (insert (set ys i a) (suc i) b) ≡ flat_map f ys
  cut_same [] i d a b lt is = absurd (omega arith)
  cut_same (z ∷ ys) zero d a b lt is = sym (append_assoc (f a) (f b) (flat_map f ys)) ∙ ap (λ (l : List X). l ++ flat_map f ys) (sym is)
  cut_same (z ∷ ys) (suc i) d a b lt is = ap (λ (l : List X). f z ++ l) (cut_same ys i d a b (omega arith) is)

module _ {Y : Type 0} where
  -- the runs before those that a cut leaves, and these
  pub cut_before : (ys : List Y) (i : ℕ) (a b : Y) → i < length ys → take i (insert (set ys i a) (suc i) b) ≡ take i ys
  cut_before [] i a b lt = absurd (omega arith)
  cut_before (z ∷ ys) zero a b lt = refl
  cut_before (z ∷ ys) (suc i) a b lt = ap (λ (l : List Y). z ∷ l) (cut_before ys i a b (omega arith))

  pub cut_front : (ys : List Y) (i : ℕ) (a b : Y) → i < length ys → take (suc i) (insert (set ys i a) (suc i) b) ≡ take i ys ++ a ∷ []
  cut_front [] i a b lt = absurd (omega arith)
  cut_front (z ∷ ys) zero a b lt = refl
  cut_front (z ∷ ys) (suc i) a b lt = ap (λ (l : List Y). z ∷ l) (cut_front ys i a b (omega arith))

  pub cut_first : (ys : List Y) (i : ℕ) (a b d : Y) → i < length ys → get_or (insert (set ys i a) (suc i) b) i d ≡ a
  cut_first [] i a b d lt = absurd (omega arith)
  cut_first (z ∷ ys) zero a b d lt = refl
  cut_first (z ∷ ys) (suc i) a b d lt = cut_first ys i a b d (omega arith)

  pub cut_second : (ys : List Y) (i : ℕ) (a b d : Y) → i < length ys → get_or (insert (set ys i a) (suc i) b) (suc i) d ≡ b
  cut_second [] i a b d lt = absurd (omega arith)
  cut_second (z ∷ ys) zero a b d lt = refl
  cut_second (z ∷ ys) (suc i) a b d lt = cut_second ys i a b d (omega arith)

  pub cut_size : (ys : List Y) (i : ℕ) (a b : Y) → i < length ys → length (insert (set ys i a) (suc i) b) ≡ suc (length ys)
  cut_size [] i a b lt = absurd (omega arith)
  cut_size (z ∷ ys) zero a b lt = refl
  cut_size (z ∷ ys) (suc i) a b lt = ap suc (cut_size ys i a b (omega arith))

  -- what holds of each, if it holds of what is written and put in
  pub each_set : (P : Y → Type 0) (ys : List Y) (i : ℕ) (a : Y) → P a → ((j : ℕ) (d : Y) → j < length ys → P (get_or ys j d)) → (j : ℕ) (d : Y) → j < length (set ys i a) → P (get_or (set ys i a) j d)
  each_set P [] i a p each j d lt = each j d lt
  each_set P (z ∷ ys) zero a p each zero d lt = p
  each_set P (z ∷ ys) zero a p each (suc j) d lt = each (suc j) d lt
  each_set P (z ∷ ys) (suc i) a p each zero d lt = each zero d (omega arith)
  each_set P (z ∷ ys) (suc i) a p each (suc j) d lt = each_set P ys i a p (λ k e within. each (suc k) e (omega arith)) j d (omega arith)

  pub each_cut : (P : Y → Type 0) (ys : List Y) (i : ℕ) (a b : Y) → i < length ys → P a → P b → ((j : ℕ) (d : Y) → j < length ys → P (get_or ys j d)) → (j : ℕ) (d : Y) → j < length (insert (set ys i a) (suc i) b) → P (get_or (insert (set ys i a) (suc i) b) j d)
  each_cut P [] i a b in_it p q each j d lt = absurd (omega arith)
  each_cut P (z ∷ ys) zero a b in_it p q each zero d lt = p
  each_cut P (z ∷ ys) zero a b in_it p q each (suc zero) d lt = q
  each_cut P (z ∷ ys) zero a b in_it p q each (suc (suc j)) d lt = each (suc j) d (omega arith)
  each_cut P (z ∷ ys) (suc i) a b in_it p q each zero d lt = each zero d (omega arith)
  each_cut P (z ∷ ys) (suc i) a b in_it p q each (suc j) d lt = each_cut P ys i a b (omega arith) p q (λ k e within. each (suc k) e (omega arith)) j d (omega arith)

  pub each_push : (P : Y → Type 0) (ys : List Y) (a : Y) → P a → ((j : ℕ) (d : Y) → j < length ys → P (get_or ys j d)) → (j : ℕ) (d : Y) → j < length (ys ++ a ∷ []) → P (get_or (ys ++ a ∷ []) j d)
  each_push P [] a p each zero d lt = p
  each_push P [] a p each (suc j) d lt = absurd (omega arith)
  each_push P (z ∷ ys) a p each zero d lt = each zero d (omega arith)
  each_push P (z ∷ ys) a p each (suc j) d lt = each_push P ys a p (λ k e within. each (suc k) e (omega arith)) j d (omega arith)

  -- what holds of each but the last
  pub many_set : (P : Y → Type 0) (ys : List Y) (i : ℕ) (a : Y) → ((d : Y) → P (get_or ys i d) → P a) → ((j : ℕ) (d : Y) → suc j < length ys → P (get_or ys j d)) → (j : ℕ) (d : Y) → suc j < length (set ys i a) → P (get_or (set ys i a) j d)
  many_set P [] i a p many j d lt = many j d lt
  many_set P (z ∷ ys) zero a p many zero d lt = p d (many zero d lt)
  many_set P (z ∷ ys) zero a p many (suc j) d lt = many (suc j) d lt
  many_set P (z ∷ ys) (suc i) a p many zero d lt = let size : length (set ys i a) ≡ length ys = length-set ys i a in many zero d (omega arith)
  many_set P (z ∷ ys) (suc i) a p many (suc j) d lt = many_set P ys i a p (λ k e within. many (suc k) e (omega arith)) j d (omega arith)

  pub many_cut : (P : Y → Type 0) (ys : List Y) (i : ℕ) (a b : Y) → i < length ys → P a → P b → ((j : ℕ) (d : Y) → suc j < length ys → P (get_or ys j d)) → (j : ℕ) (d : Y) → suc j < length (insert (set ys i a) (suc i) b) → P (get_or (insert (set ys i a) (suc i) b) j d)
  many_cut P [] i a b in_it p q many j d lt = absurd (omega arith)
  many_cut P (z ∷ ys) zero a b in_it p q many zero d lt = p
  many_cut P (z ∷ ys) zero a b in_it p q many (suc zero) d lt = q
  many_cut P (z ∷ ys) zero a b in_it p q many (suc (suc j)) d lt = many (suc j) d (omega arith)
  many_cut P (z ∷ ys) (suc i) a b in_it p q many zero d lt = many zero d (omega arith)
  many_cut P (z ∷ ys) (suc i) a b in_it p q many (suc j) d lt = many_cut P ys i a b (omega arith) p q (λ k e within. many (suc k) e (omega arith)) j d (omega arith)

  pub many_push : (P : Y → Type 0) (ys : List Y) (a : Y) → ((j : ℕ) (d : Y) → suc j ≡ length ys → P (get_or ys j d)) → ((j : ℕ) (d : Y) → suc j < length ys → P (get_or ys j d)) → (j : ℕ) (d : Y) → suc j < length (ys ++ a ∷ []) → P (get_or (ys ++ a ∷ []) j d)
  many_push P [] a last many j d lt = absurd (omega arith)
  many_push P (z ∷ []) a last many zero d lt = last zero d refl
  many_push P (z ∷ []) a last many (suc j) d lt = absurd (omega arith)
  many_push P (z ∷ y ∷ ys) a last many zero d lt = many zero d (omega arith)
  many_push P (z ∷ y ∷ ys) a last many (suc j) d lt = many_push P (y ∷ ys) a (λ k e is. last (suc k) e (omega arith)) (λ k e within. many (suc k) e (omega arith)) j d (omega arith)

take_fits : {Y : Type 0} (n : ℕ) (ys : List Y) → length (take n ys) ≤ length ys
take_fits zero ys = omega arith
take_fits (suc n) [] = omega arith
take_fits (suc n) (y ∷ ys) = let le : length (take n ys) ≤ length ys = take_fits n ys in omega arith

-- a part from a place on is no longer than what is from there on
pub part_fits : {Y : Type 0} (n from : ℕ) (ys : List Y) → length (take n (drop from ys)) ≤ length ys - from
part_fits n from ys =
    let le : length (take n (drop from ys)) ≤ length (drop from ys) = take_fits n (drop from ys) in
    let size : length (drop from ys) ≡ length ys - from = length-drop from ys in
    omega arith

module _ {E A : Type 0} where
  -- a run has 32 entries or more
  abbrev pub HasMany : Vec E A → Type 0
  HasMany run = 32 ≤ length (in_run run)

  many_of : (runs : List (Vec E A)) → AreRuns runs → (j : ℕ) (d : Vec E A) → suc j < length runs → HasMany (get_or runs j d)
  many_of runs are j d lt = are.many j d (omega arith)

  -- runs of which one has another entry, or one more
  runs_set : (runs : List (Vec E A)) (i : ℕ) (after : Vec E A) → ((d : Vec E A) → length (in_run (get_or runs i d)) ≤ length (in_run after)) → IsRun after → AreRuns runs → AreRuns (set runs i after)
  runs_set runs i after more is are = record {
    each = each_set (λ (v : Vec E A). IsRun v) runs i after is are.each;
    many = λ j d lt. many_set HasMany runs i after (λ e has. grown (get_or runs i e) (more e) has) (many_of runs are) j d (omega arith);
  }
    where
      grown : (before : Vec E A) → length (in_run before) ≤ length (in_run after) → HasMany before → HasMany after
      grown before le has = omega arith

  runs_cut : (runs : List (Vec E A)) (i : ℕ) (a b : Vec E A) → i < length runs → IsRun a → IsRun b → HasMany a → HasMany b → AreRuns runs → AreRuns (insert (set runs i a) (suc i) b)
  runs_cut runs i a b within is_a is_b many_a many_b are = record {
    each = each_cut (λ (v : Vec E A). IsRun v) runs i a b within is_a is_b are.each;
    many = λ j d lt. many_cut HasMany runs i a b within many_a many_b (many_of runs are) j d (omega arith);
  }

  runs_push : (runs : List (Vec E A)) (a : Vec E A) → IsRun a → ((j : ℕ) (d : Vec E A) → suc j ≡ length runs → HasMany (get_or runs j d)) → AreRuns runs → AreRuns (runs ++ a ∷ [])
  runs_push runs a is last are = record {
    each = each_push (λ (v : Vec E A). IsRun v) runs a is are.each;
    many = λ j d lt. many_push HasMany runs a last (many_of runs are) j d (omega arith);
  }

-- what follows from what holds of a success holds of it, and the same of a failure
pub on_success : {T F : Type 0} (r : Result T F) (P Q : Type 0) → (P → Q) → OnOk r P → OnOk r Q
on_success (Ok t) P Q f p = f p
on_success (Err e) P Q f p = p

pub on_failure : {T F : Type 0} (r : Result T F) (P Q : Type 0) → (P → Q) → OnErr r P → OnErr r Q
on_failure (Ok t) P Q f p = p
on_failure (Err e) P Q f p = f p

-- what holds of a thing that was read at a place holds of the thing there
pub read_any : {Y : Type 0} (P : Y → Type 0) (ys : List Y) (i : ℕ) (y : Y) → i < length ys → y ≡ get_or ys i y → P y → (d : Y) → P (get_or ys i d)
read_any P ys i y lt is p d = subst P (is ∙ get_or_default ys i y d lt) p

module _ {E A : Type 0} (runs : List (Vec E A)) (r : ℕ) (run : Vec E A) (within : r < length runs) (is : run ≡ get_or runs r run) where
  -- the one at a place
  pub one_at : (at : ℕ) (one : E) → at < length (in_run (get_or runs r run)) → one ≡ get_or (in_run run) at one → (d : E) → get_or (in_runs runs) (length (in_runs (take r runs)) + at) d ≡ one
  one_at at one lt there d =
      get_or-flat_map in_run runs r at run d within lt ∙ ap (λ (v : Vec E A). get_or (in_run v) at d) (sym is)
      ∙ get_or_default (in_run run) at d one (subst (λ (v : Vec E A). at < length (in_run v)) (sym is) lt) ∙ sym there

  -- the run was one so
  before : AreRuns runs → IsRun run
  before are = subst (λ (v : Vec E A). IsRun v) (sym is) (are.each r run within)

  -- a run that has no fewer entries than this one, and no more room beside them
  longer : (after : Vec E A) → length (in_run run) ≤ length (in_run after) → (d : Vec E A) → length (in_run (get_or runs r d)) ≤ length (in_run after)
  longer after le d = subst (λ (v : Vec E A). length (in_run v) ≤ length (in_run after)) (is ∙ get_or_default runs r run d within) le

  roomy : (after : Vec E A) → IsRun run → vec_capacity after ≤ vec_capacity run → length (in_run run) ≤ length (in_run after) → vec_capacity after ≤ length (in_run after) + 8
  roomy after was le more = let had : vec_capacity run ≤ length (in_run run) + 8 = was.room in omega arith

  -- another in its place
  pub one_written : (at : ℕ) (after : Vec E A) (one : E) → at < length (in_run (get_or runs r run)) → in_run after ≡ set (in_run run) at one → vec_capacity after ≡ vec_capacity run
      → (in_runs (set runs r after) ≡ set (in_runs runs) (length (in_runs (take r runs)) + at) one) × (AreRuns runs → AreRuns (set runs r after))
  one_written at after one lt same room =
      let lt_here : at < length (in_run run) = subst (λ (v : Vec E A). at < length (in_run v)) (sym is) lt in
      let size : length (in_run after) ≡ length (in_run run) = ap length same ∙ length-set (in_run run) at one in (
        written in_run runs r at run after one within lt (same ∙ ap (λ (v : Vec E A). set (in_run v) at one) is),
        λ are. runs_set runs r after (longer after (omega arith)) (record { some = omega arith; room = roomy after (before are) (omega arith) (omega arith) }) are,
      )

  -- the entries of a run stay, and the room for them is another
  pub one_kept : (after : Vec E A) → in_run after ≡ in_run run → (vec_capacity run ≤ length (in_run run) + 8 → vec_capacity after ≤ length (in_run after) + 8)
      → (in_runs (set runs r after) ≡ in_runs runs) × (AreRuns runs → AreRuns (set runs r after))
  one_kept after same room =
      let size : length (in_run after) ≡ length (in_run run) = ap length same in (
        same_in in_run runs r run after (same ∙ ap in_run is),
        λ are. let some : 0 < length (in_run run) = (before are).some in runs_set runs r after (longer after (omega arith)) (record { some = omega arith; room = room (before are).room }) are,
      )

  -- one more at a place
  pub one_put : (at : ℕ) (after : Vec E A) (one : E) → at ≤ length (in_run (get_or runs r run)) → in_run after ≡ insert (in_run run) at one → (vec_capacity run ≤ length (in_run run) + 8 → vec_capacity after ≤ length (in_run after) + 8)
      → (in_runs (set runs r after) ≡ insert (in_runs runs) (length (in_runs (take r runs)) + at) one) × (AreRuns runs → AreRuns (set runs r after))
  one_put at after one le same room =
      let le_here : at ≤ length (in_run run) = subst (λ (v : Vec E A). at ≤ length (in_run v)) (sym is) le in
      let size : length (in_run after) ≡ length (in_run run) + 1 = ap length same ∙ length-insert (in_run run) at one le_here in (
        put_in in_run runs r at run after one within le (same ∙ ap (λ (v : Vec E A). insert (in_run v) at one) is),
        λ are. runs_set runs r after (longer after (omega arith)) (record { some = omega arith; room = room (before are).room }) are,
      )

-- nothing is held in no run
pub none_are : {E A : Type 0} (runs : List (Vec E A)) → runs ≡ [] → AreRuns runs
none_are {E} {A} runs none = subst (λ (l : List (Vec E A)). AreRuns l) (sym none) (record { each = λ i d lt. absurd (none_below lt); many = λ i d lt. absurd (none_below lt) })
  where
    none_below : {i : ℕ} → i < 0 → ⊥
    none_below h = omega arith

-- one in a run of its own, behind all others
pub one_begun : {E A : Type 0} (runs : List (Vec E A)) (at : ℕ) (run : Vec E A) (one : E) → at ≡ length (in_runs runs) → in_run run ≡ one ∷ [] → vec_capacity run ≡ 8
    → ((i : ℕ) (d : Vec E A) → i + 1 ≡ length runs → 32 ≤ length (in_run (get_or runs i d))) → (in_runs (runs ++ run ∷ []) ≡ insert (in_runs runs) at one) × (AreRuns runs → AreRuns (runs ++ run ∷ []))
one_begun {E} runs at run one last alone room full =
    let size : length (in_run run) ≡ 1 = ap length alone in (
      flat_map-append in_run runs (run ∷ []) ∙ ap (λ (l : List E). in_runs runs ++ l) (append-nil (in_run run) ∙ alone)
          ∙ sym (insert_end (in_runs runs) one) ∙ ap (λ (n : ℕ). insert (in_runs runs) n one) (sym last),
      λ are. runs_push runs run (record { some = omega arith; room = omega arith }) (λ j d e. full j d (omega arith)) are,
    )

-- a run is cut in two
module _ {E A : Type 0} (old new : Runs E A) (place : Place) (run front behind : Vec E A) (half : ℕ) (within : place.run < length old.runs.items) (is : run ≡ get_or old.runs.items place.run run) (in_front : in_run front ≡ take half (in_run run)) (in_behind : in_run behind ≡ drop half (in_run run)) (some : 32 ≤ half) (less : half + 32 ≤ length (in_run run)) (front_room : vec_capacity front ≡ half) (behind_room : vec_capacity behind ≡ length (in_run run) - half) (le : place.at ≤ length (in_run run)) (cut : new.runs.items ≡ insert (set old.runs.items place.run front) (place.run + 1) behind) where
  cut_is : new.runs.items ≡ insert (set old.runs.items place.run front) (suc place.run) behind
  cut_is = cut ∙ ap (λ (n : ℕ). insert (set old.runs.items place.run front) n behind) (add-one place.run)

  front_size : length (in_run front) ≡ half
  front_size = ap length in_front ∙ length-take-le half (in_run run) (omega arith)

  behind_size : length (in_run behind) ≡ length (in_run run) - half
  behind_size = ap length in_behind ∙ length-drop half (in_run run)

  same_held : held new ≡ held old
  same_held =
      ap in_runs cut_is
      ∙ cut_same in_run old.runs.items place.run run front behind within
      (ap in_run (sym is) ∙ sym (take-append-drop half (in_run run)) ∙ ap (λ (l : List E). l ++ drop half (in_run run)) (sym in_front) ∙ ap (λ (l : List E). in_run front ++ l) (sym in_behind))

  runs_more : length new.runs.items ≡ suc (length old.runs.items)
  runs_more = ap length cut_is ∙ cut_size old.runs.items place.run front behind within

  runs_then : AreRuns old.runs.items → AreRuns new.runs.items
  runs_then are =
      let a : length (in_run front) ≡ half = front_size in
      let b : length (in_run behind) ≡ length (in_run run) - half = behind_size in
      subst (λ (l : List (Vec E A)). AreRuns l) (sym cut_is)
      (runs_cut old.runs.items place.run front behind within (record { some = omega arith; room = omega arith }) (record { some = omega arith; room = omega arith }) (omega arith) (omega arith) are)

  cut_low : place.at ≤ half → MovesPlace old new place place
  cut_low low =
      let more : length new.runs.items ≡ suc (length old.runs.items) = runs_more in record {
        same = same_held;
        position = ap (λ (l : List (Vec E A)). length (in_runs l) + place.at) (ap (take place.run) cut_is ∙ cut_before old.runs.items place.run front behind within);
        takes = record {
          in_run = λ d lt.
              let there : get_or new.runs.items place.run d ≡ front = ap (λ (l : List (Vec E A)). get_or l place.run d) cut_is ∙ cut_first old.runs.items place.run front behind d within in
              let size : length (in_run (get_or new.runs.items place.run d)) ≡ half = ap (λ (v : Vec E A). length (in_run v)) there ∙ front_size in omega arith;
          first = λ past. absurd (omega arith);
        };
        within = omega arith;
        runs = runs_then;
      }

  cut_high : half < place.at → MovesPlace old new place (record { run = place.run + 1; at = place.at - half })
  cut_high high =
      let more : length new.runs.items ≡ suc (length old.runs.items) = runs_more in
      let fronts : take (place.run + 1) new.runs.items ≡ take place.run old.runs.items ++ front ∷ [] =
      ap (λ (n : ℕ). take n new.runs.items) (add-one place.run) ∙ ap (take (suc place.run)) cut_is ∙ cut_front old.runs.items place.run front behind within in
      let joined : in_runs (take place.run old.runs.items ++ front ∷ []) ≡ in_runs (take place.run old.runs.items) ++ in_run front =
      flat_map-append in_run (take place.run old.runs.items) (front ∷ []) ∙ ap (λ (l : List E). in_runs (take place.run old.runs.items) ++ l) (append-nil (in_run front)) in
      let size : length (in_runs (take (place.run + 1) new.runs.items)) ≡ length (in_runs (take place.run old.runs.items)) + half =
      ap (λ (l : List (Vec E A)). length (in_runs l)) fronts ∙ ap length joined ∙ length-append (in_runs (take place.run old.runs.items)) (in_run front) ∙ ap (λ (n : ℕ). length (in_runs (take place.run old.runs.items)) + n) front_size in record {
        same = same_held;
        position = omega arith;
        takes = record {
          in_run = λ d lt.
              let there : get_or new.runs.items (place.run + 1) d ≡ behind =
              ap (λ (n : ℕ). get_or new.runs.items n d) (add-one place.run) ∙ ap (λ (l : List (Vec E A)). get_or l (suc place.run) d) cut_is ∙ cut_second old.runs.items place.run front behind d within in
              let left : length (in_run (get_or new.runs.items (place.run + 1) d)) ≡ length (in_run run) - half = ap (λ (v : Vec E A). length (in_run v)) there ∙ behind_size in omega arith;
          first = λ past. absurd (omega arith);
        };
        within = omega arith;
        runs = runs_then;
      }

  pub cut_moves : (moved : Place) → (place.at ≤ half → moved ≡ place) → (half < place.at → moved ≡ record { run = place.run + 1; at = place.at - half }) → MovesPlace old new place moved
  cut_moves moved before past = elim (cases_lt half place.at) [
    | inl high ↦ subst (λ (p : Place). MovesPlace old new place p) (sym (past high)) (cut_high high)
    | inr low ↦ subst (λ (p : Place). MovesPlace old new place p) (sym (before low)) (cut_low low)
  ]

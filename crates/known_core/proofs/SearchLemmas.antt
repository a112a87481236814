-- What a search in one run tells of all that is held.
use Rattle.std.proofs.Common.{◌≡◌, ℕ, zero, suc, ◌+◌, ◌-◌, ◌<◌, ◌≤◌, true, false, List, [], ◌∷◌, ◌++◌, length, take, drop, get_or, Result, Ok, Err, ap, sym, ◌∙◌, refl, subst, arith, inl, inr, add-one, drop-cons}
use Rattle.std.specs.List.Sorted.{IsBinarySearchResult, IsSearchInRange}
use Rattle.std.specs.Ordering.{is_gt, ordering_index}
use Rattle.std.specs.declared.cmp.Ordering.{Ordering}
use Rattle.std.specs.declared.cmp.Ordering.TheVariants.{Less, Equal, Greater}
use Rattle.std.specs.declared.vec.Vec.{Vec}
use Rattle.std.proofs.lemmas.Bool.{cases_lt}
use Rattle.std.proofs.lemmas.List.{get_or-append-add, get_or_append_left, length-append, length-drop}
use Rattle.known_core.specs.declared.runs.Runs.{Runs}
use Rattle.known_core.specs.computed.Held.{InOrderFor, IsAt, IsCompact, IsGap, NoneEmpty, in_run, in_runs}
use Rattle.known_core.specs.computed.RunSteps.{AnswersSearch, IsRunOf, begins_behind}
use Rattle.known_core.proofs.RunLemmas.{parted}

-- no run of what is compact is empty
pub none_empty : {E A : Type 0} (known : Runs E A) → IsCompact known → NoneEmpty known
none_empty known compact i d lt = (compact.each i d lt).some

-- what a binary search answers
pub searched : {E : Type 0} (by : E → Ordering) (run : List E) (r : Result ℕ ℕ) → IsSearchInRange r (length run) → IsBinarySearchResult by run r → AnswersSearch by run r
searched by run (Ok at) within equal = record { within = within; is = equal }
searched by run (Err at) within parts = (
  within,
  λ order. record { within = within; below = λ i d lt. (parts order).0 i d (omega arith) lt; above = λ i d le lt. (parts order).1 i d le lt },
)

-- one that comes no later than one before what is looked for, and one no sooner than one behind it
less_before : (a b : Ordering) → ordering_index a ≤ ordering_index b → b ≡ Less → a ≡ Less
less_before Less b le e = refl
less_before Equal Less le e = absurd (omega arith)
less_before Equal Equal le e = cc
less_before Equal Greater le e = cc
less_before Greater Less le e = absurd (omega arith)
less_before Greater Equal le e = cc
less_before Greater Greater le e = cc

greater_behind : (a b : Ordering) → ordering_index a ≤ ordering_index b → a ≡ Greater → b ≡ Greater
greater_behind Less b le e = cc
greater_behind Equal b le e = cc
greater_behind Greater Less le e = absurd (omega arith)
greater_behind Greater Equal le e = absurd (omega arith)
greater_behind Greater Greater le e = refl

is_greater : (o : Ordering) → is_gt o ≡ true → o ≡ Greater
is_greater Less e = cc
is_greater Equal e = cc
is_greater Greater e = refl

not_greater : (o : Ordering) → is_gt o ≡ false → o ≡ Greater → ⊥
not_greater Less e g = cc
not_greater Equal e g = cc
not_greater Greater e g = cc

-- a run among others: its entries, those before and those behind it
module _ {E : Type 0} (by : E → Ordering) (before run behind : List E) where
  in_it : (k : ℕ) (d : E) → k < length run → get_or (before ++ (run ++ behind)) (length before + k) d ≡ get_or run k d
  in_it k d lt = get_or-append-add before (run ++ behind) k d ∙ get_or_append_left run behind d k lt

  behind_it : (k : ℕ) (d : E) → get_or (before ++ (run ++ behind)) (length before + (length run + k)) d ≡ get_or behind k d
  behind_it k d = get_or-append-add before (run ++ behind) (length run + k) d ∙ get_or-append-add run behind k d

  size : length (before ++ (run ++ behind)) ≡ length before + (length run + length behind)
  size = length-append before (run ++ behind) ∙ ap (λ (n : ℕ). length before + n) (length-append run behind)

  stands_in : (i : ℕ) (d : E) → length before ≤ i → i - length before < length run → by (get_or (before ++ (run ++ behind)) i d) ≡ by (get_or run (i - length before) d)
  stands_in i d le lt =
      let there : i ≡ length before + (i - length before) = omega arith in
      ap (λ (n : ℕ). by (get_or (before ++ (run ++ behind)) n d)) there ∙ ap by (in_it (i - length before) d lt)

  run_in_order : InOrderFor by (before ++ (run ++ behind)) → InOrderFor by run
  run_in_order order i j d le within =
      let all : length (before ++ (run ++ behind)) ≡ length before + (length run + length behind) = size in
      subst (λ (x : E). ordering_index (by x) ≤ ordering_index (by (get_or run j d))) (in_it i d (omega arith))
      (subst (λ (x : E). ordering_index (by (get_or (before ++ (run ++ behind)) (length before + i) d)) ≤ ordering_index (by x)) (in_it j d within)
      (order (length before + i) (length before + j) d (omega arith) (omega arith)))

  at_among : (at : ℕ) → IsAt by run at → IsAt by (before ++ (run ++ behind)) (length before + at)
  at_among at there =
      let all : length (before ++ (run ++ behind)) ≡ length before + (length run + length behind) = size in
      let lt : at < length run = there.within in
      record { within = omega arith; is = λ d. ap by (in_it at d there.within) ∙ there.is d }

  -- the first of a run that does not begin behind the gap comes before it
  first_less : (at : ℕ) (d : E) → IsGap by run at → 0 < length run → is_gt (by (get_or run 0 d)) ≡ false → by (get_or run 0 d) ≡ Less
  first_less at d gap some here = elim (cases_lt 0 at) [
    | inl below ↦ gap.below 0 d below
    | inr above ↦ absurd (not_greater (by (get_or run 0 d)) here (gap.above 0 d above some))
  ]

  gap_among : (at : ℕ) → at ≤ length run → (InOrderFor by run → IsGap by run at) → 0 < length run
      → (0 < length before → (d : E) → is_gt (by (get_or run 0 d)) ≡ false) → (0 < length behind → (d : E) → is_gt (by (get_or behind 0 d)) ≡ true)
      → InOrderFor by (before ++ (run ++ behind)) → IsGap by (before ++ (run ++ behind)) (length before + at)
  gap_among at le gap_in some here next order =
      let all : length (before ++ (run ++ behind)) ≡ length before + (length run + length behind) = size in
      let gap = gap_in (run_in_order order) in
      record {
        within = omega arith;
        below = λ i d lt. elim (cases_lt i (length before)) [
          | inl front ↦
              less_before (by (get_or (before ++ (run ++ behind)) i d)) (by (get_or (before ++ (run ++ behind)) (length before + 0) d))
              (order i (length before + 0) d (omega arith) (omega arith)) (ap by (in_it 0 d some) ∙ first_less at d gap some (here (omega arith) d))
          | inr from ↦ stands_in i d from (omega arith) ∙ gap.below (i - length before) d (omega arith)
        ];
        above = λ i d from lt. elim (cases_lt i (length before + length run)) [
          | inl inside ↦ stands_in i d (omega arith) (omega arith) ∙ gap.above (i - length before) d (omega arith) (omega arith)
          | inr past ↦
              greater_behind (by (get_or (before ++ (run ++ behind)) (length before + (length run + 0)) d)) (by (get_or (before ++ (run ++ behind)) i d))
              (order (length before + (length run + 0)) i d (omega arith) lt)
              (ap by (behind_it 0 d) ∙ is_greater (by (get_or behind 0 d)) (next (omega arith) d))
        ];
      }

-- the test whether a run begins behind what is looked for asks its first entry
begins_by : {E : Type 0} (by : E → Ordering) (run : List E) (d : E) → 0 < length run → begins_behind by run ≡ is_gt (by (get_or run 0 d))
begins_by by [] d some = absurd (omega arith)
begins_by by (x ∷ xs) d some = refl

none_before_first : {E A : Type 0} (runs : List (Vec E A)) (r : ℕ) → 0 < length (in_runs (take r runs)) → 0 < r
none_before_first runs zero some = absurd (omega arith)
none_before_first runs (suc r) some = omega arith

some_left : {E A : Type 0} (runs : List (Vec E A)) → 0 < length (in_runs runs) → 0 < length runs
some_left [] some = absurd (omega arith)
some_left (x ∷ runs) some = omega arith

module _ {E A : Type 0} (by : E → Ordering) (runs : List (Vec E A)) (r : ℕ) (run : Vec E A) (within : r < length runs) (is : run ≡ get_or runs r run) where
  whole : in_runs runs ≡ in_runs (take r runs) ++ (in_run run ++ in_runs (drop (suc r) runs))
  whole = parted in_run runs r run within ∙ ap (λ (v : Vec E A). in_runs (take r runs) ++ (in_run v ++ in_runs (drop (suc r) runs))) (sym is)

  pub found_at : (at : ℕ) → IsAt by (in_run run) at → IsAt by (in_runs runs) (length (in_runs (take r runs)) + at)
  found_at at there =
      subst (λ (l : List E). IsAt by l (length (in_runs (take r runs)) + at)) (sym whole) (at_among by (in_runs (take r runs)) (in_run run) (in_runs (drop (suc r) runs)) at there)

  pub gap_at : (at : ℕ) → at ≤ length (in_run run) → (InOrderFor by (in_run run) → IsGap by (in_run run) at) → IsRunOf by runs r → ((i : ℕ) (d : Vec E A) → i < length runs → 0 < length (in_run (get_or runs i d)))
      → InOrderFor by (in_runs runs) → IsGap by (in_runs runs) (length (in_runs (take r runs)) + at)
  gap_at at le gap of none_empty order =
      let some : 0 < length (in_run run) = subst (λ (v : Vec E A). 0 < length (in_run v)) (sym is) (none_empty r run within) in
      subst (λ (l : List E). IsGap by l (length (in_runs (take r runs)) + at)) (sym whole)
      (gap_among by (in_runs (take r runs)) (in_run run) (in_runs (drop (suc r) runs)) at le gap some
      (λ front d. sym (begins_by by (in_run run) d some) ∙ ap (λ (v : Vec E A). begins_behind by (in_run v)) is ∙ of.here (none_before_first runs r front) run)
      (λ rest d. next_first of none_empty d (some_left (drop (suc r) runs) rest))
      (subst (λ (l : List E). InOrderFor by l) whole order))
    where
      next_first : IsRunOf by runs r → ((i : ℕ) (d : Vec E A) → i < length runs → 0 < length (in_run (get_or runs i d))) → (d : E) → 0 < length (drop (suc r) runs) → is_gt (by (get_or (in_runs (drop (suc r) runs)) 0 d)) ≡ true
      next_first of none_empty d left =
          let size : length (drop (suc r) runs) ≡ length runs - suc r = length-drop (suc r) runs in
          let there : suc r < length runs = omega arith in
          let next = get_or runs (suc r) run in
          let some : 0 < length (in_run next) = none_empty (suc r) run there in
          let parts : in_runs (drop (suc r) runs) ≡ in_run next ++ in_runs (drop (suc (suc r)) runs) = ap in_runs (drop-cons runs (suc r) run there) in
          ap (λ (l : List E). is_gt (by (get_or l 0 d))) parts
          ∙ ap (λ (x : E). is_gt (by x)) (get_or_append_left (in_run next) (in_runs (drop (suc (suc r)) runs)) d 0 some)
          ∙ sym (begins_by by (in_run next) d some) ∙ ap (λ (n : ℕ). begins_behind by (in_run (get_or runs n run))) (sym (add-one r)) ∙ of.next (omega arith) run

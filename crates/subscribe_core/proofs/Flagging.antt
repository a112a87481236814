-- The positions of the blocks that take simulated frames: what writes of registers do to them, and their order.
use Rattle.std.proofs.Common.{◌≡◌, ℕ, zero, suc, ◌+◌, ◌<◌, ◌≤◌, ◌==◌, Bool, true, false, not, ◌&&◌, ◌||◌, if◌then◌else◌, Option, Some, None, List, [], ◌∷◌, ◌++◌, length, get_or, set, slice_get, take, sym, ap, ap₂, ◌∙◌, arith, subst, append_assoc, refl, inl, inr}
use Rattle.std.proofs.lemmas.Bool.{cases_Bool, cases_eq, cases_order, cond-true, cond-false, eq-eqb, ne_eqb, false≢true}
use Rattle.std.proofs.lemmas.List.{map-append, take_more}
use Rattle.std.proofs.lemmas.List.Sorted.{IsNonDecreasingBy-from_sort, sum_by-IsPermutation}
use Rattle.std.proofs.lemmas.List.Sums.{sum_by-cons}
use Rattle.std.proofs.lemmas.Option.{none-some, same_Some}
use Rattle.std.specs.List.{sum_by}
use Rattle.std.specs.Prelude.{IfSome, option_to_list}
use Rattle.std.specs.List.Sorted.{IsNonDecreasingBy, IsPermutation, IsSorted}
use Rattle.std.specs.Ordering.{nat_cmp}
use Rattle.list_core.specs.declared.event.EventKind.{EventKind}
use Rattle.list_core.specs.declared.event.EventKind.TheVariants as kinds
use Rattle.block_core.specs.declared.block.Block.{Block}
use Rattle.subscribe_core.specs.declared.deadlines.Deadlines.{Deadlines}
use Rattle.subscribe_core.specs.declared.entry.Entry.{Entry}
use Rattle.subscribe_core.specs.declared.entry.Entry.TheVariants as says
use Rattle.subscribe_core.specs.declared.names.Name.{Name}
use Rattle.subscribe_core.specs.declared.registers.Register.{Register}
use Rattle.subscribe_core.specs.EventsRead.{FrameRead}
use Rattle.subscribe_core.specs.Looks.{other_reaches, switched_count}
use Rattle.subscribe_core.specs.State.{idle}
use Rattle.subscribe_core.specs.computed.Deadlines.{due_count, helds}
use Rattle.subscribe_core.specs.computed.Flagged.{AreFlagged, flag_at, flagged_count, flagged_positions, switched_at, times}
use Rattle.subscribe_core.specs.computed.Indexed.{IsIndexed, flagged_entries, switched_off, switched_off_one, switches}
use Rattle.subscribe_core.specs.computed.Steps.{is_dead}

-- the flag of a register that is read or written

pub flag_of : (rs : List Register) (at : ℕ) (r : Register) → slice_get rs at ≡ Some r → flag_at rs at ≡ r.takes_simulated
flag_of [] at r e = absurd (none-some r e)
flag_of (x ∷ xs) zero r e = ap (λ (y : Register). y.takes_simulated) (same_Some x r e)
flag_of (x ∷ xs) (suc at) r e = flag_of xs at r e

pub flag_within : (rs : List Register) (at : ℕ) → flag_at rs at ≡ true → at < length rs
flag_within [] at e = absurd (false≢true e)
flag_within (x ∷ xs) zero e = omega arith
flag_within (x ∷ xs) (suc at) e = let rest : at < length xs = flag_within xs at e in omega arith

flag_set_here : (rs : List Register) (at : ℕ) (new : Register) → at < length rs → flag_at (set rs at new) at ≡ new.takes_simulated
flag_set_here [] at new lt = absurd (omega arith)
flag_set_here (x ∷ xs) zero new lt = refl
flag_set_here (x ∷ xs) (suc at) new lt = flag_set_here xs at new (omega arith)

flag_set_other : (rs : List Register) (at p : ℕ) (new : Register) → (p ≡ at → ⊥) → flag_at (set rs at new) p ≡ flag_at rs p
flag_set_other [] at p new ne = refl
flag_set_other (x ∷ xs) zero zero new ne = absurd (ne refl)
flag_set_other (x ∷ xs) zero (suc p) new ne = refl
flag_set_other (x ∷ xs) (suc at) zero new ne = refl
flag_set_other (x ∷ xs) (suc at) (suc p) new ne = flag_set_other xs at p new (λ e. ne (ap suc e))

within : (rs : List Register) (at : ℕ) (r : Register) → slice_get rs at ≡ Some r → at < length rs
within [] at r e = absurd (none-some r e)
within (x ∷ xs) zero r e = omega arith
within (x ∷ xs) (suc at) r e = let rest : at < length xs = within xs at r e in omega arith

-- once for a flag, and else not at all
abbrev pub once : Bool → ℕ
once b = if b then 1 else 0

-- a good frame that switches its block sets the flag, and any other leaves it

pub flag_set : (r : Register) (f : FrameRead) → switches r f ≡ true → (r.takes_simulated ≡ false) × (true ≡ (r.takes_simulated || f.pdu.simulation))
flag_set r f e = go r.takes_simulated f.pdu.simulation e
  where
    go : (flag simulated : Bool) → (simulated && not flag) ≡ true → (flag ≡ false) × (true ≡ (flag || simulated))
    go true true e = absurd (false≢true e)
    go true false e = absurd (false≢true e)
    go false true e = (refl, refl)
    go false false e = absurd (false≢true e)

pub flag_left : (r : Register) (f : FrameRead) → switches r f ≡ false → r.takes_simulated ≡ (r.takes_simulated || f.pdu.simulation)
flag_left r f e = go r.takes_simulated f.pdu.simulation e
  where
    go : (flag simulated : Bool) → (simulated && not flag) ≡ false → flag ≡ (flag || simulated)
    go true simulated e = refl
    go false true e = absurd (false≢true (sym e))
    go false false e = refl

-- how often a position stands in a list

times_push_here : (at : ℕ) (ps : List ℕ) → times at (ps ++ at ∷ []) ≡ times at ps + 1
times_push_here at [] = ap (λ (b : Bool). if b then 1 else 0) (eq-eqb at at refl)
times_push_here at (q ∷ qs) =
    let rest : times at (qs ++ at ∷ []) ≡ times at qs + 1 = times_push_here at qs in
    elim (cases_Bool (q == at)) [
      | inl e ↦ rw e (omega arith)
      | inr e ↦ rw e rest
    ]

times_push_other : (at p : ℕ) (ps : List ℕ) → (p ≡ at → ⊥) → times p (ps ++ at ∷ []) ≡ times p ps
times_push_other at p [] ne = ap (λ (b : Bool). if b then 1 else 0) (ne_eqb at p (λ e. ne (sym e)))
times_push_other at p (q ∷ qs) ne =
    let rest : times p (qs ++ at ∷ []) ≡ times p qs = times_push_other at p qs ne in
    elim (cases_Bool (q == p)) [
      | inl e ↦ rw e (omega arith)
      | inr e ↦ rw e rest
    ]

times_sum : (p : ℕ) (ps : List ℕ) → times p ps ≡ sum_by (λ (q : ℕ). once (q == p)) ps
times_sum p [] = refl
times_sum p (q ∷ qs) =
    let rest : times p qs ≡ sum_by (λ (q : ℕ). once (q == p)) qs = times_sum p qs in
    let more : sum_by (λ (q : ℕ). once (q == p)) (q ∷ qs) ≡ once (q == p) + sum_by (λ (q : ℕ). once (q == p)) qs = sum_by-cons (λ (q : ℕ). once (q == p)) q qs in
    elim (cases_Bool (q == p)) [
      | inl e ↦
          let a : times p (q ∷ qs) ≡ times p qs + 1 = cond-true _ (times p qs + 1) (times p qs) e in
          let b : once (q == p) ≡ 1 = ap once e in
          omega arith
      | inr e ↦
          let a : times p (q ∷ qs) ≡ times p qs = cond-false _ (times p qs + 1) (times p qs) e in
          let b : once (q == p) ≡ 0 = ap once e in
          omega arith
    ]

-- another order of the positions says the same
pub flagged_permuted : (ps qs : List ℕ) (rs : List Register) → IsPermutation ps qs → AreFlagged ps rs → AreFlagged qs rs
flagged_permuted ps qs rs moved all p =
    times_sum p qs ∙ (sum_by-IsPermutation (λ (q : ℕ). once (q == p)) ps qs moved ∙ (sym (times_sum p ps) ∙ all p))

-- a write of one register

pub flagged_kept : (ps : List ℕ) (rs : List Register) (at : ℕ) (old new : Register) → slice_get rs at ≡ Some old → new.takes_simulated ≡ old.takes_simulated
    → AreFlagged ps rs → AreFlagged ps (set rs at new)
flagged_kept ps rs at old new here same all p =
    elim (cases_eq p at) [
      | inl e ↦
          let flag = flag_set_here rs at new (within rs at old here) ∙ (same ∙ sym (flag_of rs at old here)) in
          rw e (all at ∙ ap once (sym flag))
      | inr ne ↦ all p ∙ ap once (sym (flag_set_other rs at p new ne))
    ]

pub flagged_added : (ps : List ℕ) (rs : List Register) (at : ℕ) (old new : Register) → slice_get rs at ≡ Some old → old.takes_simulated ≡ false → new.takes_simulated ≡ true
    → AreFlagged ps rs → AreFlagged (ps ++ at ∷ []) (set rs at new)
flagged_added ps rs at old new here real simulated all p =
    elim (cases_eq p at) [
      | inl e ↦
          let before : times at ps ≡ 0 = all at ∙ ap once (flag_of rs at old here ∙ real) in
          let more : times at (ps ++ at ∷ []) ≡ times at ps + 1 = times_push_here at ps in
          let after : once (flag_at (set rs at new) at) ≡ 1 = ap once (flag_set_here rs at new (within rs at old here) ∙ simulated) in
          rw e (omega arith)
      | inr ne ↦ times_push_other at p ps ne ∙ (all p ∙ ap once (sym (flag_set_other rs at p new ne)))
    ]

pub flagged_last : (ps : List ℕ) (rs : List Register) (at : ℕ) → AreFlagged (ps ++ at ∷ []) rs → flag_at rs at ≡ true
flagged_last ps rs at all =
    let more : times at (ps ++ at ∷ []) ≡ times at ps + 1 = times_push_here at ps in
    elim (cases_Bool (flag_at rs at)) [
      | inl e ↦ e
      | inr e ↦ let none : times at (ps ++ at ∷ []) ≡ 0 = all at ∙ ap once e in absurd (omega arith)
    ]

pub flagged_taken : (ps : List ℕ) (rs : List Register) (at : ℕ) (new : Register) → new.takes_simulated ≡ false
    → AreFlagged (ps ++ at ∷ []) rs → AreFlagged ps (set rs at new)
flagged_taken ps rs at new real all p =
    let flag = flagged_last ps rs at all in
    elim (cases_eq p at) [
      | inl e ↦
          let more : times at (ps ++ at ∷ []) ≡ times at ps + 1 = times_push_here at ps in
          let before : times at (ps ++ at ∷ []) ≡ 1 = all at ∙ ap once flag in
          let after : once (flag_at (set rs at new) at) ≡ 0 = ap once (flag_set_here rs at new (flag_within rs at flag) ∙ real) in
          rw e (omega arith)
      | inr ne ↦ sym (times_push_other at p ps ne) ∙ (all p ∙ ap once (sym (flag_set_other rs at p new ne)))
    ]

-- what is taken out of the end of the list, if anything

pub popped_flagged : (last : Option ℕ) (before after : List ℕ) → before ≡ after ++ option_to_list last
    → IfSome last (λ at. (rs : List Register) → AreFlagged before rs → flag_at rs at ≡ true)
popped_flagged None before after is = tt
popped_flagged (Some at) before after is = λ rs all. flagged_last after rs at (subst (λ (ps : List ℕ). AreFlagged ps rs) is all)

pub popped_taken : (last : Option ℕ) (before after : List ℕ) → before ≡ after ++ option_to_list last
    → IfSome last (λ at. (rs : List Register) (new : Register) → new.takes_simulated ≡ false → AreFlagged before rs → AreFlagged after (set rs at new))
popped_taken None before after is = tt
popped_taken (Some at) before after is = λ rs new real all. flagged_taken after rs at new real (subst (λ (ps : List ℕ). AreFlagged ps rs) is all)

-- the positions in their order

-- no number is below this one
abbrev pub AreFrom : ℕ → List ℕ → Type 0
AreFrom b [] = Unit {0}
AreFrom b (p ∷ ps) = (b ≤ p) × AreFrom b ps

-- no number is below one before it
abbrev pub AreRising : List ℕ → Type 0
AreRising [] = Unit {0}
AreRising (p ∷ ps) = AreFrom p ps × AreRising ps

from_indexed : (b : ℕ) (ps : List ℕ) → ((j d : ℕ) → j < length ps → b ≤ get_or ps j d) → AreFrom b ps
from_indexed b [] h = tt
from_indexed b (p ∷ ps) h = (h 0 0 (omega arith), from_indexed b ps (λ j d lt. h (suc j) d (omega arith)))

rising_indexed : (ps : List ℕ) → IsNonDecreasingBy (λ (x : ℕ). x) ps → AreRising ps
rising_indexed [] h = tt
rising_indexed (p ∷ ps) h = (
  from_indexed p ps (λ j d lt. h 0 (suc j) d (omega arith) (omega arith)),
  rising_indexed ps (λ i j d le lt. h (suc i) (suc j) d (omega arith) (omega arith)),
)

from_positions : (c b : ℕ) (rs : List Register) → c ≤ b → AreFrom c (flagged_positions b rs)
from_positions c b [] le = tt
from_positions c b (r ∷ rs) le =
    let rest = from_positions c (b + 1) rs (omega arith) in
    elim (cases_Bool r.takes_simulated) [
      | inl e ↦ rw e (le, rest)
      | inr e ↦ rw e rest
    ]

rising_positions : (b : ℕ) (rs : List Register) → AreRising (flagged_positions b rs)
rising_positions b [] = tt
rising_positions b (r ∷ rs) =
    let rest = rising_positions (b + 1) rs in
    elim (cases_Bool r.takes_simulated) [
      | inl e ↦ rw e (from_positions b (b + 1) rs (omega arith), rest)
      | inr e ↦ rw e rest
    ]

none_below : (b p : ℕ) (ps : List ℕ) → AreFrom b ps → p < b → times p ps ≡ 0
none_below b p [] all lt = refl
none_below b p (q ∷ qs) all lt =
    let le : b ≤ q = all.0 in
    cond-false _ (times p qs + 1) (times p qs) (ne_eqb q p (λ e. absurd (omega arith))) ∙ none_below b p qs all.1 lt

first_stands : (p : ℕ) (ps : List ℕ) → times p (p ∷ ps) ≡ times p ps + 1
first_stands p ps = cond-true _ (times p ps + 1) (times p ps) (eq-eqb p p refl)

tails_same : (x p : ℕ) (xs ys : List ℕ) → times p (x ∷ xs) ≡ times p (x ∷ ys) → times p xs ≡ times p ys
tails_same x p xs ys e =
    elim (cases_Bool (x == p)) [
      | inl is ↦
          let a : times p (x ∷ xs) ≡ times p xs + 1 = cond-true _ (times p xs + 1) (times p xs) is in
          let b : times p (x ∷ ys) ≡ times p ys + 1 = cond-true _ (times p ys + 1) (times p ys) is in
          omega arith
      | inr is ↦
          let a : times p (x ∷ xs) ≡ times p xs = cond-false _ (times p xs + 1) (times p xs) is in
          let b : times p (x ∷ ys) ≡ times p ys = cond-false _ (times p ys + 1) (times p ys) is in
          omega arith
    ]

-- the lesser one of two first numbers would stand in one list alone
first_less : (x y : ℕ) (xs ys : List ℕ) → AreFrom y ys → x < y → times x (x ∷ xs) ≡ times x (y ∷ ys) → ⊥
first_less x y xs ys all lt e =
    let some : times x (x ∷ xs) ≡ times x xs + 1 = first_stands x xs in
    let none : times x (y ∷ ys) ≡ 0 = none_below y x (y ∷ ys) (omega arith, all) lt in
    absurd (omega arith)

-- two rising lists with the same numbers are one
one_rising : (xs ys : List ℕ) → AreRising xs → AreRising ys → ((p : ℕ) → times p xs ≡ times p ys) → xs ≡ ys
one_rising [] [] up down e = refl
one_rising [] (y ∷ ys) up down e =
    let some : times y (y ∷ ys) ≡ times y ys + 1 = first_stands y ys in
    let none : 0 ≡ times y (y ∷ ys) = e y in
    absurd (omega arith)
one_rising (x ∷ xs) [] up down e =
    let some : times x (x ∷ xs) ≡ times x xs + 1 = first_stands x xs in
    let none : times x (x ∷ xs) ≡ 0 = e x in
    absurd (omega arith)
one_rising (x ∷ xs) (y ∷ ys) up down e =
    elim (cases_order x y) [
      | inl same ↦
          let tails : (p : ℕ) → times p xs ≡ times p ys = λ p. tails_same x p xs ys (e p ∙ ap (λ (z : ℕ). times p (z ∷ ys)) (sym same)) in
          ap₂ (λ (z : ℕ) (zs : List ℕ). z ∷ zs) same (one_rising xs ys up.1 down.1 tails)
      | inr (inl lt) ↦ absurd (first_less x y xs ys down.0 lt (e x))
      | inr (inr gt) ↦ absurd (first_less y x ys xs up.0 gt (sym (e y)))
    ]

positions_here : (b : ℕ) (r : Register) (rs : List Register) → times b (flagged_positions b (r ∷ rs)) ≡ once r.takes_simulated
positions_here b r rs =
    let others : List ℕ = flagged_positions (b + 1) rs in
    let none : times b others ≡ 0 = none_below (b + 1) b others (from_positions (b + 1) (b + 1) rs (omega arith)) (omega arith) in
    let one : times b others + 1 ≡ 1 = omega (arith, none) in
    elim (cases_Bool r.takes_simulated) [
      | inl e ↦ ap (λ (y : Bool). times b (if y then b ∷ others else others)) e ∙ (first_stands b others ∙ (one ∙ sym (ap once e)))
      | inr e ↦ ap (λ (y : Bool). times b (if y then b ∷ others else others)) e ∙ (none ∙ sym (ap once e))
    ]

positions_behind : (b p : ℕ) (r : Register) (rs : List Register) → b < p → times p (flagged_positions b (r ∷ rs)) ≡ times p (flagged_positions (b + 1) rs)
positions_behind b p r rs lt =
    let others : List ℕ = flagged_positions (b + 1) rs in
    let other : times p (b ∷ others) ≡ times p others = cond-false _ (times p others + 1) (times p others) (ne_eqb b p (λ same. absurd (omega arith))) in
    elim (cases_Bool r.takes_simulated) [
      | inl e ↦ ap (λ (y : Bool). times p (if y then b ∷ others else others)) e ∙ other
      | inr e ↦ ap (λ (y : Bool). times p (if y then b ∷ others else others)) e
    ]

positions_times : (b p : ℕ) (rs : List Register) → times (b + p) (flagged_positions b rs) ≡ once (flag_at rs p)
positions_times b p [] = refl
positions_times b zero (r ∷ rs) =
    let at : b + 0 ≡ b = omega arith in
    ap (λ (n : ℕ). times n (flagged_positions b (r ∷ rs))) at ∙ positions_here b r rs
positions_times b (suc p) (r ∷ rs) =
    let at : b + suc p ≡ b + 1 + p = omega arith in
    ap (λ (n : ℕ). times n (flagged_positions b (r ∷ rs))) at ∙ (positions_behind b (b + 1 + p) r rs (omega arith) ∙ positions_times (b + 1) p rs)

-- in order, the positions are those of the flagged blocks one after the other
pub flagged_in_order : (ps : List ℕ) (rs : List Register) → IsSorted nat_cmp ps → AreFlagged ps rs → ps ≡ flagged_positions 0 rs
flagged_in_order ps rs sorted all =
    one_rising ps (flagged_positions 0 rs) (rising_indexed ps (IsNonDecreasingBy-from_sort (λ (x : ℕ). x) ps sorted)) (rising_positions 0 rs)
    (λ p.
    let at : 0 + p ≡ p = omega arith in
    all p ∙ (sym (positions_times 0 p rs) ∙ ap (λ (n : ℕ). times n (flagged_positions 0 rs)) at))

-- the entries

pub flagged_told : (A : Type 0) (b : ℕ) (rs : List Register) → switched_at {A = A} (flagged_positions b rs) ≡ flagged_entries b rs
flagged_told A b [] = refl
flagged_told A b (r ∷ rs) =
    let rest : switched_at {A = A} (flagged_positions (b + 1) rs) ≡ flagged_entries (b + 1) rs = flagged_told A (b + 1) rs in
    elim (cases_Bool r.takes_simulated) [
      | inl e ↦ rw e (ap (λ (es : List (Entry A)). says.Switched b ∷ es) rest)
      | inr e ↦ rw e rest
    ]

-- an entry more, of the position behind those that have one
pub switched_more : {A : Type 0} (positions : List ℕ) (i d : ℕ) → i < length positions
    → switched_at {A = A} (take i positions) ++ says.Switched (get_or positions i d) ∷ [] ≡ switched_at (take (i + 1) positions)
switched_more {A} positions i d lt =
    let entry : ℕ → Entry A = λ p. says.Switched p in
    sym (ap (switched_at {A = A}) (take_more positions i d lt) ∙ map-append entry (take i positions) (get_or positions i d ∷ []))

pub untold_positions : (A : Type 0) (ps : List ℕ) → switched_at {A = A} ps ≡ [] → ps ≡ []
untold_positions A [] e = refl
untold_positions A (p ∷ ps) e = absurd (omega (arith, ap length e))

-- the mode set off

none_off : (rs : List Register) → ((p : ℕ) → flag_at rs p ≡ false) → switched_off rs ≡ rs
none_off [] none = refl
none_off (r ∷ rs) none =
    ap₂ (λ (y : Register) (ys : List Register). y ∷ ys) (cond-false _ idle r (none 0)) (none_off rs (λ p. none (suc p)))

pub flagged_none : (ps : List ℕ) (rs : List Register) → ps ≡ [] → AreFlagged ps rs → switched_off rs ≡ rs
flagged_none ps rs empty all =
    none_off rs (λ p.
    elim (cases_Bool (flag_at rs p)) [
      | inl e ↦
          let none : times p ps ≡ 0 = ap (times p) empty in
          let some : times p ps ≡ 1 = all p ∙ ap once e in
          absurd (omega arith)
      | inr e ↦ e
    ])

pub off_set : (rs : List Register) (at : ℕ) → flag_at rs at ≡ true → switched_off (set rs at idle) ≡ switched_off rs
off_set [] at e = refl
off_set (x ∷ xs) zero e = ap (λ (y : Register). y ∷ switched_off xs) (sym (cond-true _ idle x e))
off_set (x ∷ xs) (suc at) e = ap (λ (ys : List Register). switched_off_one x ∷ ys) (off_set xs at e)

-- how many they are

pub count_off : (rs : List Register) (at : ℕ) → flag_at rs at ≡ true → flagged_count (set rs at idle) + 1 ≡ flagged_count rs
count_off [] at e = absurd (false≢true e)
count_off (x ∷ xs) zero e = sym (cond-true _ (flagged_count xs + 1) (flagged_count xs) e)
count_off (x ∷ xs) (suc at) e =
    let rest : flagged_count (set xs at idle) + 1 ≡ flagged_count xs = count_off xs at e in
    elim (cases_Bool x.takes_simulated) [
      | inl y ↦ rw y (omega arith)
      | inr n ↦ rw n rest
    ]

pub due_off : (now : ℕ) (rs : List Register) → due_count now (helds (switched_off rs)) ≤ due_count now (helds rs)
due_off now [] = omega arith
due_off now (r ∷ rs) =
    let rest : due_count now (helds (switched_off rs)) ≤ due_count now (helds rs) = due_off now rs in
    elim (cases_Bool r.takes_simulated) [
      | inl y ↦
          elim (cases_Bool (is_dead r.held now)) [
            | inl d ↦ rw (y, d) (omega arith)
            | inr d ↦ rw (y, d) rest
          ]
      | inr n ↦
          elim (cases_Bool (is_dead r.held now)) [
            | inl d ↦ rw (n, d) (omega arith)
            | inr d ↦ rw (n, d) rest
          ]
    ]

pub flagged_counted : (A : Type 0) (b : ℕ) (rs : List Register) → flagged_count rs ≡ switched_count (flagged_entries {A = A} b rs)
flagged_counted A b [] = refl
flagged_counted A b (r ∷ rs) =
    let rest : flagged_count rs ≡ switched_count (flagged_entries {A = A} (b + 1) rs) = flagged_counted A (b + 1) rs in
    elim (cases_Bool r.takes_simulated) [
      | inl y ↦ rw y (omega arith)
      | inr n ↦ rw n rest
    ]

count_append : (A : Type 0) (xs ys : List (Entry A)) → switched_count (xs ++ ys) ≡ switched_count xs + switched_count ys
count_append A [] ys = omega arith
count_append A (says.Switched b ∷ xs) ys = let rest : switched_count (xs ++ ys) ≡ switched_count xs + switched_count ys = count_append A xs ys in omega arith
count_append A (says.Expired b ∷ xs) ys = count_append A xs ys
count_append A (says.Act b state sequence t members ∷ xs) ys = count_append A xs ys
count_append A (says.Refreshed b state sequence ∷ xs) ys = count_append A xs ys
count_append A (says.Repeated b state sequence ∷ xs) ys = count_append A xs ys
count_append A (says.Older b state sequence ∷ xs) ys = count_append A xs ys
count_append A (says.Refused b reason ∷ xs) ys = count_append A xs ys
count_append A (says.NotSubscribed ∷ xs) ys = count_append A xs ys
count_append A (says.Sampled ∷ xs) ys = count_append A xs ys
count_append A (says.Faulty fault ∷ xs) ys = count_append A xs ys

-- entries before and behind the switches only add to the bound
pub other_more : {A : Type 0} (k : EventKind A) (es switched said : List (Entry A)) → other_reaches k switched ≤ other_reaches k (es ++ (switched ++ said))
other_more (kinds.Frame o) es switched said = omega arith
other_more kinds.Clock es switched said = omega arith
other_more {A} (kinds.Mode on) es switched said =
    omega (arith, count_append A es (switched ++ said), count_append A switched said)

-- what is so at each turn: of those that took simulated frames at first the last ones are left to switch
pub record IsSwitching {A : Type 0} (first_blocks : List (Block A)) (first : List Register) (looks : ℕ)
    (blocks : List (Block A)) (registers : List Register) (names : List (Name A)) (deadlines : Deadlines A) (positions : List ℕ) (count : ℕ)
    (first_mode mode : Bool) (first_moment moment : ℕ) : Type 0 where
  pub indexed : IsIndexed blocks registers names deadlines positions
  pub same : switched_off registers ≡ switched_off first
  pub counted : count + flagged_count registers ≤ looks + flagged_count first
  pub blocks_stay : blocks ≡ first_blocks
  pub mode_stays : mode ≡ first_mode
  pub moment_stays : moment ≡ first_moment

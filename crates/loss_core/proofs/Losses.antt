-- What is missing between two pairs, and what is told of each pair of a stretch.
use Rattle.std.proofs.Common.{◌≡◌, ℕ, zero, suc, ◌+◌, ◌-◌, ◌<◌, ◌≤◌, Bool, true, false, Option, Some, None, List, slice_get, if◌then◌else◌, sym, refl, ap, ◌∙◌, subst, arith, inl, inr}
use Rattle.std.proofs.lemmas.Bool.{cases_Bool, cases_lt, cases_order, eq-eqb, false≢true, le-ltb, lt-ltb, ne_eqb}
use Rattle.std.proofs.lemmas.Option.{same_Some, slice_get_within}
use Rattle.loss_core.specs.declared.sender.Pair.{Pair}
use Rattle.loss_core.specs.declared.sender.Arrival.{Arrival}
use Rattle.loss_core.specs.declared.sender.Told.{Told}
use Rattle.loss_core.specs.declared.sender.Sender.{Sender}
use Rattle.loss_core.specs.declared.sender.Standing.TheVariants as standing
use Rattle.loss_core.specs.Sender.{AreTold, IsKnown, IsNewest, is_above, standing_by, told_after}
use Rattle.loss_core.specs.Missing.{IsIn, IsNamed, missing_between, sequences_from, span}
use Rattle.loss_core.specs.SenderLaws.{EachIsTold, EndsState, IsStretch, IsToldOf, MissingAreNamed}
use Rattle.loss_core.proofs.Known.{newer_from}
use Rattle.loss_core.proofs.Places.{get_there}
use Rattle.loss_core.proofs.Order.{Above, above_is, is_then_above, not_above_itself, above_both, above_lower, one_where_neither}

-- a number is in a span exactly where it is from one up to another

in_span : (from until n : ℕ) → from ≤ n → n < until → IsIn (span from until) n
in_span from until n le lt =
    subst (λ (b : Bool). IsIn (if b then Some (record { from = from; to = until - 1 }) else None) n) (sym (lt-ltb from until (omega arith))) (le, omega arith)

of_span : (from until n : ℕ) → IsIn (span from until) n → (from ≤ n) × (n < until)
of_span from until n is =
    elim (cases_lt from until) [
      | inl lt ↦
          let w : (from ≤ n) × (n ≤ until - 1) = subst (λ (b : Bool). IsIn (if b then Some (record { from = from; to = until - 1 }) else None) n) (lt-ltb from until lt) is in
          let le : n ≤ until - 1 = w.1 in
          (w.0, omega arith)
      | inr ge ↦ absurd (subst (λ (b : Bool). IsIn (if b then Some (record { from = from; to = until - 1 }) else None) n) (le-ltb from until ge) is)
    ]

same_state : (p c : Pair) → p.state ≡ c.state → sequences_from p c ≡ p.sequence + 1
same_state p c e = ap (λ (b : Bool). if b then p.sequence + 1 else 0) (eq-eqb p.state c.state e)

other_state : (p c : Pair) → (p.state ≡ c.state → ⊥) → sequences_from p c ≡ 0
other_state p c n = ap (λ (b : Bool). if b then p.sequence + 1 else 0) (ne_eqb p.state c.state n)

-- what is named lies between both pairs, and is no end of a state that another followed; and all that does is named

Between : Pair → Pair → Pair → Type 0
Between p c x = (is_above x p ≡ true) × (is_above c x ≡ true) × (EndsState p c x → ⊥)

named_between : (p c x : Pair) → Above c p → IsNamed (missing_between p c) c x → Between p c x
unfolding Between
named_between p c x above (inl is) =
    let w = of_span (p.state + 1) c.state x.state is in
    let low : p.state + 1 ≤ x.state = w.0 in
    let high : x.state < c.state = w.1 in
    (above_is x p (inl (omega arith)), above_is c x (inl high), λ end. let same : x.state ≡ p.state = end.0 in omega arith)
named_between p c x above (inr is) =
    let w = of_span (sequences_from p c) c.sequence x.sequence is.1 in
    let at : x.state ≡ c.state = is.0 in
    let high : x.sequence < c.sequence = w.1 in
    let top : is_above c x ≡ true = above_is c x (inr (at, high)) in
    elim (cases_order p.state c.state) [
      | inl same ↦
          let first : sequences_from p c ≡ p.sequence + 1 = same_state p c same in
          let low : sequences_from p c ≤ x.sequence = w.0 in
          (above_is x p (inr (omega arith, omega arith)), top, λ end. let less : p.state < c.state = end.1 in omega arith)
      | inr (inl less) ↦ (above_is x p (inl (omega arith)), top, λ end. let its : x.state ≡ p.state = end.0 in omega arith)
      | inr (inr more) ↦ elim above [
        | inl lt ↦ let it : p.state < c.state = lt in absurd (omega arith)
        | inr eq ↦ let it : p.state ≡ c.state = eq.0 in absurd (omega arith)
      ]
    ]

sequence_below : (c x : Pair) → x.state ≡ c.state → Above c x → x.sequence < c.sequence
sequence_below c x at (inl y) = let it : x.state < c.state = y in absurd (omega arith)
sequence_below c x at (inr y) = y.1

in_state : (p c x : Pair) → x.state ≡ c.state → Above x p → Above c x → IsIn (span (sequences_from p c) c.sequence) x.sequence
in_state p c x at (inl y) top =
    let less : p.state < x.state = y in
    let none : sequences_from p c ≡ 0 = other_state p c (λ e. omega arith) in
    in_span (sequences_from p c) c.sequence x.sequence (omega arith) (sequence_below c x at top)
in_state p c x at (inr y) top =
    let same : p.state ≡ x.state = y.0 in
    let less : p.sequence < x.sequence = y.1 in
    let first : sequences_from p c ≡ p.sequence + 1 = same_state p c (same ∙ at) in
    in_span (sequences_from p c) c.sequence x.sequence (omega arith) (sequence_below c x at top)

in_states : (p c x : Pair) → x.state < c.state → Above x p → (EndsState p c x → ⊥) → IsIn (span (p.state + 1) c.state) x.state
in_states p c x less (inl y) none = let low : p.state < x.state = y in in_span (p.state + 1) c.state x.state (omega arith) less
in_states p c x less (inr y) none = let same : p.state ≡ x.state = y.0 in absurd (none (sym same, omega arith))

is_lower : (c x : Pair) → Above c x → c.state < x.state → ⊥
is_lower c x (inl y) more = let less : x.state < c.state = y in omega arith
is_lower c x (inr y) more = let same : x.state ≡ c.state = y.0 in omega arith

between_named : (p c x : Pair) → Between p c x → IsNamed (missing_between p c) c x
unfolding Between
between_named p c x w =
    let low : Above x p = is_then_above x p w.0 in
    let top : Above c x = is_then_above c x w.1 in
    elim (cases_order x.state c.state) [
      | inl same ↦ inr (same, in_state p c x same low top)
      | inr (inl less) ↦ inl (in_states p c x less low w.2)
      | inr (inr more) ↦ absurd (is_lower c x top more)
    ]

-- a stretch

shorter : (told : List Told) (first i k : ℕ) → IsStretch told first i → first ≤ k → k ≤ i → IsStretch told first k
shorter told first i k s low high = record { order = low; begins = s.begins; goes_on = λ j t x y e. s.goes_on j t x (omega arith) e }

-- the frame of the newest pair is of the same stretch
in_stretch : (frames : List Arrival) (told : List Told) (first i : ℕ) (p : Pair) → IsStretch told first i → first < i → (w : IsNewest frames told i p) → first ≤ w.at
in_stretch frames told first i p s behind w =
    elim (cases_lt w.at first) [
      | inl lt ↦ elim s.begins [
        | inl whole ↦ absurd (omega arith)
        | inr x ↦ absurd (false≢true (sym (w.since first x.0 lt behind x.1) ∙ x.2))
      ]
      | inr ge ↦ ge
    ]

-- what is known before a position that is not the first
known_behind : (frames : List Arrival) (told : List Told) (i : ℕ) (known : Option Sender) → 0 < i → IsKnown frames told i known → (s : Sender) × (known ≡ Some s) × IsNewest frames told i s.newest
known_behind frames told i None some is = let zero : i ≡ 0 = is in absurd (omega arith)
known_behind frames told i (Some s) some is = (s, refl, is.0)

-- the newest pair before a frame of a stretch, and how the frame stands to it
record NewestThere (frames : List Arrival) (told : List Told) (i : ℕ) (frame : Arrival) (answer : Told) : Type 0 where
  newest : Pair
  is_newest : IsNewest frames told i newest
  stands : answer.standing ≡ standing_by newest frame.pair

newest_there : (frames : List Arrival) (told : List Told) → AreTold frames told → (i : ℕ) (frame : Arrival) (answer : Told) → 0 < i → slice_get frames i ≡ Some frame → slice_get told i ≡ Some answer → NewestThere frames told i frame answer
newest_there frames told all i frame answer some is said =
    let x = all.each i frame answer is said in
    let k = known_behind frames told i x.0 some x.1 in
    record { newest = k.0.newest; is_newest = k.2; stands = ap (λ t. t.standing) x.2 ∙ ap (λ (o : Option Sender). (told_after o frame).standing) k.1 }

pub missing_are_named : MissingAreNamed
unfolding Between
missing_are_named frames told all first i s behind newest came there x =
    let n = newest_there frames told all i there.frame there.answer (omega arith) there.is there.said in
    let w = n.is_newest in
    let from = newer_from n.newest there.frame.pair newest (sym n.stands ∙ there.newer) in
    let above : is_above came newest ≡ true = subst (λ p. is_above p newest ≡ true) there.has (subst (λ p. is_above there.frame.pair p ≡ true) from.0 from.1) in
    let low : first ≤ w.at = in_stretch frames told first i n.newest s behind w in (
      λ is.
          let b = named_between newest came x (is_then_above came newest above) is in (
            λ k f ge lt e.
                above_lower f.pair newest x
                (subst (λ p. is_above f.pair p ≡ false) from.0 (w.greatest k f lt e (λ j t y z q. s.goes_on j t (omega arith) (omega arith) q))) b.0,
            b.1,
            b.2,
          ),
      λ is.
          between_named newest came x (
            subst (λ p. is_above x p ≡ true) (w.has ∙ from.0) (is.0 w.at w.frame low w.before w.is),
            is.1,
            is.2,
          ),
    )

-- each pair of a stretch

told_there : (frames : List Arrival) (told : List Told) → AreTold frames told → (i : ℕ) (frame : Arrival) → slice_get frames i ≡ Some frame → (t : Told) × (slice_get told i ≡ Some t)
told_there frames told all i frame is = get_there told i (subst (λ n. i < n) (sym all.sizes) (slice_get_within frames i frame is))

each_below : (n : ℕ) (frames : List Arrival) (told : List Told) → AreTold frames told → (first i : ℕ) → i < n → IsStretch told first i → (begin last : Arrival) → slice_get frames first ≡ Some begin → slice_get frames i ≡ Some last
    → (x : Pair) → is_above x begin.pair ≡ true → is_above last.pair x ≡ true → IsToldOf frames told first i x
each_below zero frames told all first i lt s begin last starts is x low high = absurd (omega arith)
each_below (suc n) frames told all first i lt s begin last starts is x low high =
    let order : first ≤ i = s.order in
    elim (cases_order first i) [
      | inl same ↦
          let one : begin ≡ last = same_Some begin last (sym starts ∙ (ap (slice_get frames) same ∙ is)) in
          absurd (false≢true (sym (not_above_itself begin.pair) ∙ above_both begin.pair x begin.pair (subst (λ (f : Arrival). is_above f.pair x ≡ true) (sym one) high) low))
      | inr (inl behind) ↦
          let t = told_there frames told all i last is in
          let m = newest_there frames told all i last t.0 (omega arith) is t.1 in
          let w = m.is_newest in
          let early : w.at < i = w.before in
          let inside : first ≤ w.at = in_stretch frames told first i m.newest s behind w in
          let on : is_above w.frame.pair x ≡ true → IsToldOf frames told first i x =
          λ above. let r = each_below n frames told all first w.at (omega arith) (shorter told first i w.at s inside (omega arith)) begin w.frame starts w.is x low above in
          let within : r.at ≤ w.at = r.within in
          record { at = r.at; behind = r.behind; within = omega arith; frame = r.frame; is = r.is; how = r.how } in
          elim (cases_Bool (is_above x m.newest)) [
            | inl over ↦
                let up : is_above last.pair m.newest ≡ true = above_both m.newest x last.pair high over in
                let newer : t.0.standing ≡ standing.Newer m.newest = m.stands ∙ ap (λ (b : Bool). if b then standing.Newer m.newest else if is_above m.newest last.pair then standing.Below else standing.Same) up in
                record {
                  at = i;
                  behind = behind;
                  within = omega arith;
                  frame = last;
                  is = is;
                  how = inr (m.newest, record { frame = last; answer = t.0; is = is; said = t.1; newer = newer; has = refl }, over, high);
                }
            | inr not_over ↦ elim (cases_Bool (is_above m.newest x)) [
              | inl above ↦ on (subst (λ p. is_above p x ≡ true) (sym w.has) above)
              | inr level ↦
                  let same : x ≡ m.newest = one_where_neither x m.newest not_over level in
                  elim (cases_order first w.at) [
                    | inl at_first ↦
                        let one : begin ≡ w.frame = same_Some begin w.frame (sym starts ∙ (ap (slice_get frames) at_first ∙ w.is)) in
                        let its : begin.pair ≡ x = ap (λ f. f.pair) one ∙ (w.has ∙ sym same) in
                        absurd (false≢true (sym (not_above_itself x) ∙ subst (λ p. is_above x p ≡ true) its low))
                    | inr (inl later) ↦ record { at = w.at; behind = later; within = omega arith; frame = w.frame; is = w.is; how = inl (w.has ∙ sym same) }
                    | inr (inr before) ↦ absurd (omega arith)
                  ]
            ]
          ]
      | inr (inr more) ↦ absurd (omega arith)
    ]

pub each_is_told : EachIsTold
each_is_told frames told all first i s begin last starts is x low high = each_below (i + 1) frames told all first i (omega arith) s begin last starts is x low high

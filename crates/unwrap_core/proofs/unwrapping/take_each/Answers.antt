use Rattle.std.proofs.Common.{◌≡◌, ◌+◌, ◌-◌, ◌≤◌, ◌++◌, ◌∙◌, ℕ, suc, List, Some, None, length, take, drop, refl, sym, ap, subst, arith, take_all}
use Rattle.std.proofs.lemmas.List.{append-nil, drop-drop, drop_all, drop_at, length-append, length-drop, length-take-le}
use borrow.Rule.Slice.PartMut.{put_mid}
use Rattle.unwrap_core.specs.Unwrapped.{tag_out, unwrapped, unwrapped_within}
use Rattle.unwrap_core.proofs.UnwrappedLaws.{within_none, within_some}
use Rattle.unwrap_core.proofs.unwrapping.take_each.Goals as goal

-- what is behind the front is what was written there
drop_mid : (a : ℕ) (xs ys : List ℕ) → a ≤ length xs → drop a (put_mid a (length xs - a) xs ys) ≡ ys
drop_mid a xs ys there =
    let rest = length-drop a xs in
    drop_at (take a xs) (ys ++ drop (length xs - a) (drop a xs)) a (length-take-le a xs there)
    ∙ ap (λ (l : List ℕ). ys ++ l) (drop_all (length xs - a) (drop a xs) (omega (arith, rest))) ∙ append-nil ys

pub loop-turn-init : goal.loop-turn-init
unfolding unwrapped
loop-turn-init c = record {
  within = omega arith;
  len = refl;
  left = ap (λ (n : ℕ). unwrapped_within n c.args.frame.now) (omega arith);
}

-- all of it from a place on
from_there : (a : ℕ) (xs : List ℕ) → take (length xs - a) (drop a xs) ≡ drop a xs
from_there a xs = let rest = length-drop a xs in take_all (length xs - a) (drop a xs) (omega (arith, rest))

-- nothing is taken out of what is left so far
none_left : (a n : ℕ) (xs all : List ℕ) → unwrapped_within n (drop a xs) ≡ unwrapped all → tag_out (drop a xs) ≡ None → drop a xs ≡ unwrapped all
none_left a n xs all left none = sym (within_none n (drop a xs) none) ∙ left

-- or one tag is, and more turns are left
one_left : (a n : ℕ) (xs p all : List ℕ) → unwrapped_within (suc n) (drop a xs) ≡ unwrapped all → tag_out (drop a xs) ≡ Some p → unwrapped_within n p ≡ unwrapped all
one_left a n xs p all left some = sym (within_some n (drop a xs) p some) ∙ left

pub returns-in-None-clause-left : goal.returns-in-None-clause-left
returns-in-None-clause-left c =
    let a = c.loop-turn.from in
    let xs = c.loop-turn.frame in
    let i = c.loop-turn.invariant in
    let same : c.take_first.new.frame ≡ drop a xs = c.in-None.ensures.kept refl ∙ from_there a xs in
    let none : tag_out (drop a xs) ≡ None = ap tag_out (sym (from_there a xs)) ∙ c.in-None.ensures.left in
    drop_mid a xs c.take_first.new.frame i.within ∙ same ∙ none_left a (length c.args.frame.now - c.loop-turn.turn) xs c.args.frame.now i.left none

pub loop-turn-preserved : goal.loop-turn-preserved
loop-turn-preserved c =
    let a = c.loop-turn.from in
    let count = c.in-Some.count in
    let xs = c.loop-turn.frame in
    let ys = c.take_first.new.frame in
    let i = c.loop-turn.invariant in
    let turn = c.loop-turn-test.true in
    let rest = length-drop a xs in
    let size : length ys ≡ length xs - a = c.in-Some.ensures.len ∙ ap length (from_there a xs) ∙ rest in
    let fits : count ≤ length xs - a = subst (λ (k : ℕ). count ≤ k) (ap length (from_there a xs) ∙ rest) c.in-Some.ensures.within in
    let mid = put_mid a (length xs - a) xs ys in
    let long : length mid ≡ length xs =
    let joined = length-append (take a xs) (ys ++ drop (length xs - a) (drop a xs)) in
    let behind = length-append ys (drop (length xs - a) (drop a xs)) in
    let front = length-take-le a xs i.within in
    let past = length-drop (length xs - a) (drop a xs) in
    omega (arith, joined, behind, front, past, rest, size, i.within) in
    let some : tag_out (drop a xs) ≡ Some (drop count ys) = ap tag_out (sym (from_there a xs)) ∙ c.in-Some.ensures.left in
    let turns : length c.args.frame.now - c.loop-turn.turn ≡ suc (length c.args.frame.now - (c.loop-turn.turn + 1)) = omega (arith, turn) in
    record {
      within = omega (arith, long, fits, i.within);
      len = long ∙ i.len;
      left = ap (unwrapped_within (length c.args.frame.now - (c.loop-turn.turn + 1))) (sym (drop-drop count a mid) ∙ ap (drop count) (drop_mid a xs ys i.within))
          ∙ one_left a (length c.args.frame.now - (c.loop-turn.turn + 1)) xs (drop count ys) c.args.frame.now (ap (λ (n : ℕ). unwrapped_within n (drop a xs)) (sym turns) ∙ i.left) some;
    }

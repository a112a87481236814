-- What is left of a frame where tags are taken out until there is none is what is computed.
use Rattle.std.proofs.Common.{◌≡◌, ◌+◌, ◌≤◌, ◌<◌, ◌∙◌, ℕ, zero, suc, List, length, take, drop, Option, Some, None, refl, sym, ap, subst, arith, length-append, length-drop}
use Rattle.std.specs.Prelude.{option_map}
use Rattle.std.specs.Option.{option_map_or}
use Rattle.std.proofs.lemmas.List.{length-take-le}
use Rattle.unwrap_core.specs.Laws.{BareIsLeft, EachIsUnwrapped, TakenOutIsOne, UnwrappedIsBare, UnwrappedIsOne}
use Rattle.unwrap_core.specs.Tags.{without}
use Rattle.unwrap_core.specs.Unwrapped.{IsBare, TakesOut, Unwraps, bare, hsr_tag, hsr_tag_behind, outer_tag, tag_in, tag_out, taken, unwrapped, unwrapped_within}
use Rattle.unwrap_core.proofs.TagLaws.{is_taken, taken_is}

some_one : {X : Type 0} (x y : X) → ◌≡◌ {A = Option X} (Some x) (Some y) → x ≡ y
some_one x y e = cc

pub taken_out_is_one : TakenOutIsOne
taken_out_is_one o p q a b = some_one p q (sym (taken_is o p a) ∙ taken_is o q b)

-- nothing is taken out of a frame that is bare
pub none_out : (o : List ℕ) → IsBare o → tag_out o ≡ None
none_out o is = go (tag_out o) refl
  where
    go : (x : Option (List ℕ)) → tag_out o ≡ x → tag_out o ≡ None
    go None e = e
    go (Some p) e = absurd (is p (is_taken o p e))

pub bare_where : (o : List ℕ) → tag_out o ≡ None → IsBare o
bare_where o e p t = let is = taken_is o p t in cc

-- ---- a tag has octets

shorter_without : (p count : ℕ) (o : List ℕ) → 0 < count → p + count ≤ length o → length (without p count o) < length o
shorter_without p count o some there =
    let size = length-append (take p o) (drop (p + count) o) in
    let front = length-take-le p o (omega arith) in
    let rest = length-drop (p + count) o in
    omega (arith, size, front, rest)

pub shorter : (o p : List ℕ) → TakesOut o p → length p < length o
shorter o p (hsr_tag there is) = subst (λ (x : List ℕ). length x < length o) (sym is) (let long = there.1 in shorter_without 12 6 o (omega arith) (omega (arith, long)))
shorter o p (hsr_tag_behind vlan there is) = subst (λ (x : List ℕ). length x < length o) (sym is) (let long = there.1 in shorter_without 16 6 o (omega arith) (omega (arith, long)))
shorter o p (outer_tag outer inner is) = subst (λ (x : List ℕ). length x < length o) (sym is) (let long = inner.1 in shorter_without 12 4 o (omega arith) (omega (arith, long)))

-- ---- step by step

-- one tag, and so many further ones
pub within_some : (n : ℕ) (o p : List ℕ) → tag_out o ≡ Some p → unwrapped_within (suc n) o ≡ unwrapped_within n p
within_some n o p e = ap (λ (x : Option (List ℕ)). option_map_or (unwrapped_within n) x o) e

pub within_none : (n : ℕ) (o : List ℕ) → tag_out o ≡ None → unwrapped_within n o ≡ o
within_none zero o e = refl
within_none (suc n) o e = ap (λ (x : Option (List ℕ)). option_map_or (unwrapped_within n) x o) e

-- so many tags are enough, where there are as many octets
unwraps_within : (n : ℕ) (o : List ℕ) → length o ≤ n → Unwraps o (unwrapped_within n o)
unwraps_within zero o few = bare (λ p t. let less = shorter o p t in omega (arith, less, few))
unwraps_within (suc n) o few = go (tag_out o) refl (λ p f. unwraps_within n p f)
  where
    go : (x : Option (List ℕ)) → tag_out o ≡ x → ((p : List ℕ) → length p ≤ n → Unwraps p (unwrapped_within n p)) → Unwraps o (unwrapped_within (suc n) o)
    go None e later = subst (λ (u : List ℕ). Unwraps o u) (sym (within_none (suc n) o e)) (bare (bare_where o e))
    go (Some p) e later =
        let t = is_taken o p e in
        let less = shorter o p t in
        subst (λ (u : List ℕ). Unwraps o u) (sym (within_some n o p e)) (taken p t (later p (omega (arith, less, few))))

pub each_is_unwrapped : EachIsUnwrapped
unfolding unwrapped
each_is_unwrapped o = unwraps_within (length o) o (omega arith)

-- ---- one is left

left_is_bare : (o u : List ℕ) → Unwraps o u → IsBare u
left_is_bare o u (bare is) = is
left_is_bare o u (taken p t more) = left_is_bare p u more

within_is : (n : ℕ) (o u : List ℕ) → length o ≤ n → Unwraps o u → u ≡ unwrapped_within n o
within_is n o u few (bare is) = sym (within_none n o (none_out o is))
within_is zero o u few (taken p t more) = absurd (let less = shorter o p t in omega (arith, less, few))
within_is (suc n) o u few (taken p t more) =
    let less = shorter o p t in
    within_is n p u (omega (arith, less, few)) more ∙ sym (within_some n o p (taken_is o p t))

pub unwrapped_is_one : UnwrappedIsOne
unfolding unwrapped
unwrapped_is_one o u w = within_is (length o) o u (omega arith) w

pub unwrapped_is_bare : UnwrappedIsBare
unwrapped_is_bare o = left_is_bare o (unwrapped o) (each_is_unwrapped o)

pub bare_is_left : BareIsLeft
bare_is_left o is = sym (unwrapped_is_one o o (bare is))

-- a frame in which no tag is to be taken out
pub left_alone : (o : List ℕ) → tag_in o ≡ None → unwrapped o ≡ o
left_alone o none = bare_is_left o (bare_where o (ap (option_map (λ (t : ℕ × ℕ). without t.0 t.1 o)) none))

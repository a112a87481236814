-- The last of several periods that is given so.
use Rattle.std.proofs.Common.{◌≡◌, ◌∙◌, ◌+◌, ◌<◌, ◌≤◌, ℕ, zero, suc, Bool, true, false, if◌then◌else◌, List, [], ◌∷◌, ◌++◌, length, take, get_or, Option, Some, None, ap, arith, refl, subst, sym}
use Rattle.std.specs.Option.{option_or}
use Rattle.std.proofs.lemmas.List.{take_more}
use Rattle.std.proofs.lemmas.Option.{none-some, same_Some}
use Rattle.loss_core.specs.Periods.{ArePeriods, IsPeriodOf, Period, is_own, is_plain, last_number, number_if, period_of}

or_assoc : (a b c : Option ℕ) → option_or (option_or a b) c ≡ option_or a (option_or b c)
or_assoc None b c = refl
or_assoc (Some n) b c = refl

or_none : (a : Option ℕ) → option_or a None ≡ a
or_none None = refl
or_none (Some n) = refl

-- one more, behind all others
pub last_push : (is : Period → Bool) (periods : List Period) (p : Period) → last_number is (periods ++ p ∷ []) ≡ option_or (number_if is p) (last_number is periods)
last_push is [] p = sym (or_none (number_if is p))
last_push is (q ∷ periods) p = ap (λ (o : Option ℕ). option_or o (number_if is q)) (last_push is periods p) ∙ or_assoc (number_if is p) (last_number is periods) (number_if is q)

-- the last one among one more of them
last_more : (is : Period → Bool) (periods : List Period) (i : ℕ) (p : Period) → i < length periods → p ≡ get_or periods i p
    → last_number is (take (i + 1) periods) ≡ option_or (number_if is p) (last_number is (take i periods))
last_more is periods i p within there =
    ap (last_number is) (take_more periods i p within ∙ ap (λ (q : Period). take i periods ++ q ∷ []) (sym there)) ∙ last_push is (take i periods) p

pub last_taken : (is : Period → Bool) (periods : List Period) (i : ℕ) (p : Period) (now : Option ℕ) → i < length periods → p ≡ get_or periods i p → is p ≡ true → now ≡ Some p.number
    → now ≡ last_number is (take (i + 1) periods)
last_taken is periods i p now within there so same =
    let more = last_more is periods i p within there in
    same ∙ sym (more ∙ ap (λ (b : Bool). option_or (if b then Some p.number else None) (last_number is (take i periods))) so)

pub last_passed : (is : Period → Bool) (periods : List Period) (i : ℕ) (p : Period) (last now : Option ℕ) → i < length periods → p ≡ get_or periods i p → is p ≡ false → now ≡ last
    → last ≡ last_number is (take i periods) → now ≡ last_number is (take (i + 1) periods)
last_passed is periods i p last now within there not_so same found =
    let more = last_more is periods i p within there in
    same ∙ found ∙ sym (more ∙ ap (λ (b : Bool). option_or (if b then Some p.number else None) (last_number is (take i periods))) not_so)

-- a period of several is in range, where all are
number_in_range : (is : Period → Bool) (p : Period) → (2 ≤ p.number) × (p.number ≤ 65536) → IsPeriodOf (number_if is p)
number_in_range is p are = go (is p)
  where
    go : (b : Bool) → IsPeriodOf (if b then Some p.number else None)
    go true = λ n e. let same : p.number ≡ n = same_Some p.number n e in (omega (arith, are.0, same), omega (arith, are.1, same))
    go false = λ n e. absurd (none-some n e)

or_in_range : (a b : Option ℕ) → IsPeriodOf a → IsPeriodOf b → IsPeriodOf (option_or a b)
or_in_range None b p q = q
or_in_range (Some n) b p q = p

-- the first of them, and the others
pub first_is : (p : Period) (periods : List Period) → ArePeriods (p ∷ periods) → (2 ≤ p.number) × (p.number ≤ 65536)
first_is p periods are = are 0 p refl

pub others_are : (p : Period) (periods : List Period) → ArePeriods (p ∷ periods) → ArePeriods periods
others_are p periods are = λ i q e. are (suc i) q e

pub none_are : ArePeriods []
none_are = λ i p e. absurd (none-some p e)

pub and_others : (p : Period) (periods : List Period) → (2 ≤ p.number) × (p.number ≤ 65536) → ArePeriods periods → ArePeriods (p ∷ periods)
and_others p periods is are zero q e = subst (λ (x : Period). (2 ≤ x.number) × (x.number ≤ 65536)) (same_Some p q e) is
and_others p periods is are (suc i) q e = are i q e

pub last_in_range : (is : Period → Bool) (periods : List Period) → ArePeriods periods → IsPeriodOf (last_number is periods)
last_in_range is [] are = λ n e. absurd (none-some n e)
last_in_range is (p ∷ periods) are = or_in_range (last_number is periods) (number_if is p) (last_in_range is periods (others_are p periods are)) (number_in_range is p (first_is p periods are))

pub period_in_range : (periods : List Period) (id : List ℕ) → ArePeriods periods → IsPeriodOf (period_of periods id)
period_in_range periods id are =
    or_in_range (last_number (is_own id) periods) (last_number is_plain periods) (last_in_range (is_own id) periods are) (last_in_range is_plain periods are)

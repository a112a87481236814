-- A tally of numbered things by their kinds: of each kind how many there were and the number of the first, sixteen kinds at most,
-- and of the things of further ones together. A kind is a word of two octets, as an EtherType or a link type.
use Rattle.std.specs.Prelude.{◌≡◌, ◌≢◌, ◌≤◌, ◌⊎◌, ℕ, ◌+◌, ◌-◌, ◌^◌, ◌==◌, Bool, not, List, [], ◌∷◌, ◌++◌, length, map, min, nat_lt, Option, Some, None, if◌then◌else◌}
use Rattle.std.specs.List.{AllByRecursion, AllPairs, filter, list_any}
use Rattle.tally_core.specs.declared.kind_tally.Total.{Total}
use Rattle.tally_core.specs.declared.kind_tally.KindTotal.{KindTotal}

-- what is kept
pub record Tally : Type 0 where
  pub kinds : List KindTotal
  pub others : Option Total

-- before the first
abbrev pub no_tally : Tally
no_tally = record { kinds = []; others = None }

-- the first one
abbrev pub first_one : ℕ → Total
first_one number = record { count = 1; first = number }

-- one more; the count stops at 2^64 - 1
abbrev pub again : Total → Total
again p = record { count = min (p.count + 1) (2 ^ 64 - 1); first = p.first }

-- the kind is this one
abbrev pub is_of : ℕ → KindTotal → Bool
is_of t k = k.kind == t

-- one more of a kind
abbrev pub again_of : ℕ → KindTotal → KindTotal
again_of t k = if is_of t k then record { kind = k.kind; total = again k.total } else k

-- one more, of this number, where there was one or none before
abbrev pub one_more : ℕ → Option Total → Option Total
one_more number None = Some (first_one number)
one_more number (Some p) = Some (again p)

-- one more, which is of none of the kinds
abbrev pub new_kind : ℕ → ℕ → Tally → Tally
new_kind number t a =
    if nat_lt (length a.kinds) 16 then record { kinds = a.kinds ++ record { kind = t; total = first_one number } ∷ []; others = a.others }
    else record { kinds = a.kinds; others = one_more number a.others }

-- the one of this number and this kind is counted
abbrev pub count_one : ℕ → ℕ → Tally → Tally
count_one number t a =
    if list_any (is_of t) a.kinds then record { kinds = map (again_of t) a.kinds; others = a.others } else new_kind number t a

-- those with these numbers and kinds are counted, one after another
abbrev pub count_all : List (ℕ × ℕ) → Tally → Tally
count_all [] a = a
count_all (f ∷ fs) a = count_all fs (count_one f.0 f.1 a)

-- the numbers of those whose kinds pass a test
abbrev pub numbers_where : (ℕ → Bool) → List (ℕ × ℕ) → List ℕ
numbers_where test fs = map (λ f. f.0) (filter (λ f. test f.1) fs)

-- p says how many numbers there are, of 2^64 or more 2^64 - 1, and the first
abbrev pub Counts : List ℕ → Total → Type 0
Counts ns p = (n : ℕ) × (more : List ℕ) × (ns ≡ n ∷ more) × (p ≡ record { count = min (length ns) (2 ^ 64 - 1); first = n })

-- the same, or there is none
abbrev pub CountsIfAny : List ℕ → Option Total → Type 0
CountsIfAny ns None = ns ≡ []
CountsIfAny ns (Some p) = Counts ns p

-- What is kept of things with these numbers and kinds: of each kind that is told apart how many were of it, and the first; the
-- others are those of none of these kinds. There are others only beside sixteen kinds.
pub record IsTallyOf (fs : List (ℕ × ℕ)) (a : Tally) : Type 0 where
  pub kinds : AllByRecursion (λ k. Counts (numbers_where (λ t. t == k.kind) fs) k.total) a.kinds
  pub apart : AllPairs (λ t u. t ≢ u) (map (λ k. k.kind) a.kinds)
  pub others : CountsIfAny (numbers_where (λ t. not (list_any (is_of t) a.kinds)) fs) a.others
  pub few : length a.kinds ≤ 16
  pub full : (length a.kinds ≡ 16) ⊎ (a.others ≡ None)

-- each one counts
abbrev pub EachIsCounted : Type 0
EachIsCounted = (fs : List (ℕ × ℕ)) → IsTallyOf fs (count_all fs no_tally)

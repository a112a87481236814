-- A member is smaller than the members among which it stands.
use Rattle.std.proofs.Common.{◌≡◌, ℕ, zero, suc, ◌+◌, ◌<◌, ◌≤◌, List, [], ◌∷◌, ◌++◌, length, get_or, sym, ap, ◌∙◌, subst, arith}
use Rattle.mms_data.specs.declared.value.Value.{Value}
use Rattle.mms_data.specs.Data.{Data}
use Rattle.mms_data.specs.computed.Weight.{weight, weight_of_all}
use Rattle.mms_data.specs.Value.{data_of, datas}

pub weight_at : {A : Type 0} (vs : List (Value A)) (i : ℕ) (d : Value A) → i < length vs → weight (data_of (get_or vs i d)) + 1 ≤ weight_of_all (datas vs)
weight_at [] i d h = absurd (omega arith)
weight_at (v ∷ vs) zero d h = omega arith
weight_at (v ∷ vs) (suc i) d h = omega (arith, weight_at vs i d (omega arith))

weight_within : (xs ys : List Data) (d : Data) → weight d + 1 ≤ weight_of_all (xs ++ d ∷ ys)
weight_within [] ys d = omega arith
weight_within (x ∷ xs) ys d = omega (arith, weight_within xs ys d)

-- a member that comes after those of xs
pub weight_in : (xs left ys all : List Data) (d : Data) → left ≡ d ∷ ys → xs ++ left ≡ all → weight d + 1 ≤ weight_of_all all
weight_in xs left ys all d first parts = subst (λ zs. weight d + 1 ≤ weight_of_all zs) (ap (λ (zs : List Data). xs ++ zs) (sym first) ∙ parts) (weight_within xs ys d)

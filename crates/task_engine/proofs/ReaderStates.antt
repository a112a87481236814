-- A reader stands for states.
use Rattle.std.proofs.Common.{ℕ, List, [], ◌∷◌, ap}
use Rattle.list_core.specs.ReadItems.{AnswerOf, Gave}

-- what it gave leads from state to state
pub gave_states : {I P X F : Type 0} (raw : P → AnswerOf X F → P → Type 0) (state : I → P) (a b : I) (items : List (ℕ × X)) → Gave (λ x answer y. raw (state x) answer (state y)) a items b → Gave raw (state a) items (state b)
unfolding Gave
gave_states raw state a b [] same = ap state same
gave_states raw state a b (e ∷ es) (next, q, g) = (state next, q, gave_states raw state next b es g)

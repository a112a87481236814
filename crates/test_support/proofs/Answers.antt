-- What `allocate` answers, at a machine value that is known by an equation. Assumes `Logic`.
--     fits          it has its type
--     is_block, is_refusal    it is owned, made of nothing
use mathlib.Core.Path.{◌≡◌, sym, subst}
use mathlib.Core.Bool.{Bool, true, false}
use Prim.Native.Nat.{ℕ}
use mathlib.Core.List.{[], ◌∷◌}
use lib.Dec.{T}
use seplogic.Ra.Ura.{Ura}
use mir.Val.{Val, has_ty, WT}
use base.Logic.{ent, emp}
use types.Logic.{Logic, sem}
use denote.Param.{layout}
use denote.RawPtr.{block_ptr}
use Rattle.std.specs.Prelude.{Ok, Err}
use Rattle.std.proofs.alloc.Calls.{Answer, answer_val, Answer-typed, Answer-Ok, Answer-err}

abbrev pub Typed : Val → Type 0
Typed v = T (has_ty (layout Answer) v) × WT v

pub fits : (v : Val) (y : Bool) (b o : ℕ) → v ≡ answer_val y b o → Typed v
fits v y b o is = subst Typed (sym is) (Answer-typed y b o)

module _ {M : Type 1} {𝓤 : Ura M} (𝓛 : Logic 𝓤) where
  abbrev Owned : Answer.Denot → Val → Type 1
  Owned answer v = ent 𝓤 (emp 𝓤) (sem 𝓛 (Answer.own_val answer (v ∷ [])))

  pub is_block : (v : Val) (b o : ℕ) → v ≡ answer_val true b o → Owned (Ok (block_ptr b o)) v
  is_block v b o is = subst (Owned (Ok (block_ptr b o))) (sym is) (Answer-Ok 𝓛 b o)

  pub is_refusal : (v : Val) → v ≡ answer_val false 0 0 → Owned (Err (record {})) v
  is_refusal v is = subst (Owned (Err (record {}))) (sym is) (Answer-err 𝓛)

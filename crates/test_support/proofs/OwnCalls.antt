-- The two calls that a refusing allocator makes of itself: of `grants`, and of `behind`. Assumes `Logic`.
--     Refusing, Held             its row, and what the holder of a `&` to it has
--     Grants, Behind             the contracts of the two
--     Tokens, picked, may_ask    what either is called with: the tokens of its two lifetimes, beside the `&`
--     granted, lender            what a call leaves: a truth value, or the place of the allocator behind; and the tokens
use mathlib.Core.Path.{◌≡◌, refl, sym, ap}
use mathlib.Core.Bool.{Bool}
use Prim.Native.Nat.{ℕ}
use mathlib.Core.List.{List, [], ◌∷◌}
use seplogic.Ra.Ura.{Ura}
use mir.Syntax.{Callee, a_type, named}
use mir.Val.{Val, vbool, vptr}
use base.Logic.{SProp, ent, sep, ex, guard, emp, id⊢}
use base.Fml.{Lft, Share, Fml, ftrue, fsep, flft}
use prog.Memory.{Memory}
use prog.Routine.{Routine}
use types.Logic.{Logic, sem}
use types.Kit.{Item, mean, ‵, raw, ◌⊛◌, some, later, ◌$◌, ◌∵◌, !, qed, move, use0, use1, split, join, pick, rewrite, fsplit, fjoin, feq_l, feq_i, check, show, await, updating, now as at_once, done, drop}
use contract.BorrowLft.{◌⊑◌}
use contract.Monad.{Fun, fact, fact_i}
use denote.Builtin.{bool}
use denote.Memory.{hidden_shr}
use denote.Param.{layouts, param}
use denote.RattleType.{RattleType}
use denote.Ref.{Bor, ShrRef, shr_vals}
use denote.Steps.{heard, only, nothing}
use denote.Triple.Statement.{Contract}
use denote.Triple.Spec.{triple_of}
use Rattle.std.proofs.alloc.Calls.{Al, seen}
use Rattle.test_support.specs.contracts.refusing.RefusingAlloc.{the_row}
use Rattle.test_support.specs.contracts.refusing.RefusingAlloc.grants as G
use Rattle.test_support.specs.contracts.refusing.RefusingAlloc.grants.Key as grants_key
use Rattle.test_support.specs.contracts.refusing.RefusingAlloc.behind as B
use Rattle.test_support.specs.contracts.refusing.RefusingAlloc.behind.Key as behind_key

module _ (Z : Al) where
  abbrev pub Refusing : RattleType
  Refusing = the_row (param 0 Z.row)

  abbrev pub Held : Lft → Bor Z.row.Denot → Fml
  Held κ r = hidden_shr Refusing κ r.now r.ref_ptr.0 r.ref_ptr.1

  abbrev pub at_grants : Callee
  at_grants = grants_key.name (layouts (a_type ∷ []) (Z.row, tt))

  abbrev pub at_behind : Callee
  at_behind = behind_key.name (layouts (a_type ∷ []) (Z.row, tt))

module _ {M : Type 1} {𝓤 : Ura M} (𝓛 : Logic 𝓤) where
  abbrev pub Tokens : Lft → Lft → Share → Share → Item 𝓤
  Tokens κ ρ q s = ‵ (flft κ q) ⊛ ‵ (flft ρ s) ⊛ ‵ ftrue

module _ (Z : Al) {M : Type 1} {𝓤 : Ura M} (𝓛 : Logic 𝓤) (mem : Memory → SProp 𝓤) (run : Routine → Fun 𝓤) where
  open 𝓛 use {H}

  abbrev pub Grants : Contract 𝓤
  Grants = triple_of 𝓛 (G.signature Z.row) (G.spec Z.row 𝓛 mem run)

  abbrev pub Behind : Contract 𝓤
  Behind = triple_of 𝓛 (B.signature Z.row) (B.spec Z.row 𝓛 mem run)

  module _ (κ ρ : Lft) (q s : Share) (within : κ ⊑ ρ) (r : Bor Z.row.Denot) where
    abbrev Toks : Item 𝓤
    Toks = Tokens 𝓛 κ ρ q s

    abbrev pub picked : Behind.Ghost
    picked = (((κ, (ρ, tt)), (q, (s, tt)), (within, tt), (r, tt), (shr_vals r, tt)), tt)

    pub may_ask : ρ ⊑ Z.row.lives → ent 𝓤 (sep 𝓤 (sem 𝓛 (Held Z κ r)) (mean 𝓛 Toks)) (Behind.pre picked)
    may_ask lives = qed 𝓛 (‵ (Held Z κ r) ∷ Toks ∷ []) ∵
        nothing ! $ move ! (1 ∷ []) $ feq_i ! (List Val) (shr_vals r) (shr_vals r) refl $ fjoin ! $ fjoin ! $ move ! (1 ∷ 0 ∷ []) $ join ! $
        nothing ! $ use0 𝓛 (raw (fact 𝓤 (ρ ⊑ Z.row.lives))) (fact_i 𝓤 (ρ ⊑ Z.row.lives) (emp 𝓤) lives) $ join ! $ move ! (1 ∷ 0 ∷ []) $ done !

    abbrev Truth : Val → Bool → SProp 𝓤
    Truth v y = guard 𝓤 (v ≡ vbool y) (mean 𝓛 Toks)

    pub granted : (v : Val) → ent 𝓤 (Grants.post picked v) (H.⇛ (ex 𝓤 (Truth v)))
    granted v = qed 𝓛 (raw (Grants.post picked v) ∷ []) ∵ updating ! $
        use1 𝓛 (later (some (λ (y : Bool). (Toks ⊛ ‵ (bool.own_val y (v ∷ []))) ⊛ some (λ (ws : Unit {0} × Unit {0}). ‵ (fsep ftrue ftrue) ⊛ ‵ ftrue)))) (id⊢ 𝓤 _) $ await ! tt $
        pick ! (λ y. split ! $ split ! $ move ! (1 ∷ []) $ feq_l ! (λ is. move ! (1 ∷ []) $ drop ! $ at_once ! $ show ! (Truth v) y $ check ! (ap only is) $ done !))

    abbrev Place : Val → ℕ × ℕ → SProp 𝓤
    Place v p = guard 𝓤 (v ≡ vptr p.0 p.1) (sep 𝓤 (sem 𝓛 (seen Z κ p r.now)) (mean 𝓛 Toks))

    pub lender : (v : Val) → ent 𝓤 (Behind.post picked v) (H.⇛ (ex 𝓤 (Place v)))
    lender v = qed 𝓛 (raw (Behind.post picked v) ∷ []) ∵ updating ! $
        use1 𝓛 (later (some (λ (h : Bor Z.row.Denot). (Toks ⊛ ‵ ((ShrRef (named 0) κ (param 0 Z.row)).own_val h (v ∷ []))) ⊛ some (λ (ws : Unit {0} × Unit {0}). ‵ (fsep ftrue ftrue) ⊛ raw (fact 𝓤 (r.now ≡ h.now)))))) (id⊢ 𝓤 _) $ await ! tt $
        pick ! (λ h. split ! $ move ! (1 ∷ []) $ pick ! (λ ws. split ! $ drop ! $ heard ! (r.now ≡ h.now) (λ same. split ! $ move ! (1 ∷ []) $ fsplit ! $ feq_l ! (λ is.
        rewrite ! 0 (λ (x : Z.row.Denot). ‵ (seen Z κ h.ref_ptr x)) (sym same) refl $ at_once ! $ show ! (Place v) h.ref_ptr $ check ! (ap only is) $ done !))))

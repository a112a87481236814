-- A block goes back to the allocator behind, whatever was refused. Assumes `Logic`.
use mathlib.Core.Path.{◌≡◌, refl, sym, subst}
use Prim.Native.Nat.{ℕ, ◌<◌, ◌^◌}
use mathlib.Core.List.{List, [], ◌∷◌}
use lib.Dec.{T}
use seplogic.Ra.Ura.{Ura}
use mir.Syntax.{Ty, Fn, ty_unit, w64}
use mir.Val.{Val, has_ty, vint, vptr, vunit, WT}
use mir.MapTy.{inst_fn}
use base.Logic.{SProp, ent, fst∗, never}
use base.Fml.{Lft, Share, flft}
use prog.Memory.{Memory}
use prog.Routine.{Routine}
use prog.Wp.{Calls, Env, Loops, WpFn}
use types.Logic.{Logic, sem}
use contract.BorrowLft.{◌⊑◌, ⊑_trans}
use contract.Monad.{Fun, fact}
use contract.Running.{tables}
use sound.WpLaws.{FmC}
use types.Kit.{Item, ‵, raw, ◌⊛◌, some, later, given, at_ret, prop, ◌$◌, ◌∵◌, !, qed, move, keep, use1, use2, split, split3, group, pick, learn, fsplit, fjoin, feq_i, frame, regoal, suffices, await, done}
use types.Run.{enter, of_opd, unit_lit, no_more, and_then, first, blocks, exec, returns}
use types.ByLocal.{alloc_all, pass_all, free_all, look_at, get, sets, lands_as, lands_last, env}
use denote.Plain.{uint_vals, uint_Tells}
use denote.RattleType.{owns}
use denote.RawPtr.{Ptr, null_ptr, ptr_val, in_a_block, rawptr_vals, rawptr_Tells}
use denote.Ref.{Bor, shr_vals}
use denote.Signature.{types_at}
use denote.Steps.{heard, nothing}
use denote.Triple.Call.{calls_at, calls_at_last}
use denote.Triple.Clauses.{Ended, Clauses}
use denote.Triple.Statement.{Triple}
use denote.Triple.Table.{framed}
use denote.Triple.Walked.{Stays, walk_of}
use Rattle.std.specs.Allocator.{HasLayout, owned_block}
use Rattle.std.proofs.alloc.Calls.{Al, token, seen, gives_key, Gives, at_gives, Gives-goes, Gives-Gives}
use Rattle.std.proofs.alloc.Shapes.{after}
use Rattle.std.proofs.raw_atomic.Walks.{leaves, proved}
use Rattle.test_support.proofs.Setting.{given_to, itself, pointer, word, forgotten, gone}
use Rattle.test_support.proofs.OwnCalls.{at_behind, Tokens, Behind, picked, may_ask, lender}
use Rattle.test_support.proofs.refusing.RefusingAlloc.behind.Met as behind_met
use Rattle.test_support.specs.contracts.allocator.RefusingAllocAllocator.deallocate as F
use Rattle.test_support.specs.contracts.allocator.RefusingAllocAllocator.deallocate.Key as key
use Rattle.test_support.proofs.allocator.RefusingAllocAllocator.deallocate.Statement.{statement}
use Rattle.test_support.proofs.allocator.RefusingAllocAllocator.deallocate.Code as code

module _ (Z : Al) where
  abbrev body_of : Fn
  body_of = inst_fn (given_to Z) code.function

  abbrev terms : Ended
  terms = F.ended Z.row Z.g Z.d Z.drops

  abbrev none_kept : Stays terms.signature.params terms.kept
  none_kept = (forgotten (itself Z), (forgotten pointer, (forgotten word, (forgotten word, tt))))

module _ (Z : Al) {M : Type 1} {𝓤 : Ura M} (𝓛 : Logic 𝓤) (mem : Memory → SProp 𝓤) (run : Routine → Fun 𝓤)
    (C : Calls 𝓤 𝓛.H) (Λ : Loops 𝓤 𝓛.H) (fm : FmC 𝓤 𝓛.H 𝓛.laws C)
    (behind : Triple 𝓤 (C (at_behind Z)) (Behind Z 𝓛 mem run)) (gives : Triple 𝓤 (C (gives_key Z)) (Gives Z 𝓛 mem run))
    (κ ρ : Lft) (q s : Share) (within : κ ⊑ ρ) (r : Bor Z.row.Denot) (x : Ptr) (n a : ℕ) (τ : Ty) where
  open 𝓛 use {H}

  abbrev clauses : Clauses 𝓤 (terms Z)
  clauses = F.clauses Z.row Z.g Z.d Z.drops 𝓛 mem run

  abbrev bound : (walk_of 𝓛 (terms Z) (none_kept Z) clauses).Ghost
  bound = (((κ, (ρ, tt)), (q, (s, tt)), (within, tt), (r, (x, (n, (a, tt)))), (shr_vals r, (rawptr_vals x, (vint w64 n ∷ [], (vint w64 a ∷ [], tt))))), τ)

  abbrev Owed : Val → SProp 𝓤
  Owed = (walk_of 𝓛 (terms Z) (none_kept Z) clauses).post bound

  abbrev Toks : Item 𝓤
  Toks = Tokens 𝓛 κ ρ q s

  abbrev asked : (Behind Z 𝓛 mem run).Ghost
  asked = picked Z 𝓛 mem run κ ρ q s within r

  abbrev passed : Ptr → List Val
  passed z = vptr r.ref_ptr.0 r.ref_ptr.1 ∷ ptr_val z ∷ vint w64 n ∷ vint w64 a ∷ []

  walk : n < 2 ^ 64 → a < 2 ^ 64 → ent 𝓤 ((walk_of 𝓛 (terms Z) (none_kept Z) clauses).pre bound) (WpFn 𝓤 H C Λ (body_of Z) (passed x) Owed)
  walk size_fits align_fits =
      qed 𝓛 ((Toks ⊛ ‵ (owns (types_at (terms Z).signature.params bound.0.0) bound.0.3 bound.0.4)) ∷ (raw (fact 𝓤 (ρ ⊑ Z.row.lives)) ⊛ raw (fact 𝓤 (HasLayout τ n a)) ⊛ ‵ (owned_block (token Z r.now) τ x)) ∷ []) ∵
      move ! (1 ∷ []) $ split3 ! $ heard ! (ρ ⊑ Z.row.lives) (λ lives. heard ! (HasLayout τ n a) (λ layout_is.
      in_a_block ! x (λ z. owned_block (token Z r.now) τ z) (fst∗ 𝓤 (never 𝓤) (sem 𝓛 (token Z r.now τ null_ptr))) (λ b o at.
      regoal ! (λ (z : Ptr). prop (WpFn 𝓤 H C Λ (body_of Z) (passed z) Owed)) at refl $
      move ! (1 ∷ []) $ split ! $ move ! (1 ∷ []) $ fsplit ! $ fsplit ! $ keep ! (1 ∷ 3 ∷ 4 ∷ []) $
      -- [the `&`; the tokens; the block]
      enter ! _ _ _ _ _ $ alloc_all ! (λ l. pass_all ! refl ((tt, tt), ((tt, tt), ((tt, record { fits = size_fits }), ((tt, record { fits = align_fits }), tt)))) $
      let E : Env 𝓤 H = env (body_of Z).locals l in
      first ! $ blocks ! $
      use2 𝓛 (raw ((Behind Z 𝓛 mem run).pre asked)) (may_ask Z 𝓛 mem run κ ρ q s within r lives) $
      calls_at ! fm (Behind Z 𝓛 mem run) behind asked (and_then ! (get ! refl) (no_more !)) (λ w.
      use1 𝓛 (later (some (λ (p : ℕ × ℕ). given (w ≡ vptr p.0 p.1) (‵ (seen Z κ p r.now) ⊛ Toks)))) (lender Z 𝓛 mem run κ ρ q s within r w) $ await ! tt $ pick ! (λ p. learn ! (λ is_there.
      let out : κ ⊑ Z.row.lives = ⊑_trans κ ρ Z.row.lives within lives in
      let y : (Gives Z 𝓛 mem run).Ghost = at_gives Z 𝓛 mem run κ q p r.now b o n a τ in
      split ! $ lands_as ! is_there refl (tt, tt) $ move ! (1 ∷ []) $ split3 ! $ move ! (4 ∷ []) $ fsplit ! $ move ! (0 ∷ 1 ∷ 5 ∷ 2 ∷ []) $ group ! 4 $
      -- [the block, the `&` to the allocator behind and the token of its lifetime; the other tokens]
      use1 𝓛 (raw ((Gives Z 𝓛 mem run).pre y)) (Gives-goes Z 𝓛 mem run κ q p r.now out b o n a τ layout_is.0 layout_is.1 size_fits align_fits) $
      calls_at_last ! fm (Gives Z 𝓛 mem run) gives y (and_then ! (get ! refl) (and_then ! (get ! refl) (and_then ! (get ! refl) (and_then ! (get ! refl) (no_more !))))) (λ u.
      use1 𝓛 (later (given (u ≡ vunit) (‵ (flft κ q)))) (Gives-Gives Z 𝓛 mem run κ q p r.now b o n a τ u) $ await ! tt $ learn ! (λ is_unit.
      lands_last ! refl (subst (λ (z : Val). T (has_ty ty_unit z) × WT z) (sym is_unit) (tt, tt)) $ exec ! C Λ E (after 1 (body_of Z).body) (at_ret E Owed) $
      sets ! (of_opd ! (unit_lit !)) refl (tt, tt) $ returns ! (look_at ! 0 refl) $ free_all ! refl $ group ! 3 $
      suffices ! _ (leaves 𝓛 (terms Z) (none_kept Z) clauses bound vunit tt (tt, (tt, (tt, (tt, tt)))) (tt, (tt, (tt, (tt, tt))))) $
      frame ! $ nothing ! $ feq_i ! (List Val) (vunit ∷ []) (vunit ∷ []) refl $ nothing ! $ nothing ! $ fjoin ! $ nothing ! $ fjoin ! $ nothing ! $ fjoin ! $ nothing ! $ fjoin ! $ done !)))))))))

pub deallocate_spec : {M : Type 1} → statement M
deallocate_spec 𝓤 𝓛 𝓜 𝓡 wired Y L g d drops met _ =
    let Z : Al = record { row = Y; laws = L; g = g; d = d; drops = drops } in
    let 𝓣 = tables 𝓤 𝓛.H 𝓜 𝓡 𝓡.env in
    proved 𝓛 (terms Z) (none_kept Z) (F.clauses Y g d drops 𝓛 𝓜.mem 𝓡.returns) 𝓜 𝓡 (gone 𝓛 (itself Z) (λ κs x w. refl), (gone 𝓛 pointer (λ κs x w. refl), (gone 𝓛 word (λ κs x w. refl), (gone 𝓛 word (λ κs x w. refl), tt))))
    (key.name (given_to Z)) (body_of Z) (code.unfolded 𝓤 𝓛.H 𝓜 𝓡 wired (Y, tt) d drops)
    (λ κs. (shr_vals, (rawptr_vals, (uint_vals w64, (uint_vals w64, tt))))) (λ κs. ((λ r vs is. is.0), (rawptr_Tells, (uint_Tells w64, (uint_Tells w64, tt)))))
    (λ κs qs bounds a τ are. walk Z 𝓛 𝓜.mem 𝓡.returns 𝓣.C 𝓣.Λ (framed 𝓤 𝓛.H 𝓜 𝓣)
    (behind_met.met 𝓤 𝓛 𝓜 𝓡 (code.calls-test_support::refusing::RefusingAlloc::behind 𝓡.env wired) Y L)
    (met.deallocate drops) κs.0 κs.1.0 qs.0 qs.1.0 bounds.0 a.0 a.1.0 a.1.1.0 a.1.1.1.0 τ are.1.1.0.1 are.1.1.1.0.1)

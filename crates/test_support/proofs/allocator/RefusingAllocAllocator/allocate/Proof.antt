-- A growth that is granted is asked of the allocator behind, and any other is refused. Assumes `Logic`.
use mathlib.Core.Path.{◌≡◌, refl}
use mathlib.Core.Bool.{Bool, true, false}
use Prim.Native.Nat.{ℕ, ◌<◌, ◌^◌}
use mathlib.Core.List.{[], ◌∷◌}
use seplogic.Ra.Ura.{Ura}
use mir.Syntax.{Ty, Fn, w64}
use mir.Val.{Val, vbool, vint, vptr}
use mir.MapTy.{inst_fn}
use base.Logic.{SProp, ent}
use base.Fml.{Lft, Share, flft}
use prog.Memory.{Memory}
use prog.Routine.{Routine}
use prog.Wp.{Calls, Env, Loops, Wp, WpFn, at_return}
use types.Logic.{Logic}
use contract.BorrowLft.{◌⊑◌, ⊑_trans}
use contract.Monad.{Fun, fact}
use contract.Running.{tables}
use sound.WpLaws.{FmC}
use types.Kit.{Item, ‵, raw, ◌⊛◌, some, later, given, at_ret, ⋆, ◌$◌, ◌∵◌, !, qed, by, move, keep, use0, use1, use2, split, split3, drop, group, pick, learn, fsplit, fjoin, frame, suffices, await, done}
use types.Part.{agg}
use types.Run.{enter, of_opd, lit, no_more, and_then, first, branches, exec, returns}
use types.ByLocal.{alloc_all, pass_all, free_all, forget_but, holding, look_at, get, sets, sets_last, lands_as, lands_last, env}
use denote.Opens.{shr_dup}
use denote.Param.{param}
use denote.Param.Laws.{param_laws}
use denote.Plain.{uint_vals, uint_Tells}
use denote.RattleType.{owns}
use denote.RawPtr.{block_ptr}
use denote.Ref.{Bor, shr_vals}
use denote.Signature.{types_at}
use denote.Steps.{heard, nothing}
use denote.Triple.Call.{calls_at, calls_at_last}
use denote.Triple.Clauses.{Ended, Clauses}
use denote.Triple.Statement.{Triple}
use denote.Triple.Table.{framed}
use denote.Triple.Walked.{Stays, walk_of}
use Rattle.std.specs.Prelude.{Ok, Err}
use Rattle.std.specs.Allocator.{HasLayout, block_if_ok}
use Rattle.std.proofs.alloc.Calls.{Al, Answer, answer_val, token, seen, takes_key, Takes, at_takes, Answered, Takes-goes, Takes-gives, answers}
use Rattle.std.proofs.alloc.Shapes.{after}
use Rattle.std.proofs.raw_atomic.Walks.{leaves, proved}
use Rattle.test_support.proofs.Setting.{given_to, itself, word, forgotten, gone}
use Rattle.test_support.proofs.OwnCalls.{Refusing, at_grants, at_behind, Tokens, Grants, Behind, picked, may_ask, granted, lender}
use Rattle.test_support.proofs.Answers.{Typed, fits, is_block, is_refusal}
use Rattle.test_support.proofs.refusing.RefusingAlloc.TheLaws.{the_row_laws}
use Rattle.test_support.proofs.refusing.RefusingAlloc.grants.Met as grants_met
use Rattle.test_support.proofs.refusing.RefusingAlloc.behind.Met as behind_met
use Rattle.test_support.specs.contracts.allocator.RefusingAllocAllocator.allocate as F
use Rattle.test_support.specs.contracts.allocator.RefusingAllocAllocator.allocate.Key as key
use Rattle.test_support.proofs.allocator.RefusingAllocAllocator.allocate.Statement.{statement}
use Rattle.test_support.proofs.allocator.RefusingAllocAllocator.allocate.Code as code

module _ (Z : Al) where
  abbrev body_of : Fn
  body_of = inst_fn (given_to Z) code.function

  abbrev terms : Ended
  terms = F.ended Z.row Z.g Z.d Z.drops

  abbrev none_kept : Stays terms.signature.params terms.kept
  none_kept = (forgotten (itself Z), (forgotten word, (forgotten word, tt)))

module _ (Z : Al) {M : Type 1} {𝓤 : Ura M} (𝓛 : Logic 𝓤) (mem : Memory → SProp 𝓤) (run : Routine → Fun 𝓤)
    (C : Calls 𝓤 𝓛.H) (Λ : Loops 𝓤 𝓛.H) (fm : FmC 𝓤 𝓛.H 𝓛.laws C)
    (grants : Triple 𝓤 (C (at_grants Z)) (Grants Z 𝓛 mem run)) (behind : Triple 𝓤 (C (at_behind Z)) (Behind Z 𝓛 mem run)) (takes : Triple 𝓤 (C (takes_key Z)) (Takes Z 𝓛 mem run))
    (κ ρ : Lft) (q s : Share) (within : κ ⊑ ρ) (r : Bor Z.row.Denot) (n a : ℕ) (τ : Ty) where
  open 𝓛 use {H}

  abbrev clauses : Clauses 𝓤 (terms Z)
  clauses = F.clauses Z.row Z.g Z.d Z.drops 𝓛 mem run

  abbrev bound : (walk_of 𝓛 (terms Z) (none_kept Z) clauses).Ghost
  bound = (((κ, (ρ, tt)), (q, (s, tt)), (within, tt), (r, (n, (a, tt))), (shr_vals r, (vint w64 n ∷ [], (vint w64 a ∷ [], tt)))), τ)

  abbrev Owed : Val → SProp 𝓤
  Owed = (walk_of 𝓛 (terms Z) (none_kept Z) clauses).post bound

  abbrev Toks : Item 𝓤
  Toks = Tokens 𝓛 κ ρ q s

  abbrev asked : (Behind Z 𝓛 mem run).Ghost
  asked = picked Z 𝓛 mem run κ ρ q s within r

  module _ (l : ℕ → ℕ) where
    abbrev E : Env 𝓤 H
    E = env (body_of Z).locals l

    -- from the answer in local 5 to the return
    hands : (v : Val) (answer : Answer.Denot) → Typed v
        → ent 𝓤 (⋆ 𝓛 (‵ (Answer.own_val answer (v ∷ [])) ∷ ‵ (block_if_ok (token Z r.now) τ answer) ∷ Toks ∷ holding 𝓛 E ((5, v) ∷ []))) (Wp 𝓤 H C Λ E (after 2 (body_of Z).body) (at_return 𝓤 H E Owed))
    hands v answer typed = qed 𝓛 (‵ (Answer.own_val answer (v ∷ [])) ∷ ‵ (block_if_ok (token Z r.now) τ answer) ∷ Toks ∷ holding 𝓛 E ((5, v) ∷ [])) ∵
        exec ! C Λ E (after 2 (body_of Z).body) (at_ret E Owed) $ sets ! (of_opd ! (get ! refl)) refl typed $ returns ! (look_at ! 0 refl) $ free_all ! refl $
        suffices ! _ (leaves 𝓛 (terms Z) (none_kept Z) clauses bound v answer (tt, (tt, (tt, tt))) (tt, (tt, (tt, tt)))) $
        move ! (2 ∷ []) $ frame ! $ nothing ! $ nothing ! $ fjoin ! $ nothing ! $ fjoin ! $ nothing ! $ fjoin ! $ done !

  walk : n < 2 ^ 64 → a < 2 ^ 64
      → ent 𝓤 ((walk_of 𝓛 (terms Z) (none_kept Z) clauses).pre bound) (WpFn 𝓤 H C Λ (body_of Z) (vptr r.ref_ptr.0 r.ref_ptr.1 ∷ vint w64 n ∷ vint w64 a ∷ []) Owed)
  walk size_fits align_fits =
      qed 𝓛 ((Toks ⊛ ‵ (owns (types_at (terms Z).signature.params bound.0.0) bound.0.3 bound.0.4)) ∷ (raw (fact 𝓤 (ρ ⊑ Z.row.lives)) ⊛ raw (fact 𝓤 (HasLayout τ n a))) ∷ []) ∵
      move ! (1 ∷ []) $ split ! $ heard ! (ρ ⊑ Z.row.lives) (λ lives. heard ! (HasLayout τ n a) (λ layout_is.
      split ! $ move ! (1 ∷ []) $ fsplit ! $ fsplit ! $ keep ! (1 ∷ 3 ∷ []) $
      -- [the `&`; the tokens]
      enter ! _ _ _ _ _ $ alloc_all ! (λ l. pass_all ! refl ((tt, tt), ((tt, record { fits = size_fits }), ((tt, record { fits = align_fits }), tt))) $
      shr_dup ! (Refusing Z) (the_row_laws (param 0 Z.row) (param_laws 0 Z.row Z.laws)).shr_laws r.now r.ref_ptr.0 r.ref_ptr.1 κ $ move ! (0 ∷ 2 ∷ []) $
      use2 𝓛 (raw ((Grants Z 𝓛 mem run).pre asked)) (may_ask Z 𝓛 mem run κ ρ q s within r lives) $
      calls_at ! fm (Grants Z 𝓛 mem run) grants asked (and_then ! (get ! refl) (no_more !)) (λ v.
      use1 𝓛 (later (some (λ (y : Bool). given (v ≡ vbool y) Toks))) (granted Z 𝓛 mem run κ ρ q s within r v) $ await ! tt $ pick ! (λ y. learn ! (λ says_so.
      lands_as ! says_so refl (tt, tt) $ first ! $ branches ! (get ! refl)
      (λ granted_it. move ! (1 ∷ 0 ∷ []) $
      use2 𝓛 (raw ((Behind Z 𝓛 mem run).pre asked)) (may_ask Z 𝓛 mem run κ ρ q s within r lives) $
      calls_at ! fm (Behind Z 𝓛 mem run) behind asked (and_then ! (get ! refl) (no_more !)) (λ w.
      use1 𝓛 (later (some (λ (p : ℕ × ℕ). given (w ≡ vptr p.0 p.1) (‵ (seen Z κ p r.now) ⊛ Toks)))) (lender Z 𝓛 mem run κ ρ q s within r w) $ await ! tt $ pick ! (λ p. learn ! (λ is_there.
      let out : κ ⊑ Z.row.lives = ⊑_trans κ ρ Z.row.lives within lives in
      let y : (Takes Z 𝓛 mem run).Ghost = at_takes Z 𝓛 mem run κ q p r.now n a τ in
      split ! $ lands_as ! is_there refl (tt, tt) $ move ! (1 ∷ []) $ split3 ! $ move ! (3 ∷ 0 ∷ []) $
      -- [the `&` to the allocator behind; the token of its lifetime; the other tokens]
      use2 𝓛 (raw ((Takes Z 𝓛 mem run).pre y)) (Takes-goes Z 𝓛 mem run κ q p r.now out n a τ layout_is.0 layout_is.1 size_fits align_fits) $
      calls_at_last ! fm (Takes Z 𝓛 mem run) takes y (and_then ! (get ! refl) (and_then ! (get ! refl) (and_then ! (get ! refl) (no_more !)))) (λ u.
      use1 𝓛 (later (raw (Answered Z 𝓛 mem run r.now τ u) ⊛ ‵ (flft κ q))) (Takes-gives Z 𝓛 mem run κ q p r.now n a τ u) $ await ! tt $ split ! $
      move ! (1 ∷ 2 ∷ 3 ∷ []) $ group ! 3 $ move ! (1 ∷ []) $ answers Z ! mem run r.now τ u
      (λ b o is. fjoin ! $ lands_last ! refl (fits u true b o is) $ exec ! C Λ (E l) (after 2 (body_of Z).body) (at_ret (E l) Owed) $ forget_but ! (E l) (5 ∷ []) refl $
      use0 𝓛 (‵ (Answer.own_val (Ok (block_ptr b o)) (u ∷ []))) (is_block 𝓛 u b o is) $ by ! (hands l u (Ok (block_ptr b o)) (fits u true b o is)))
      (λ is. lands_last ! refl (fits u false 0 0 is) $ exec ! C Λ (E l) (after 2 (body_of Z).body) (at_ret (E l) Owed) $ forget_but ! (E l) (5 ∷ []) refl $
      nothing ! $ use0 𝓛 (‵ (Answer.own_val (Err (record {})) (u ∷ []))) (is_refusal 𝓛 u is) $ by ! (hands l u (Err (record {})) (fits u false 0 0 is))))))))
      (λ refused_it. sets ! (agg ! (no_more !)) refl (tt, tt) $ sets_last ! (agg ! (and_then ! (lit ! tt) (and_then ! (get ! refl) (no_more !)))) refl (fits (answer_val false 0 0) false 0 0 refl) $
      exec ! C Λ (E l) (after 2 (body_of Z).body) (at_ret (E l) Owed) $ move ! (1 ∷ []) $ drop ! $ forget_but ! (E l) (5 ∷ []) refl $
      nothing ! $ use0 𝓛 (‵ (Answer.own_val (Err (record {})) (answer_val false 0 0 ∷ []))) (is_refusal 𝓛 (answer_val false 0 0) refl) $
      by ! (hands l (answer_val false 0 0) (Err (record {})) (fits (answer_val false 0 0) false 0 0 refl)))))))))

pub allocate_spec : {M : Type 1} → statement M
allocate_spec 𝓤 𝓛 𝓜 𝓡 wired Y L g d drops met _ =
    let Z : Al = record { row = Y; laws = L; g = g; d = d; drops = drops } in
    let 𝓣 = tables 𝓤 𝓛.H 𝓜 𝓡 𝓡.env in
    proved 𝓛 (terms Z) (none_kept Z) (F.clauses Y g d drops 𝓛 𝓜.mem 𝓡.returns) 𝓜 𝓡 (gone 𝓛 (itself Z) (λ κs x w. refl), (gone 𝓛 word (λ κs x w. refl), (gone 𝓛 word (λ κs x w. refl), tt)))
    (key.name (given_to Z)) (body_of Z) (code.unfolded 𝓤 𝓛.H 𝓜 𝓡 wired (Y, tt) d drops)
    (λ κs. (shr_vals, (uint_vals w64, (uint_vals w64, tt)))) (λ κs. ((λ r vs is. is.0), (uint_Tells w64, (uint_Tells w64, tt))))
    (λ κs qs bounds a τ are. walk Z 𝓛 𝓜.mem 𝓡.returns 𝓣.C 𝓣.Λ (framed 𝓤 𝓛.H 𝓜 𝓣)
    (grants_met.met 𝓤 𝓛 𝓜 𝓡 (code.calls-test_support::refusing::RefusingAlloc::grants 𝓡.env wired) Y L)
    (behind_met.met 𝓤 𝓛 𝓜 𝓡 (code.calls-test_support::refusing::RefusingAlloc::behind 𝓡.env wired) Y L)
    (met.allocate drops) κs.0 κs.1.0 qs.0 qs.1.0 bounds.0 a.0 a.1.0 a.1.1.0 τ are.1.0.1 are.1.1.0.1)

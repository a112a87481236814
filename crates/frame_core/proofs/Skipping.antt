-- Events of which the frames of other protocols are passed over, one after another.
use Rattle.std.proofs.Common.{◌≡◌, ℕ, List, [], ◌∷◌, ◌++◌, map, Option, Some, None, Ok, Err, refl, sym, ap, ◌∙◌}
use Rattle.list_core.specs.declared.event.Event.{Event}
use Rattle.list_core.specs.ReadItems.{AnswerOf, Gave}
use Rattle.tally_core.specs.Tally.{Tally, count_all}
use Rattle.frame_core.specs.SkipOther.{Skips, beneath, pass_answer, pass_where, passed_in, passed_over, passed_where, skip_answer, skip_numbered, type_passed}
use Rattle.frame_core.specs.declared.skip_other.SkipOther.{SkipOther}

pass_first : (n : ℕ) (o : Option ℕ) (fs : List (ℕ × ℕ)) (a : Tally) → count_all (passed_where n o ++ fs) a ≡ count_all fs (pass_where n o a)
pass_first n None fs a = refl
pass_first n (Some t) fs a = refl

module _ {I A F : Type 0} (answers : I → AnswerOf (Event A) F → I → Type 0) where
  -- these events came of the reader beneath, of which those are left
  abbrev Came : SkipOther I A → SkipOther I A → List (ℕ × Event A) → Type 0
  Came start end es =
      (given : List (ℕ × Event A)) × Gave answers (beneath start) given (beneath end) × (es ≡ map skip_numbered given)
      × (passed_over end ≡ count_all (passed_in given) (passed_over start))

  one_came : (start next end : SkipOther I A) (e : ℕ × Event A) (es : List (ℕ × Event A)) (given : AnswerOf (Event A) F) → answers (beneath start) given (beneath next)
      → Ok (Some e) ≡ skip_answer given → passed_over next ≡ pass_answer given (passed_over start) → Came next end es → Came start end (e ∷ es)
  unfolding Gave
  one_came start next end e es (Ok None) read left kept rest = absurd (cc)
  one_came start next end e es (Err f) read left kept rest = absurd (cc)
  one_came start next end e es (Ok (Some g)) read left kept rest =
      let first : e ≡ skip_numbered g = cc in (
        g ∷ rest.0,
        (beneath next, read, rest.1),
        rw (first, rest.2) refl,
        rest.3 ∙ (ap (λ a. count_all (passed_in rest.0) a) kept ∙ sym (pass_first g.0 (type_passed g.1.kind) (passed_in rest.0) (passed_over start))),
      )

  pub leaves_what_came : (start end : SkipOther I A) (es : List (ℕ × Event A)) → Gave (Skips answers) start es end → Came start end es
  unfolding Gave
  leaves_what_came start end [] same = ([], ap (λ s. beneath s) same, refl, sym (ap (λ s. passed_over s) same))
  leaves_what_came start end (e ∷ es) (next, skips, gave) =
      one_came start next end e es skips.given skips.read skips.left skips.kept (leaves_what_came next end es gave)

-- What is kept of the frames of other protocols among events that were read.
use Rattle.std.proofs.Common.{Option, Some, None, Ok, Err, ◌≡◌, ◌+◌, ℕ, List, [], ◌∷◌, ◌++◌, length, take, ap, sym, ◌∙◌, refl, subst, arith}
use Rattle.std.specs.Global.{Global}
use Rattle.std.proofs.lemmas.List.{append_assoc, append-nil, length-append}
use Rattle.std.proofs.lemmas.Grind.{flat_map-append}
use Rattle.list_core.specs.declared.event.Event.{Event}
use Rattle.list_core.specs.Items.{Numbered}
use Rattle.list_core.specs.ReadItems.{AnswerOf}
use Rattle.tally_core.specs.Tally.{Tally, count_all, no_tally}
use Rattle.tally_core.proofs.Tallies.{count_append}
use Rattle.frame_core.specs.SkipOther.{pass_answer, pass_where, passed_in, passed_where, type_passed}
use Rattle.engine_core.specs.declared.ending.Ending.{Ending}
use Rattle.engine_core.specs.WholeRun.{SaysFirst}
use Rattle.task_engine.specs.EventReader.{TellsStop}
use Rattle.task_engine.specs.HandedOut.{PassesOver, ReadsAll}

pub take_front : {X : Type 0} (xs ys : List X) → take (length xs) (xs ++ ys) ≡ xs
take_front [] ys = refl
take_front (x ∷ xs) ys = ap (λ (l : List _). x ∷ l) (take_front xs ys)

pass_last : (n : ℕ) (o : Option ℕ) (a : Tally) → pass_where n o a ≡ count_all (passed_where n o ++ []) a
pass_last n None a = refl
pass_last n (Some t) a = refl

-- frames of other protocols among these events and one more
passed_push : (es : List (ℕ × Event Global)) (e : ℕ × Event Global) (a : Tally) → pass_where e.0 (type_passed e.1.kind) (count_all (passed_in es) a) ≡ count_all (passed_in (es ++ e ∷ [])) a
passed_push es e a =
    pass_last e.0 (type_passed e.1.kind) (count_all (passed_in es) a) ∙ sym (count_append (passed_in es) (passed_in (e ∷ [])) a)
    ∙ ap (λ (fs : List (ℕ × ℕ)). count_all fs a) (sym (flat_map-append (λ (x : ℕ × Event Global). passed_where x.0 (type_passed x.1.kind)) es (e ∷ [])))

-- these are all events
at_end : {F : Type 0} (l : Numbered (Event Global) F) (es : List (ℕ × Event Global)) (ending : Ending) (Far : ℕ → Type 0) (tally : Tally) → l.items ≡ es → Far (length es) → tally ≡ count_all (passed_in es) no_tally → PassesOver l ending Far tally
at_end l es ending Far tally same far is = record {
  read = length es;
  all = λ r. let sizes = ap length same in omega (arith, sizes);
  far = far;
  is_tally = is ∙ ap (λ (xs : List (ℕ × Event Global)). count_all (passed_in xs) no_tally) (sym (ap (take (length es)) (same ∙ sym (append-nil es)) ∙ take_front es []));
}

-- behind these events the next answer was this, and so much is kept
pub passes_by : {F : Type 0} (l : Numbered (Event Global) F) (es : List (ℕ × Event Global)) (raw : AnswerOf (Event Global) F) (ending : Ending) (Far : ℕ → Type 0) (tally : Tally) → SaysFirst l es raw → (ReadsAll ending → TellsStop raw) →
    Far (length es) → Far (length es + 1) → tally ≡ pass_answer raw (count_all (passed_in es) no_tally) → PassesOver l ending Far tally
passes_by {F} l es (Ok (Some e)) ending Far tally first all far more is =
    let items : l.items ≡ (es ++ e ∷ []) ++ first.2.0.items =
    ap (λ (m : Numbered (Event Global) F). m.items) first.1 ∙ ap (λ (m : Numbered (Event Global) F). es ++ m.items) first.2.1 ∙ sym (append_assoc es (e ∷ []) first.2.0.items) in
    record {
      read = length (es ++ e ∷ []);
      all = λ r. absurd (all r);
      far = subst Far (sym (length-append es (e ∷ []))) more;
      is_tally = is ∙ passed_push es e no_tally ∙ ap (λ (xs : List (ℕ × Event Global)). count_all (passed_in xs) no_tally) (sym (ap (take (length (es ++ e ∷ []))) items ∙ take_front (es ++ e ∷ []) first.2.0.items));
    }
passes_by {F} l es (Err None) ending Far tally first all far more is = record {
  read = length es;
  all = λ r. absurd (all r);
  far = far;
  is_tally = is ∙ ap (λ (xs : List (ℕ × Event Global)). count_all (passed_in xs) no_tally) (sym (ap (take (length es)) (ap (λ (m : Numbered (Event Global) F). m.items) first.1) ∙ take_front es first.0.items));
}
passes_by {F} l es raw ending Far tally first all far more is = at_end l es ending Far tally (ap (λ (m : Numbered (Event Global) F). m.items) first.1 ∙ ap (λ (m : Numbered (Event Global) F). es ++ m.items) first.2 ∙ append-nil es) far is

-- nothing was read
pub passes_none : {F : Type 0} (l : Numbered (Event Global) F) (ending : Ending) (Far : ℕ → Type 0) (tally : Tally) → l.items ≡ [] → Far 0 → tally ≡ no_tally → PassesOver l ending Far tally
passes_none l ending Far tally none far is = at_end l [] ending Far tally none far is

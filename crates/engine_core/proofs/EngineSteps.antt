-- What an engine owes for an answer, by what its own answer says; and engines that may write the same owe the same.
use Rattle.std.proofs.Common.{Option, Some, None, Ok, Err, Result, ◌≡◌, ◌⊎◌, ℕ, Bool, List, inl, inr, sym, ◌∙◌, refl}
use Rattle.list_core.specs.ReadItems.{AnswerOf}
use Rattle.engine_core.specs.declared.ending.Ending.{Ending}
use Rattle.engine_core.specs.declared.stopped.Halt.{Halt}
use Rattle.engine_core.specs.declared.stopped.Halt.TheVariants as halt
use Rattle.engine_core.specs.EngineText.{Alike, Allowed, ItemText, step_text_to}
use Rattle.engine_core.specs.RunOver.{EndsThere, HaltsAtEnd, IsDue, KeepsOf, Stops, WantsFor, step_fault}
use Rattle.engine_core.specs.computed.EngineStep.{ItemWritten}

module _ {X C F : Type 0} (refused : ℕ → C → F) (t : Allowed X C F) (before : List (ℕ × X)) (e : ℕ × X) where
  -- a step that is allowed is due
  pub step_due : (written : Result (List ℕ × Bool) C) → t.of_item before e written → IsDue refused t before (Ok (Some e)) (step_text_to refused t e.0 written) (step_fault refused e.0 written)
  step_due written is = record { written = written; is_allowed = is; has_text = refl; has_fault = refl }

-- ---- engines that may write the same

pub alike_self : {X C F : Type 0} (a : Allowed X C F) → Alike a a
alike_self a = record { first = refl; there = λ before e written is. is; back = λ before e written is. is; keeps = λ before e is. is; keeps_back = λ before e is. is; ends = λ items lines is. is; ends_back = λ items lines is. is; last = λ f. refl }

pub alike_back : {X C F : Type 0} (a b : Allowed X C F) → Alike a b → Alike b a
alike_back a b same = record { first = sym same.first; there = same.back; back = same.there; keeps = same.keeps_back; keeps_back = same.keeps; ends = same.ends_back; ends_back = same.ends; last = λ f. sym (same.last f) }

pub alike_then : {X C F : Type 0} (a b c : Allowed X C F) → Alike a b → Alike b c → Alike a c
alike_then a b c p q = record {
  first = p.first ∙ q.first;
  there = λ before e written is. q.there before e written (p.there before e written is);
  back = λ before e written is. p.back before e written (q.back before e written is);
  keeps = λ before e is. q.keeps before e (p.keeps before e is);
  keeps_back = λ before e is. p.keeps_back before e (q.keeps_back before e is);
  ends = λ items lines is. q.ends items lines (p.ends items lines is);
  ends_back = λ items lines is. p.ends_back items lines (q.ends_back items lines is);
  last = λ f. p.last f ∙ q.last f;
}

module _ {X C F : Type 0} (refused : ℕ → C → F) (a b : Allowed X C F) (same : Alike a b) where
  step_alike : (n : ℕ) (written : Result (List ℕ × Bool) C) → step_text_to refused a n written ≡ step_text_to refused b n written
  step_alike n (Ok w) = refl
  step_alike n (Err why) = same.last (refused n why)

  pub due_alike : (before : List (ℕ × X)) (answer : AnswerOf X F) (text : List ℕ) (closing : Option F) → IsDue refused a before answer text closing → IsDue refused b before answer text closing
  due_alike before (Ok (Some e)) text closing is =
      record { written = is.written; is_allowed = same.there before e is.written is.is_allowed; has_text = is.has_text ∙ step_alike e.0 is.written; has_fault = is.has_fault }
  due_alike before (Ok None) text closing is = is
  due_alike before (Err (Some f)) text closing is = (is.0 ∙ same.last f, is.1)
  due_alike before (Err None) text closing is = is

keeps_alike : {X C F : Type 0} (a b : Allowed X C F) → Alike a b → (before : List (ℕ × X)) (answer : AnswerOf X F) → KeepsOf a before answer → KeepsOf b before answer
keeps_alike a b same before (Ok (Some e)) k = same.keeps before e k
keeps_alike a b same before (Ok None) k = k
keeps_alike a b same before (Err why) k = k

module _ {X C F : Type 0} (refused : ℕ → C → F) (a b : Allowed X C F) (same : Alike a b) (before : List (ℕ × X)) (answer : AnswerOf X F) where
  pub wants_alike : WantsFor refused a before answer → WantsFor refused b before answer
  wants_alike (inl e) = inl e
  wants_alike (inr (inl k)) = inr (inl (keeps_alike a b same before answer k))
  wants_alike (inr (inr some)) = inr (inr (λ text closing is none. some text closing (due_alike refused b a (alike_back a b same) before answer text closing is) none))

  pub stops_alike : (h : Halt F) (old new : Option (List ℕ)) → Stops (WantsFor refused a before answer) (IsDue refused a before answer) h old new → Stops (WantsFor refused b before answer) (IsDue refused b before answer) h old new
  stops_alike (halt.Fault f) old new s = (s.0, due_alike refused a b same before answer s.0 (Some f) s.1, s.2)
  stops_alike halt.WriteFault old new s = (s.0, s.1, due_alike refused a b same before answer s.0 s.1 s.2, s.3)
  stops_alike halt.Memory old new s = (wants_alike s.0, s.1)

-- the input ended for both, and the lines at its end were written, or the run stopped at one of them
pub closes_alike : {X C F : Type 0} (a b : Allowed X C F) → Alike a b → (items : List (ℕ × X)) (texts : List ItemText) (answer : AnswerOf X F) (ending : Ending) (fault : Option F) (held new : Option (List ℕ)) →
    EndsThere a items texts answer ending fault held new ⊎ HaltsAtEnd a items answer ending fault held new → EndsThere b items texts answer ending fault held new ⊎ HaltsAtEnd b items answer ending fault held new
closes_alike a b same items texts answer ending fault held new (inl e) =
    inl (record { ended = e.ended; lines = e.lines; may_end = same.ends items e.lines e.may_end; has_ending = e.has_ending; by_none = e.by_none; written = e.written; no_more = e.no_more })
closes_alike a b same items texts answer ending fault held new (inr e) = inr (record { ended = e.ended; lines = e.lines; may_end = same.ends items e.lines e.may_end; before = e.before; mid = e.mid; written = e.written; line = e.line; is_line = e.is_line; stops = e.stops; by_none = e.by_none })

-- an item was written by both
pub wrote_alike : {X C F : Type 0} (a b : Allowed X C F) → Alike a b → (before : List (ℕ × X)) (answer : AnswerOf X F) (stands : List (ℕ × X) → Type 0) (found : Bool) (old new : Option (List ℕ)) →
    ItemWritten a stands before answer found old new → ItemWritten b stands before answer found old new
wrote_alike a b same before answer stands found old new w = record {
  item = w.item;
  text = w.text;
  answered = w.answered;
  has_text = same.there before w.item (Ok (w.text, found)) w.has_text;
  written = w.written;
  stands_after = w.stands_after;
}

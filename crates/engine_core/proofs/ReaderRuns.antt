-- What several answers of a reader of items make an engine write, whatever its input.
use Rattle.std.proofs.Common.{Option, Some, None, Ok, Err, Result, ◌≡◌, ◌⊎◌, ℕ, Bool, true, false, List, [], ◌∷◌, ◌++◌, inl, inr, ap, ap₂, sym, ◌∙◌, refl, subst}
use Rattle.std.specs.Prelude.{◌||◌, if◌then◌else◌}
use Rattle.std.proofs.lemmas.List.{append-nil}
use Rattle.std.proofs.lemmas.Grind.{flat_map-append}
use Rattle.std.proofs.lemmas.List.Folds.{list_any-append}
use Rattle.std.specs.Io.KnownBytes.{Appends}
use Rattle.list_core.specs.Device.{AppendsPrefix}
use Rattle.list_core.specs.ReadItems.{AnswerOf, Gave}
use Rattle.list_core.proofs.Devices.{Appends-append, Appends-none}
use Rattle.engine_core.specs.declared.ending.Ending.{Ending}
use Rattle.engine_core.specs.declared.ending.Ending.TheVariants.{Done, Findings, InputFault, ReadFault, WriteFault}
use Rattle.engine_core.specs.declared.stopped.Halt.{Halt}
use Rattle.engine_core.specs.declared.stopped.Halt.TheVariants as halt
use Rattle.engine_core.specs.EngineText.{Alike, Allowed, ItemText, has_finding, joined_texts}
use Rattle.engine_core.specs.Input.{Faults, Reader}
use Rattle.engine_core.specs.RunOver.{EndsThere, HaltsAtEnd, IsDue, LeavesSo, Run, RunsOver, Stops, WantsFor, ending_by_halt, fault_by_halt, step_fault, stopped_at}
use Rattle.engine_core.proofs.EngineSteps.{closes_alike, stops_alike}
use Rattle.engine_core.proofs.ItemTexts.{AreNext, are_texts, next_push, or_false}

-- a reader gave one item more
gave_push : {I X F : Type 0} (answers : I → AnswerOf X F → I → Type 0) (a b c : I) (es : List (ℕ × X)) (e : ℕ × X) → Gave answers a es b → answers b (Ok (Some e)) c → Gave answers a (es ++ e ∷ []) c
unfolding Gave
gave_push answers a b c [] e p q = (c, subst (λ x. answers x (Ok (Some e)) c) (sym p) q, refl)
gave_push answers a b c (x ∷ es) e p q = (p.0, p.1, gave_push answers p.0 b c es e p.2 q)

gave_none : {I X F : Type 0} (answers : I → AnswerOf X F → I → Type 0) (a : I) → Gave answers a [] a
unfolding Gave
gave_none answers a = refl

module _ {I X C F : Type 0} (reader : Reader I X C F) (t : Allowed X C F) where
  -- what a run has done before a call: it was given these items, none of which was refused, and wrote their texts
  pub record Ran (a b : I) (es : List (ℕ × X)) (old mid : Option (List ℕ)) (found : Bool) : Type 0 where
    pub gave : Gave reader.answers a es b
    pub texts : List ItemText
    pub are_next : AreNext t [] es texts
    pub wrote : Appends old mid (joined_texts texts)
    pub finds : has_finding texts ≡ found

  -- an item more
  pub go_on : (a b c : I) (es : List (ℕ × X)) (old mid new : Option (List ℕ)) (found : Bool) → Ran a b es old mid found →
      (e : ℕ × X) → reader.answers b (Ok (Some e)) c → (text : List ℕ) (is_finding : Bool) → t.of_item es e (Ok (text, is_finding)) → Appends mid new text →
      Ran a c (es ++ e ∷ []) old new (found || is_finding)
  go_on a b c es old mid new found p e q text is_finding s w =
      let last : ItemText = record { text = text; is_finding = is_finding } in
      record {
        gave = gave_push reader.answers a b c es e p.gave q;
        texts = p.texts ++ last ∷ [];
        are_next = next_push t [] es p.texts e last p.are_next s;
        wrote = subst (λ l. Appends old new l) (ap (λ l. joined_texts p.texts ++ l) (sym (append-nil text)) ∙ sym (flat_map-append (λ (x : ItemText). x.text) p.texts (last ∷ []))) (Appends-append old mid new _ _ p.wrote w);
        finds = list_any-append (λ (x : ItemText). x.is_finding) p.texts (last ∷ []) ∙ ap₂ (λ f g. f || g) p.finds (or_false is_finding);
      }

  -- nothing was given yet
  pub ran_none : (a : I) (old : Option (List ℕ)) → Ran a a [] old old false
  ran_none a old = record { gave = gave_none reader.answers a; texts = []; are_next = tt; wrote = Appends-none old; finds = refl }

  module _ (a b c : I) (es : List (ℕ × X)) (old start mid new : Option (List ℕ)) (found : Bool) (first : Appends old start t.first) (p : Ran a b es start mid found) where
    -- the input has ended
    pub closed : (ending : Ending) (fault : Option F) → reader.answers b (Ok None) c → EndsThere t es p.texts (Ok None) ending fault mid new ⊎ HaltsAtEnd t es (Ok None) ending fault mid new → RunsOver reader t a (stopped_at ending fault c) old new
    closed ending fault q x = inr (record {
      items = es;
      texts = p.texts;
      are_texts = are_texts t es p.texts p.are_next;
      held = mid;
      written = Appends-append old start mid t.first (joined_texts p.texts) first p.wrote;
      answer = Ok None;
      read = record { before = b; gave = p.gave; answered = q };
      ends = inr x;
    })

    -- the run stopped
    pub stopped : (answer : AnswerOf X F) → reader.answers b answer c → (h : Halt F) → Stops (WantsFor reader.faults.refused t es answer) (IsDue reader.faults.refused t es answer) h mid new →
        RunsOver reader t a (stopped_at (ending_by_halt reader.faults.failed h) (fault_by_halt h) c) old new
    stopped answer q h x = inr (record {
      items = es;
      texts = p.texts;
      are_texts = are_texts t es p.texts p.are_next;
      held = mid;
      written = Appends-append old start mid t.first (joined_texts p.texts) first p.wrote;
      answer = answer;
      read = record { before = b; gave = p.gave; answered = q };
      ends = inl (record { halt = h; stops = x; has_ending = refl; by = refl });
    })

  -- the first text was not written whole, and the reader is untouched
  pub not_begun : (a : I) (old new : Option (List ℕ)) → AppendsPrefix old new t.first → RunsOver reader t a (stopped_at WriteFault None a) old new
  not_begun a old new w = inl (record { write_fault = refl; by_none = refl; untouched = refl; written = w })

-- ---- one run as another

-- of what was read so as well
module _ {X C F : Type 0} {IsReadSo OtherIsRead : List (ℕ × X) → AnswerOf X F → Type 0} (faults : Faults C F) (ending : Ending) (fault : Option F) (old new : Option (List ℕ)) where
  pub run_as : (t : Allowed X C F) (run : Run IsReadSo faults t ending fault old new) → OtherIsRead run.items run.answer → Run OtherIsRead faults t ending fault old new
  run_as t run read = record {
    items = run.items;
    texts = run.texts;
    are_texts = run.are_texts;
    held = run.held;
    written = run.written;
    answer = run.answer;
    read = read;
    ends = run.ends;
  }

-- of an engine that may write the same
module _ {X C F : Type 0} {Untouched : Type 0} {IsReadSo : List (ℕ × X) → AnswerOf X F → Type 0} (faults : Faults C F) (ending : Ending) (fault : Option F) (old new : Option (List ℕ)) where
  pub runs_alike : (a b : Allowed X C F) → Alike a b → LeavesSo Untouched IsReadSo faults a ending fault old new → LeavesSo Untouched IsReadSo faults b ending fault old new
  runs_alike a b same (inl w) = inl (record { write_fault = w.write_fault; by_none = w.by_none; untouched = w.untouched; written = subst (λ l. AppendsPrefix old new l) same.first w.written })
  runs_alike a b same (inr run) = inr (record {
    items = run.items;
    texts = run.texts;
    are_texts = record { one_each = run.are_texts.one_each; each = λ i e w h g. same.there _ e _ (run.are_texts.each i e w h g) };
    held = run.held;
    written = subst (λ (l : List ℕ). Appends old run.held (l ++ joined_texts run.texts)) same.first run.written;
    answer = run.answer;
    read = run.read;
    ends = elim run.ends [
      | inr e ↦ inr (closes_alike a b same run.items run.texts run.answer ending fault run.held new e)
      | inl e ↦ inl (record { halt = e.halt; stops = stops_alike faults.refused a b same run.items run.answer e.halt run.held new e.stops; has_ending = e.has_ending; by = e.by })
    ];
  })

-- ---- a run that ends since its source failed

whole_ending : (found : Bool) → (if found then Findings else Done) ≡ ReadFault → ⊥
whole_ending true e = cc
whole_ending false e = cc

fault_ending : (failed : Bool) → (if failed then ReadFault else InputFault) ≡ ReadFault → failed ≡ true
fault_ending true e = refl
fault_ending false e = cc

module _ {X C F : Type 0} (IsReadSo : List (ℕ × X) → AnswerOf X F → Type 0) (faults : Faults C F) (t : Allowed X C F) (never : (before : List (ℕ × X)) (e : ℕ × X) (why : C) → t.of_item before e (Err why) → faults.failed (faults.refused e.0 why) ≡ false) where
  by_step : (items : List (ℕ × X)) (e : ℕ × X) (written : Result (List ℕ × Bool) C) → t.of_item items e written → (f : F) → Some f ≡ step_fault faults.refused e.0 written → faults.failed f ≡ true → ⊥
  by_step items e (Ok w) is f h by = cc
  by_step items e (Err why) is f h by = let same : f ≡ faults.refused e.0 why = cc in let no = never items e why is in cc

  by_answer : (items : List (ℕ × X)) (answer : AnswerOf X F) (text : List ℕ) (f : F) → IsDue faults.refused t items answer text (Some f) → faults.failed f ≡ true → answer ≡ Err (Some f)
  by_answer items (Ok (Some e)) text f due by = absurd (by_step items e due.written due.is_allowed f due.has_fault by)
  by_answer items (Ok None) text f due by = let h = due.1 in cc
  by_answer items (Err (Some g)) text f due by = let h = due.1 in let same : g ≡ f = cc in ap (λ (x : F). Err (Some x)) same
  by_answer items (Err None) text f due by = absurd due

  -- an answer tells that the source failed
  abbrev pub FailedRead : Type 0
  FailedRead = (items : List (ℕ × X)) × (f : F) × IsReadSo items (Err (Some f)) × (faults.failed f ≡ true)

  by_halt : (items : List (ℕ × X)) (answer : AnswerOf X F) → IsReadSo items answer → (h : Halt F) (old new : Option (List ℕ)) → Stops (WantsFor faults.refused t items answer) (IsDue faults.refused t items answer) h old new →
      ending_by_halt faults.failed h ≡ ReadFault → FailedRead
  by_halt items answer read (halt.Fault why) old new s e =
      let failed = fault_ending (faults.failed why) e in
      (items, why, subst (λ o. IsReadSo items o) (by_answer items answer s.0 why s.1 failed) read, failed)
  by_halt items answer read halt.WriteFault old new s e = cc
  by_halt items answer read halt.Memory old new s e = cc

  -- its last answer told that fault, where no item is refused by such a one
  pub failed_read : {Untouched : Type 0} (ending : Ending) (fault : Option F) (old new : Option (List ℕ)) → LeavesSo Untouched IsReadSo faults t ending fault old new → ending ≡ ReadFault → FailedRead
  failed_read ending fault old new (inl w) is = let e = w.write_fault in cc
  failed_read ending fault old new (inr run) is = elim run.ends [
    | inr (inl e) ↦ absurd (whole_ending (has_finding run.texts || has_finding e.lines) (sym e.has_ending ∙ is))
    | inr (inr e) ↦ elim e.stops [
      | inl w ↦ let other = w.0 in cc
      | inr w ↦ let other = w.0 in cc
    ]
    | inl e ↦ by_halt run.items run.answer run.read e.halt run.held new e.stops (sym e.has_ending ∙ is)
  ]

-- A run leaves of a whole text that is allowed for what its input says: all, or a front.
use Rattle.std.proofs.Common.{Option, Some, None, Ok, Err, Result, ◌≡◌, ◌⊎◌, ℕ, suc, drop, take, Bool, true, false, List, [], ◌∷◌, ◌++◌, inl, inr, ap, sym, ◌∙◌, refl, subst}
use Rattle.std.specs.Prelude.{◌||◌, if◌then◌else◌}
use Rattle.std.proofs.lemmas.List.{append_assoc, append-nil}
use Rattle.std.proofs.lemmas.Grind.{flat_map-append}
use Rattle.std.specs.Io.KnownBytes.{Appends}
use Rattle.list_core.specs.declared.device.InputEnd.{InputEnd}
use Rattle.list_core.specs.Device.{AppendsPrefix}
use Rattle.list_core.specs.Lines.{Stop, finished, unfinished, faulty}
use Rattle.list_core.specs.Items.{Numbered, put_items, stops}
use Rattle.list_core.specs.ReadItems.{AnswerOf}
use Rattle.list_core.proofs.Devices.{Appends-append, AppendsPrefix-append, AppendsPrefix-more}
use Rattle.engine_core.specs.declared.ending.Ending.{Ending}
use Rattle.engine_core.specs.declared.ending.Ending.TheVariants.{Done, Findings, InputFault, ReadFault}
use Rattle.engine_core.specs.declared.stopped.Halt.{Halt}
use Rattle.engine_core.specs.declared.stopped.Halt.TheVariants as halt
use Rattle.engine_core.specs.EngineText.{Allowed, AreAllowedTexts, ItemText, has_finding, joined_texts, step_text_to}
use Rattle.engine_core.specs.Input.{Faults, Input, TellsNext}
use Rattle.engine_core.specs.RunOver.{EndsThere, FailsBefore, HaltsAtEnd, IsDue, Run, Stops, WantsFor, ending_by_halt, fault_by_halt, step_fault}
use Rattle.engine_core.specs.WholeRun.{AllowsEach, GoesOn, InputsAreWrittenWhole, IsTextOnward, IsWholeText, IsWrittenWhole, LeavesAll, LeavesFront, LeavesToFault, LeavesWholeText, RefusesItem, SaysFirst, StopsWith}
use Rattle.engine_core.proofs.ReaderRuns.{run_as}
use Rattle.engine_core.proofs.Ends.{joined_at}
use Rattle.engine_core.proofs.ItemTexts.{are_next, are_texts, next_push}

module _ {X C F : Type 0} (refused : ℕ → C → F) (t : Allowed X C F) (said : Numbered X F) where
  -- the text up to these items
  abbrev pub up_to : List ItemText → List ℕ
  up_to texts = t.first ++ joined_texts texts

  -- behind these items the input stops
  pub whole_at : (items : List (ℕ × X)) (texts : List ItemText) → AreAllowedTexts t items texts → (onward : Numbered X F) → said ≡ put_items items onward → (stop : Stop F) → onward ≡ stops stop → (last : List ℕ × Bool) → StopsWith t items stop last →
      IsWholeText refused t said (t.first ++ (joined_texts texts ++ last.0)) (has_finding texts || last.1) stop
  whole_at items texts are onward says stop is last with_last = record { items = items; texts = texts; are_texts = are; onward = onward; says = says; stops_so = inl is; last = last; stops_with = with_last; is_text = refl; finds = refl }

  -- what may be last, by how it stops
  some_last : AllowsEach t → (items : List (ℕ × X)) (stop : Stop F) → (last : List ℕ × Bool) × StopsWith t items stop last
  some_last each items finished = let end = each.at_end items in ((joined_texts end.0, has_finding end.0), (end.0, end.1, refl))
  some_last each items unfinished = (([], false), refl)
  some_last each items (faulty f) = ((t.last f, false), refl)

  -- behind these items one is refused
  pub whole_refused : (items : List (ℕ × X)) (texts : List ItemText) → AreAllowedTexts t items texts → (onward : Numbered X F) → said ≡ put_items items onward → (why : F) → RefusesItem refused t items onward why →
      IsWholeText refused t said (t.first ++ (joined_texts texts ++ t.last why)) (has_finding texts || false) (faulty why)
  whole_refused items texts are onward says why is =
      record { items = items; texts = texts; are_texts = are; onward = onward; says = says; stops_so = inr (why, is, refl); last = (t.last why, false); stops_with = refl; is_text = refl; finds = refl }

  -- a text more
  text_more : (texts : List ItemText) (w : ItemText) → up_to (texts ++ w ∷ []) ≡ up_to texts ++ w.text
  text_more texts w =
      ap (λ (l : List ℕ). t.first ++ l) (flat_map-append (λ (x : ItemText). x.text) texts (w ∷ []) ∙ ap (λ (l : List ℕ). joined_texts texts ++ l) (append-nil w.text))
      ∙ sym (append_assoc t.first (joined_texts texts) w.text)

  -- and an item more of what the input says
  says_more : (items : List (ℕ × X)) (e : ℕ × X) (es : List (ℕ × X)) (stop : Stop F) → said ≡ put_items items (record { items = e ∷ es; stop = stop }) → said ≡ put_items (items ++ e ∷ []) (record { items = es; stop = stop })
  says_more items e es stop says = says ∙ ap (λ (l : List (ℕ × X)). record { items = l; stop = stop }) (sym (append_assoc items (e ∷ []) es))

  texts_more : (items : List (ℕ × X)) (texts : List ItemText) (e : ℕ × X) (w : ItemText) → AreAllowedTexts t items texts → t.of_item items e (Ok (w.text, w.is_finding)) → AreAllowedTexts t (items ++ e ∷ []) (texts ++ w ∷ [])
  texts_more items texts e w are s = are_texts t (items ++ e ∷ []) (texts ++ w ∷ []) (next_push t [] items texts e w (are_next t [] items texts are.one_each are.each) s)

  -- behind these items, where of each something may be written
  goes_behind : AllowsEach t → (es : List (ℕ × X)) (stop : Stop F) (items : List (ℕ × X)) (texts : List ItemText) → AreAllowedTexts t items texts → said ≡ put_items items (record { items = es; stop = stop }) → GoesOn refused t said (up_to texts)
  goes_behind each [] stop items texts are says =
      let end = some_last each items stop in
      record {
        text = t.first ++ (joined_texts texts ++ end.0.0);
        found = has_finding texts || end.0.1;
        stop = stop;
        is_whole = whole_at items texts are (stops stop) says stop refl end.0 end.1;
        more = end.0.0;
        goes_on = sym (append_assoc t.first (joined_texts texts) end.0.0);
      }
  goes_behind each (e ∷ es) stop items texts are says =
      by (each.of_item items e).0 (each.of_item items e).1 (λ w s. goes_behind each es stop (items ++ e ∷ []) (texts ++ w ∷ []) (texts_more items texts e w are s) (says_more items e es stop says))
    where
      by : (written : Result (List ℕ × Bool) C) → t.of_item items e written → ((w : ItemText) → t.of_item items e (Ok (w.text, w.is_finding)) → GoesOn refused t said (up_to (texts ++ w ∷ []))) → GoesOn refused t said (up_to texts)
      by (Ok s) is onward =
          let w : ItemText = record { text = s.0; is_finding = s.1 } in
          let rest = onward w is in
          record {
            text = rest.text;
            found = rest.found;
            stop = rest.stop;
            is_whole = rest.is_whole;
            more = w.text ++ rest.more;
            goes_on = rest.goes_on ∙ ap (λ (l : List ℕ). l ++ rest.more) (text_more texts w) ∙ append_assoc (up_to texts) w.text rest.more;
          }
      by (Err why) is onward =
          let f : F = refused e.0 why in
          record {
            text = t.first ++ (joined_texts texts ++ t.last f);
            found = has_finding texts || false;
            stop = faulty f;
            is_whole = whole_refused items texts are (record { items = e ∷ es; stop = stop }) says f (record { item = e; others = record { items = es; stop = stop }; cause = why; is_next = refl; is_refused = is; is_fault = refl });
            more = t.last f;
            goes_on = sym (append_assoc t.first (joined_texts texts) (t.last f));
          }

  -- and with what may be written next
  goes_next : AllowsEach t → (es : List (ℕ × X)) (stop : Stop F) (items : List (ℕ × X)) (texts : List ItemText) → AreAllowedTexts t items texts → said ≡ put_items items (record { items = es; stop = stop }) → (next : List ℕ) → IsTextOnward refused t items es stop next →
      GoesOn refused t said (up_to texts ++ next)
  goes_next each [] stop items texts are says next is = record {
    text = t.first ++ (joined_texts texts ++ next);
    found = has_finding texts || is.0;
    stop = stop;
    is_whole = whole_at items texts are (stops stop) says stop refl (next, is.0) is.1;
    more = [];
    goes_on = sym (append_assoc t.first (joined_texts texts) next) ∙ sym (append-nil (up_to texts ++ next));
  }
  goes_next each (e ∷ es) stop items texts are says next is = by is.0 is.1 is.2
    where
      by : (written : Result (List ℕ × Bool) C) → t.of_item items e written → next ≡ step_text_to refused t e.0 written → GoesOn refused t said (up_to texts ++ next)
      by (Ok s) may same =
          let w : ItemText = record { text = s.0; is_finding = s.1 } in
          let rest = goes_behind each es stop (items ++ e ∷ []) (texts ++ w ∷ []) (texts_more items texts e w are may) (says_more items e es stop says) in
          record {
            text = rest.text;
            found = rest.found;
            stop = rest.stop;
            is_whole = rest.is_whole;
            more = rest.more;
            goes_on = rest.goes_on ∙ ap (λ (l : List ℕ). l ++ rest.more) (text_more texts w ∙ ap (λ (l : List ℕ). up_to texts ++ l) (sym same));
          }
      by (Err why) may same =
          let f : F = refused e.0 why in
          record {
            text = t.first ++ (joined_texts texts ++ t.last f);
            found = has_finding texts || false;
            stop = faulty f;
            is_whole = whole_refused items texts are (record { items = e ∷ es; stop = stop }) says f (record { item = e; others = record { items = es; stop = stop }; cause = why; is_next = refl; is_refused = may; is_fault = refl });
            more = [];
            goes_on = sym (append_assoc t.first (joined_texts texts) (t.last f)) ∙ ap (λ (l : List ℕ). up_to texts ++ l) (sym same) ∙ sym (append-nil (up_to texts ++ next));
          }

-- nothing is a prefix of any text
front_none : (a : Option (List ℕ)) (text : List ℕ) → AppendsPrefix a a text
front_none None text = tt
front_none (Some os) text = ([], text, refl, sym (append-nil os))

module _ {X C F : Type 0} (refused : ℕ → C → F) (t : Allowed X C F) (items : List (ℕ × X)) where
  -- an item that is refused
  step_refused : (n : ℕ) (s : Result (List ℕ × Bool) C) (f : F) → Some f ≡ step_fault refused n s → (why : C) × (s ≡ Err why) × (f ≡ refused n why)
  step_refused n (Ok s) f h = cc
  step_refused n (Err why) f h = (why, refl, cc)

  -- a text that ends by a fault is the last one: the input stops by it, or the next item is refused
  closes : (answer : AnswerOf X F) (onward : Numbered X F) → TellsNext answer onward → (f : F) (text : List ℕ) → IsDue refused t items answer text (Some f) → ((onward ≡ stops (faulty f)) ⊎ RefusesItem refused t items onward f) × (text ≡ t.last f)
  closes (Ok (Some e)) onward h f text due =
      let s = step_refused e.0 due.written f due.has_fault in (
        inr (record { item = e; others = h.0; cause = s.0; is_next = h.1; is_refused = subst (λ r. t.of_item items e r) s.1 due.is_allowed; is_fault = s.2 }),
        due.has_text ∙ ap (step_text_to refused t e.0) s.1 ∙ ap t.last (sym s.2),
      )
  closes (Ok None) onward h f text due = let none = due.1 in cc
  closes (Err (Some g)) onward h f text due =
      let is = due.1 in
      let same : g ≡ f = cc in
      (inl (rw same at h), due.0 ∙ ap t.last same)
  closes (Err None) onward h f text due = absurd due

  -- what is due for an answer may be written next, or is nothing
  due_onward : (answer : AnswerOf X F) (onward : Numbered X F) → TellsNext answer onward → (text : List ℕ) (closing : Option F) → IsDue refused t items answer text closing → (text ≡ []) ⊎ IsTextOnward refused t items onward.items onward.stop text
  due_onward (Ok (Some e)) onward h text closing due = inr (subst (λ (l : Numbered X F). IsTextOnward refused t items l.items l.stop text) (sym h.1) (due.written, due.is_allowed, due.has_text))
  due_onward (Ok None) onward h text closing due = inl due.0
  due_onward (Err (Some f)) onward h text closing due = inr (subst (λ (l : Numbered X F). IsTextOnward refused t items l.items l.stop text) (sym h) (false, ap (λ (l : List ℕ). (l, false)) due.0))
  due_onward (Err None) onward h text closing due = absurd due

module _ {X C F : Type 0} (faults : Faults C F) (t : Allowed X C F) (said : Numbered X F) (ending : Ending) (fault : Option F) (old new : Option (List ℕ)) (run : Run (SaysFirst said) faults t ending fault old new) where
  abbrev onward : Numbered X F
  onward = run.read.0

  -- the whole text stands written, with this last part
  all_written : (last : List ℕ) → Appends run.held new last → Appends old new (t.first ++ (joined_texts run.texts ++ last))
  all_written last w = subst (λ (l : List ℕ). Appends old new l) (append_assoc t.first (joined_texts run.texts) last) (Appends-append old run.held new _ last run.written w)

  by_end : (e : EndsThere t run.items run.texts run.answer ending fault run.held new) (found : Bool) → (has_finding run.texts || has_finding e.lines) ≡ found → LeavesAll faults t said found fault old new
  by_end e found finds = record {
    text = t.first ++ (joined_texts run.texts ++ joined_texts e.lines);
    is_whole = subst (λ (f : Bool). IsWholeText faults.refused t said (t.first ++ (joined_texts run.texts ++ joined_texts e.lines)) f finished) finds
        (whole_at faults.refused t said run.items run.texts run.are_texts onward run.read.1 finished (subst (λ o. TellsNext o onward) e.ended run.read.2) (joined_texts e.lines, has_finding e.lines) (e.lines, e.may_end, refl));
    by_none = e.by_none;
    written = all_written (joined_texts e.lines) e.written;
  }

  by_found : (e : EndsThere t run.items run.texts run.answer ending fault run.held new) (found : Bool) → (has_finding run.texts || has_finding e.lines) ≡ found → LeavesWholeText faults t (if found then Findings else Done) said fault old new
  by_found e true finds = by_end e true finds
  by_found e false finds = by_end e false finds

  -- a fault was told
  by_fault : (why : F) (text : List ℕ) → IsDue faults.refused t run.items run.answer text (Some why) → Appends run.held new text → fault ≡ Some why → LeavesToFault faults t said (ending_by_halt faults.failed (halt.Fault why)) fault old new
  by_fault why text due told by =
      let c = closes faults.refused t run.items run.answer onward run.read.2 why text due in
      record {
        why = why;
        text = t.first ++ (joined_texts run.texts ++ t.last why);
        found = has_finding run.texts || false;
        is_whole = elim c.0 [
          | inl h ↦ whole_at faults.refused t said run.items run.texts run.are_texts onward run.read.1 (faulty why) h (t.last why, false) refl
          | inr x ↦ whole_refused faults.refused t said run.items run.texts run.are_texts onward run.read.1 why x
        ];
        by = by;
        has_ending = refl;
        written = all_written (t.last why) (subst (λ l. Appends run.held new l) c.1 told);
      }

  by_failed : (why : F) → LeavesToFault faults t said (ending_by_halt faults.failed (halt.Fault why)) fault old new → LeavesWholeText faults t (ending_by_halt faults.failed (halt.Fault why)) said fault old new
  by_failed why w = by_which (faults.failed why) w
    where
      by_which : (failed : Bool) → LeavesToFault faults t said (if failed then ReadFault else InputFault) fault old new → LeavesWholeText faults t (if failed then ReadFault else InputFault) said fault old new
      by_which true l = l
      by_which false l = l

  -- a front stands written, or a prefix of one
  by_writer : fault ≡ None → (text : List ℕ) → (text ≡ []) ⊎ IsTextOnward faults.refused t run.items onward.items onward.stop text → AppendsPrefix run.held new text → LeavesFront faults t said fault old new
  by_writer by text next w = record {
    by_none = by;
    front = up_to faults.refused t said run.texts ++ text;
    is_front = record { items = run.items; texts = run.texts; are_texts = run.are_texts; onward = onward; says = run.read.1; next = text; is_next = next; is_text = refl };
    written = AppendsPrefix-append old run.held new _ text run.written w;
    of_whole = λ each. elim next [
      | inl none ↦ subst (λ (l : List ℕ). GoesOn faults.refused t said (up_to faults.refused t said run.texts ++ l)) (sym none)
          (subst (λ l. GoesOn faults.refused t said l) (sym (append-nil (up_to faults.refused t said run.texts)))
          (goes_behind faults.refused t said each onward.items onward.stop run.items run.texts run.are_texts run.read.1))
      | inr is ↦ goes_next faults.refused t said each onward.items onward.stop run.items run.texts run.are_texts run.read.1 text is
    ];
  }

  by_memory : fault ≡ None → new ≡ run.held → LeavesFront faults t said fault old new
  by_memory by same = by_writer by [] (inl refl) (rw same (front_none run.held []))

  -- the run stopped at a line at the end
  by_line : (e : HaltsAtEnd t run.items run.answer ending fault run.held new) → AppendsPrefix e.mid new e.line.text → LeavesFront faults t said fault old new
  by_line e w =
      let over : onward ≡ stops finished = subst (λ o. TellsNext o onward) e.ended run.read.2 in
      let rest : List ℕ = joined_texts (drop (suc e.before) e.lines) in
      by_writer e.by_none (joined_texts e.lines)
      (inr (subst (λ (l : Numbered X F). IsTextOnward faults.refused t run.items l.items l.stop (joined_texts e.lines)) (sym over) (has_finding e.lines, (e.lines, e.may_end, refl))))
      (subst (λ (l : List ℕ). AppendsPrefix run.held new l) (append_assoc (joined_texts (take e.before e.lines)) e.line.text rest ∙ sym (joined_at e.lines e.before e.line e.is_line))
      (AppendsPrefix-more run.held new (joined_texts (take e.before e.lines) ++ e.line.text) rest (AppendsPrefix-append run.held e.mid new (joined_texts (take e.before e.lines)) e.line.text e.written w)))

  by_end_line : HaltsAtEnd t run.items run.answer ending fault run.held new → LeavesWholeText faults t ending said fault old new
  by_end_line e = elim e.stops [
    | inl w ↦ subst (λ (o : Ending). LeavesWholeText faults t o said fault old new) (sym w.0) (by_line e w.1)
    | inr w ↦ subst (λ (o : Ending). LeavesWholeText faults t o said fault old new) (sym w.0) (by_line e (rw w.2 (front_none e.mid e.line.text)))
  ]

  by_halt : (h : Halt F) → Stops (WantsFor faults.refused t run.items run.answer) (IsDue faults.refused t run.items run.answer) h run.held new → fault ≡ fault_by_halt h → LeavesWholeText faults t (ending_by_halt faults.failed h) said fault old new
  by_halt (halt.Fault why) s by = by_failed why (by_fault why s.0 s.1 s.2 by)
  by_halt halt.WriteFault s by = by_writer by s.0 (due_onward faults.refused t run.items run.answer onward run.read.2 s.0 s.1 s.2) s.3
  by_halt halt.Memory s by = by_memory by s.1

  run_whole : LeavesWholeText faults t ending said fault old new
  run_whole = elim run.ends [
    | inr (inl e) ↦ subst (λ (o : Ending). LeavesWholeText faults t o said fault old new) (sym e.has_ending) (by_found e (has_finding run.texts || has_finding e.lines) refl)
    | inr (inr e) ↦ by_end_line e
    | inl e ↦ subst (λ (o : Ending). LeavesWholeText faults t o said fault old new) (sym e.has_ending) (by_halt e.halt e.stops e.by)
  ]

-- nothing of an input was written
begins_none : {X C F : Type 0} (faults : Faults C F) (t : Allowed X C F) (said : Numbered X F) (ending : Ending) (fault : Option F) (old new : Option (List ℕ)) →
    FailsBefore (Unit {0}) t ending fault old new → LeavesWholeText faults t ending said fault old new
begins_none faults t said ending fault old new w =
    subst (λ (o : Ending). LeavesWholeText faults t o said fault old new) (sym w.write_fault) (record {
      by_none = w.by_none;
      front = (t.first ++ []) ++ [];
      is_front = record { items = []; texts = []; are_texts = are_texts t [] [] tt; onward = said; says = refl; next = []; is_next = inl refl; is_text = refl };
      written = AppendsPrefix-more old new (t.first ++ []) [] (AppendsPrefix-more old new t.first [] w.written);
      of_whole = λ each. subst (λ l. GoesOn faults.refused t said l) (sym (append-nil (t.first ++ []))) (goes_behind faults.refused t said each said.items said.stop [] [] (are_texts t [] [] tt) refl);
    })

pub inputs_are : {X C F : Type 0} (t : Allowed X C F) → InputsAreWrittenWhole t
inputs_are t faults said ending fault old new (inl w) = begins_none faults t said ending fault old new w
inputs_are t faults said ending fault old new (inr run) = run_whole faults t said ending fault old new run

pub input_is : {X C F : Type 0} (input : Input X C F) (t : Allowed X C F) → IsWrittenWhole input t
input_is input t ending fault z read old new (inl w) =
    inputs_are t input.faults (input.says z read) ending fault old new (inl (record { write_fault = w.write_fault; by_none = w.by_none; untouched = tt; written = w.written }))
input_is input t ending fault z read old new (inr run) =
    inputs_are t input.faults (input.says z read) ending fault old new (inr (run_as input.faults ending fault old new t run (run.read.onward, run.read.says, run.read.tells)))

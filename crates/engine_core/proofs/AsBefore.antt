-- A run over a list leaves what it was said to leave in words of the line at which it ended. This holds of the commands over lists as before, and no clause cites it.
use Rattle.std.proofs.Common.{Option, Some, None, Ok, Err, Result, ◌≡◌, ◌⊎◌, ℕ, ◌+◌, Bool, true, false, List, [], ◌∷◌, ◌++◌, inl, inr, ap, sym, ◌∙◌, refl, subst}
use Rattle.std.specs.Prelude.{◌||◌, if◌then◌else◌}
use Rattle.std.specs.Io.KnownBytes.{Appends}
use Rattle.list_core.specs.declared.device.InputEnd.{InputEnd}
use Rattle.list_core.specs.declared.device.InputEnd.TheVariants.{Open}
use Rattle.list_core.specs.declared.line_rules.ItemFault.{ItemFault}
use Rattle.list_core.specs.declared.line_rules.ItemFault.TheVariants as fault
use Rattle.list_core.specs.Device.{AppendsPrefix}
use Rattle.list_core.specs.Items.{Rules, Listing, listing, put_item, put_items, stops}
use Rattle.list_core.specs.ItemReader.{line_of}
use Rattle.list_core.specs.Lines.{Stop, finished, faulty}
use Rattle.list_core.specs.ReadItems.{AnswerOf, is_failed_read}
use Rattle.engine_core.specs.declared.ending.Ending.{Ending}
use Rattle.engine_core.specs.declared.ending.Ending.TheVariants.{Done, Findings, InputFault, ReadFault, WriteFault, Memory}
use Rattle.engine_core.specs.declared.stopped.Halt.{Halt}
use Rattle.engine_core.specs.declared.stopped.Halt.TheVariants as halt
use Rattle.engine_core.specs.Ending.{ending_by_fault}
use Rattle.engine_core.specs.EngineText.{Text, ItemText, AreItemTexts, exactly, has_finding, joined_texts, last_text, step_text}
use Rattle.engine_core.specs.Input.{TellsNext}
use Rattle.engine_core.specs.Run.{AtLine, HasToKeep, IsOfLine, list_input}
use Rattle.engine_core.specs.RunOver.{IsDue, IsUntouched, Leaves, Stops, WantsFor, ending_by_halt, fault_by_halt, step_fault}
use Rattle.engine_core.proofs.Ends.{some_line}
use Rattle.engine_core.proofs.ItemTexts.{or_false}

-- ---- as it was said

abbrev said_onward : {S X C : Type 0} {r : Rules S X C} {s : S} {read : List ℕ} {items : List (ℕ × X)} → (z : InputEnd) → AtLine r s z read items → Listing X C
said_onward {r = r} z line = listing r line.settled z line.lines_before line.onward

abbrev next_text : {X C : Type 0} → Text X C → List (ℕ × X) → List (ℕ × X) → Stop (ItemFault C) → List ℕ
next_text t before [] stop = last_text t stop
next_text t before (e ∷ es) stop = step_text t e.0 (t.of_item before e)

record EndsWell {X C : Type 0} (found : Bool) (texts : List ItemText) (onward : Listing X C) (held new : Option (List ℕ)) : Type 0 where
  list_ends : onward ≡ stops finished
  finds : has_finding texts ≡ found
  no_more : new ≡ held

record RefusesNext {X C : Type 0} (t : Text X C) (items : List (ℕ × X)) (onward : Listing X C) (f : ItemFault C) : Type 0 where
  item : ℕ × X
  others : Listing X C
  cause : C
  is_next : onward ≡ put_item item others
  refused : t.of_item items item ≡ Err cause
  in_line : f ≡ fault.Line item.0 cause

record EndsByFault {X C : Type 0} (t : Text X C) (ending : Ending) (items : List (ℕ × X)) (lines_before : ℕ) (onward : Listing X C) (held new : Option (List ℕ)) (by : Option (ItemFault C)) : Type 0 where
  why : ItemFault C
  is_next : (onward ≡ stops (faulty why)) ⊎ RefusesNext t items onward why
  in_line : line_of why ≡ lines_before + 1
  has_ending : ending_by_fault is_failed_read why ≡ ending
  told : Appends held new (t.last why)
  is_by : by ≡ Some why

record WantsMemory {S X C : Type 0} {r : Rules S X C} {s : S} {read : List ℕ} {items : List (ℕ × X)} (t : Text X C) (z : InputEnd) (line : AtLine r s z read items) (held new : Option (List ℕ)) : Type 0 where
  wanted : HasToKeep z line ⊎ (next_text t items (said_onward z line).items (said_onward z line).stop ≡ [] → ⊥)
  no_more : new ≡ held

-- why a run ended at a line, what it wrote then, and the fault that it handed out
abbrev EndsAt : {S X C : Type 0} {r : Rules S X C} {s : S} {read : List ℕ} {items : List (ℕ × X)} → Text X C → Ending → (z : InputEnd) → List ItemText → AtLine r s z read items → Option (List ℕ) → Option (List ℕ) → Option (ItemFault C) → Type 0
EndsAt t Done z texts line held new by = EndsWell false texts (said_onward z line) held new × (by ≡ None)
EndsAt t Findings z texts line held new by = EndsWell true texts (said_onward z line) held new × (by ≡ None)
EndsAt {items = items} t InputFault z texts line held new by = EndsByFault t InputFault items line.lines_before (said_onward z line) held new by
EndsAt {items = items} t ReadFault z texts line held new by = EndsByFault t ReadFault items line.lines_before (said_onward z line) held new by
EndsAt {items = items} t WriteFault z texts line held new by = AppendsPrefix held new (next_text t items (said_onward z line).items (said_onward z line).stop) × (by ≡ None)
EndsAt t Memory z texts line held new by = WantsMemory t z line held new × (by ≡ None)

record RunBefore {S X C : Type 0} (r : Rules S X C) (s : S) (t : Text X C) (ending : Ending) (z : InputEnd) (read : List ℕ) (old new : Option (List ℕ)) (by : Option (ItemFault C)) : Type 0 where
  items : List (ℕ × X)
  texts : List ItemText
  are_texts : AreItemTexts t items texts
  held : Option (List ℕ)
  written : Appends old held (t.first ++ joined_texts texts)
  line : AtLine r s z read items
  ends : EndsAt t ending z texts line held new by

record FailsAtFirst {X C : Type 0} (t : Text X C) (ending : Ending) (z : InputEnd) (read : List ℕ) (old new : Option (List ℕ)) (by : Option (ItemFault C)) : Type 0 where
  write_fault : ending ≡ WriteFault
  untouched : IsUntouched Open z read
  written : AppendsPrefix old new t.first
  by_none : by ≡ None

abbrev WritesBefore : {S X C : Type 0} → Rules S X C → S → Text X C → Ending → InputEnd → List ℕ → Option (List ℕ) → Option (List ℕ) → Option (ItemFault C) → Type 0
WritesBefore r s t ending z read old new by = FailsAtFirst t ending z read old new by ⊎ RunBefore r s t ending z read old new by

-- ---- so it is

same_behind : {X : Type 0} (front xs ys : List X) → front ++ xs ≡ front ++ ys → xs ≡ ys
same_behind [] xs ys e = e
same_behind (x ∷ front) xs ys e = let same : front ++ xs ≡ front ++ ys = cc in same_behind front xs ys same

same_listing : {X C : Type 0} (items : List (ℕ × X)) (a b : Listing X C) → put_items items a ≡ put_items items b → a ≡ b
same_listing {X} {C} items a b e =
    let rest = same_behind items a.items b.items (ap (λ (l : Listing X C). l.items) e) in
    let stop : a.stop ≡ b.stop = ap (λ (l : Listing X C). l.stop) e in
    let first : ◌≡◌ {A = Listing X C} a (record { items = b.items; stop = a.stop }) = ap (λ (l : List (ℕ × X)). record { items = l; stop = a.stop }) rest in
    let second : ◌≡◌ {A = Listing X C} (record { items = b.items; stop = a.stop }) b = ap (λ (l : Stop (ItemFault C)). record { items = b.items; stop = l }) stop in
    first ∙ second

module _ {S X C : Type 0} {r : Rules S X C} {s : S} {z : InputEnd} {read : List ℕ} {items : List (ℕ × X)} (t : Text X C) (texts : List ItemText) (line : AtLine r s z read items) (held new : Option (List ℕ)) where
  abbrev onward : Listing X C
  onward = said_onward z line

  -- what is due for an answer is what was to be written next
  due_next : (answer : AnswerOf X (ItemFault C)) → TellsNext answer onward → (text : List ℕ) (closing : Option (ItemFault C)) → IsDue fault.Line (exactly t) items answer text closing → text ≡ next_text t items onward.items onward.stop
  due_next (Ok (Some e)) h text closing due = due.has_text ∙ ap (step_text t e.0) (sym due.is_allowed) ∙ sym (ap (λ (l : Listing X C). next_text t items l.items l.stop) h.1)
  due_next (Ok None) h text closing due = due.0 ∙ sym (ap (λ (l : Listing X C). next_text t items l.items l.stop) h)
  due_next (Err (Some f)) h text closing due = due.0 ∙ sym (ap (λ (l : Listing X C). next_text t items l.items l.stop) h)
  due_next (Err None) h text closing due = absurd due

  wants_next : (answer : AnswerOf X (ItemFault C)) → TellsNext answer onward → IsOfLine z line answer → WantsFor fault.Line (exactly t) items answer → HasToKeep z line ⊎ (next_text t items onward.items onward.stop ≡ [] → ⊥)
  wants_next (Ok (Some e)) h of (inl none) = cc
  wants_next (Ok None) h of (inl none) = cc
  wants_next (Err (Some f)) h of (inl none) = cc
  wants_next (Err None) h of w = inl of
  wants_next (Ok (Some e)) h of (inr (inl k)) = absurd k
  wants_next (Ok None) h of (inr (inl k)) = absurd k
  wants_next (Err (Some f)) h of (inr (inl k)) = absurd k
  wants_next (Ok (Some e)) h of (inr (inr some)) = inr (λ none.
      some _ (step_fault fault.Line e.0 (t.of_item items e)) (record { written = t.of_item items e; is_allowed = refl; has_text = refl; has_fault = refl }) (sym (ap (λ (l : Listing X C). next_text t items l.items l.stop) h.1) ∙ none))
  wants_next (Ok None) h of (inr (inr some)) = inr (λ none. some [] None (refl, refl) refl)
  wants_next (Err (Some f)) h of (inr (inr some)) = inr (λ none. some (t.last f) (Some f) (refl, refl) (sym (ap (λ (l : Listing X C). next_text t items l.items l.stop) h) ∙ none))

  step_refused : (n : ℕ) (o : Result (List ℕ × Bool) C) (f : ItemFault C) → Some f ≡ step_fault fault.Line n o → (why : C) × (o ≡ Err why) × (f ≡ fault.Line n why)
  step_refused n (Ok o) f h = cc
  step_refused n (Err why) f h = (why, refl, cc)

  ends_by : (answer : AnswerOf X (ItemFault C)) → TellsNext answer onward → IsOfLine z line answer → (f : ItemFault C) (text : List ℕ) → IsDue fault.Line (exactly t) items answer text (Some f) → Appends held new text →
      EndsByFault t (ending_by_fault is_failed_read f) items line.lines_before onward held new (Some f)
  ends_by (Ok (Some e)) h of f text due w =
      let o = step_refused e.0 due.written f due.has_fault in
      record {
        why = f;
        is_next = inr (record { item = e; others = h.0; cause = o.0; is_next = h.1; refused = due.is_allowed ∙ o.1; in_line = o.2 });
        in_line = rw o.2 of;
        has_ending = refl;
        told = subst (λ l. Appends held new l) (due.has_text ∙ ap (step_text t e.0) o.1 ∙ ap t.last (sym o.2)) w;
        is_by = refl;
      }
  ends_by (Ok None) h of f text due w = let none = due.1 in cc
  ends_by (Err (Some g)) h of f text due w =
      let by = due.1 in
      let same : g ≡ f = cc in
      record { why = f; is_next = inl (rw same at h); in_line = rw same at of; has_ending = refl; told = subst (λ l. Appends held new l) (due.0 ∙ ap t.last same) w; is_by = refl }
  ends_by (Err None) h of f text due w = absurd due

  by_which : (failed : Bool) (f : ItemFault C) → EndsByFault t (if failed then ReadFault else InputFault) items line.lines_before onward held new (Some f) → EndsAt t (if failed then ReadFault else InputFault) z texts line held new (Some f)
  by_which true f w = w
  by_which false f w = w

  halted : (answer : AnswerOf X (ItemFault C)) → TellsNext answer onward → IsOfLine z line answer → (h : Halt (ItemFault C)) → Stops (WantsFor fault.Line (exactly t) items answer) (IsDue fault.Line (exactly t) items answer) h held new → EndsAt t (ending_by_halt is_failed_read h) z texts line held new (fault_by_halt h)
  halted answer tells of (halt.Fault why) x = by_which (is_failed_read why) why (ends_by answer tells of why x.0 x.1 x.2)
  halted answer tells of halt.WriteFault x = (subst (λ l. AppendsPrefix held new l) (due_next answer tells x.0 x.1 x.2) x.3, refl)
  halted answer tells of halt.Memory x = (record { wanted = wants_next answer tells of x.0; no_more = x.1 }, refl)

  ended : (found : Bool) → has_finding texts ≡ found → TellsNext {X = X} {F = ItemFault C} (Ok None) onward → new ≡ held → EndsAt t (if found then Findings else Done) z texts line held new None
  ended true finds tells same = (record { list_ends = tells; finds = finds; no_more = same }, refl)
  ended false finds tells same = (record { list_ends = tells; finds = finds; no_more = same }, refl)

as_before : {S X C : Type 0} (r : Rules S X C) (s : S) (t : Text X C) (ending : Ending) (by : Option (ItemFault C)) (z : InputEnd) (read : List ℕ) (old new : Option (List ℕ)) → Leaves (list_input r s) (exactly t) ending by z read old new → WritesBefore r s t ending z read old new by
as_before r s t ending by z read old new (inl w) = inl (record { write_fault = w.write_fault; untouched = w.untouched; written = w.written; by_none = w.by_none })
as_before r s t ending by z read old new (inr run) =
    let line = run.read.stands.line in
    let tells = subst (λ l. TellsNext run.answer l) (same_listing run.items run.read.onward (said_onward z line) (sym run.read.says ∙ line.says)) run.read.tells in
    inr (record {
      items = run.items;
      texts = run.texts;
      are_texts = run.are_texts;
      held = run.held;
      written = run.written;
      line = line;
      ends = elim run.ends [
        | inr (inl e) ↦
            let found : (has_finding run.texts || has_finding e.lines) ≡ has_finding run.texts = ap (λ (l : List ItemText). has_finding run.texts || has_finding l) e.may_end ∙ or_false (has_finding run.texts) in
            rw (e.has_ending, found, e.by_none) (ended t run.texts line run.held new (has_finding run.texts) refl (subst (λ o. TellsNext o (said_onward z line)) e.ended tells) (e.no_more e.may_end))
        | inr (inr e) ↦ some_line e.lines e.before e.line e.may_end e.is_line
        | inl e ↦ rw (e.has_ending, e.by) (halted t run.texts line run.held new run.answer tells run.read.stands.is_of e.halt e.stops)
      ];
    })

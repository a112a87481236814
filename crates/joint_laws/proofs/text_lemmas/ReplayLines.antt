-- A replay of a list writes the lines of the entries of its events.
use Rattle.std.proofs.Common.{◌≡◌, ℕ, suc, ◌+◌, false, Some, List, [], ◌∷◌, ◌++◌, length, slice_get, Ok, ap, ap₂, subst, sym, ◌∙◌, refl, arith, append_assoc, Bool, true, Option, inl, inr}
use Rattle.std.proofs.lemmas.List.{length-map, length_push, append-nil}
use Rattle.list_core.specs.declared.event.Event.{Event}
use Rattle.list_core.specs.declared.line_rules.ItemFault.{ItemFault}
use Rattle.list_core.specs.declared.list_fault.ListCause.{ListCause}
use Rattle.list_core.specs.Lines.{Stop, finished, faulty}
use Rattle.block_core.specs.declared.block.Block.{Block}
use Rattle.subscribe_core.specs.declared.entry.Entry.{Entry}
use Rattle.subscribe_core.specs.Entries.{AreEntriesAt, AreEntries, AreReadEntriesAt}
use Rattle.subscribe_core.specs.Apart.{AreApart}
use Rattle.engine_core.specs.EngineText.{Text, last_text, AreAllowedTexts, ItemText, has_finding, joined_texts}
use Rattle.engine_core.specs.computed.WholeText.{Account, put_step, told_after}
use Rattle.exchange_engines.specs.EntryText.{entry_lines}
use Rattle.exchange_engines.specs.ReplayText.{IsReplayText, events_of, AreSaid, Says}
use Rattle.exchange_engines.proofs.ReplayLemmas.{events_push}
use Rattle.joint_laws.specs.ListedBlocks.{ReplaysWriteEntries, lines_at}
use Rattle.joint_laws.proofs.text_lemmas.PublishedScripts.{step_is}
use Rattle.std.specs.Prelude.{◌||◌, map}
use Rattle.std.specs.Io.KnownBytes.{Appends}
use Rattle.list_core.specs.Device.{AppendsPrefix}
use Rattle.list_core.specs.Items.{Numbered, put_items}
use Rattle.list_core.proofs.Devices.{AppendsPrefix-more}
use Rattle.capture_core.specs.declared.capture_fault.CaptureFault.{CaptureFault}
use Rattle.capture_core.specs.Captured.{captured_events}
use Rattle.subscribe_core.specs.computed.Content.{reading_of}
use Rattle.subscribe_core.specs.computed.Steps.{run_events}
use Rattle.subscribe_core.specs.EventsRead.{EventRead}
use Rattle.subscribe_core.specs.State.{fresh_state}
use Rattle.subscribe_core.proofs.Acted.{acts_are_told}
use Rattle.subscribe_core.proofs.Readings.{reads_one}
use Rattle.subscribe_core.proofs.Runs.{entries_are_one, entries_exist, entries_stay}
use Rattle.engine_core.specs.declared.ending.Ending.{Ending}
use Rattle.engine_core.specs.declared.ending.Ending.TheVariants.{Done, Findings, InputFault, ReadFault}
use Rattle.engine_core.specs.CaptureRun.{capture_faults, capture_input}
use Rattle.engine_core.specs.MadeRun.{made, with_each}
use Rattle.engine_core.specs.WholeRun.{AllowsEach, IsWholeText, LeavesFront, LeavesToFault, LeavesWholeText, StopsWith}
use Rattle.engine_core.proofs.Ends.{no_end}
use Rattle.engine_core.proofs.ItemTexts.{AreNext, are_next}
use Rattle.engine_core.proofs.WholeRuns.{input_is}
use Rattle.joint_laws.specs.CaptureReplay.{ActExactly, CapturesAreReplayed, EndsByItsFault, LeavesLines, capture_lines, fault_lines, replay_lines}

abbrev account : {A : Type 0} → List (ℕ × Event A) → List (List (Entry A)) → Text (Event A) ListCause → Stop (ItemFault ListCause) → Account ListCause
account items entries t stop = record { text = lines_at items entries ++ last_text t stop; found = false; stop = stop }

-- the entries of the events behind one are those that the whole list has there
pub entries_behind : {A : Type 0} (blocks : List (Block A)) (before : List (ℕ × Event A)) (e : ℕ × Event A) (items : List (ℕ × Event A)) (x : List (Entry A)) (rest : List (List (Entry A))) →
    ((i : ℕ) (y : List (Entry A)) → slice_get (x ∷ rest) i ≡ Some y → AreEntriesAt blocks (events_of before ++ events_of (e ∷ items)) (length (events_of before) + i) y) →
    (i : ℕ) (y : List (Entry A)) → slice_get rest i ≡ Some y → AreEntriesAt blocks (events_of (before ++ e ∷ []) ++ events_of items) (length (events_of (before ++ e ∷ [])) + i) y
entries_behind {A} blocks before e items x rest each i y at =
    let next : List (ℕ × Event A) = before ++ e ∷ [] in
    let passed : events_of next ≡ events_of before ++ e.1 ∷ [] = events_push before e in
    let same : events_of before ++ e.1 ∷ events_of items ≡ events_of next ++ events_of items = sym (ap (λ (l : List (Event A)). l ++ events_of items) passed ∙ append_assoc (events_of before) (e.1 ∷ []) (events_of items)) in
    let more : length (events_of before) + suc i ≡ length (events_of next) + i =
    let longer : length (events_of next) ≡ length (events_of before ++ e.1 ∷ []) = ap length passed in omega (arith, longer, length_push (events_of before) e.1) in
    subst (λ (j : ℕ). AreEntriesAt blocks (events_of next ++ events_of items) j y) more
    (subst (λ (l : List (Event A)). AreEntriesAt blocks l (length (events_of before) + suc i) y) same (each (suc i) y at))

entries_written : {A : Type 0} (blocks : List (Block A)) (t : Text (Event A) ListCause) (stop : Stop (ItemFault ListCause)) → AreApart blocks → IsReplayText blocks t → (before items : List (ℕ × Event A)) (rest : List (List (Entry A))) → length rest ≡ length items → ((i : ℕ) (x : List (Entry A)) → slice_get rest i ≡ Some x → AreEntriesAt blocks (events_of before ++ events_of items) (length (events_of before) + i) x) → told_after t before items stop ≡ account items rest t stop
unfolding told_after
entries_written blocks t stop apart is before [] [] size each = refl
entries_written {A} blocks t stop apart is before (e ∷ items) (x ∷ rest) size each =
    let next : List (ℕ × Event A) = before ++ e ∷ [] in
    let here : AreEntriesAt blocks (events_of before ++ e.1 ∷ events_of items) (length (events_of before)) x =
    let none : length (events_of before) + 0 ≡ length (events_of before) = omega arith in subst (λ (i : ℕ). AreEntriesAt blocks (events_of before ++ e.1 ∷ events_of items) i x) none (each 0 x refl) in
    ap (λ s. put_step t e.0 s (told_after t next items stop)) (step_is blocks t apart is before e.0 e.1 (events_of items) x here)
    ∙ ap (put_step t e.0 (Ok (entry_lines e.0 x, false))) (entries_written blocks t stop apart is next items rest (omega arith) (entries_behind blocks before e items x rest each))
    ∙ ap (λ (text : List ℕ). record { text = text; found = false; stop = stop }) (sym (append_assoc (entry_lines e.0 x) (lines_at items rest) (last_text t stop)))
entries_written blocks t stop apart is before _ _ size each = absurd (omega arith)

pub replays_write_entries : {A : Type 0} → ReplaysWriteEntries A
replays_write_entries {A} blocks entries t l apart are is = record { writes = ap₂ (λ (a : List ℕ) (o : Account ListCause). a ++ o.text) is.first written; stops = ap (λ (o : Account ListCause). o.stop) written }
  where
    at : (i : ℕ) (x : List (Entry A)) → slice_get entries i ≡ Some x → AreEntriesAt blocks (events_of l.items) (0 + i) x
    at i x here = let none : i ≡ 0 + i = omega arith in subst (λ (j : ℕ). AreEntriesAt blocks (events_of l.items) j x) none (are.each i x here)

    written : told_after t [] l.items l.stop ≡ account l.items entries t l.stop
    written = entries_written blocks t l.stop apart is [] l.items entries (are.sizes ∙ length-map l.items (λ (e : ℕ × Event A). e.1)) at

-- ---- a replay of a capture writes the lines of the entries of its events

module _ {A : Type 0} (blocks : List (Block A)) (said : Says A) (apart : AreApart blocks) (are : AreSaid blocks said) where
  -- what is said of an event is the entries that the whole list has there
  said_is : (before : List (ℕ × Event A)) (e : ℕ × Event A) (es : List (Event A)) (x : List (Entry A)) → AreEntriesAt blocks (events_of before ++ e.1 ∷ es) (length (events_of before)) x → said before e ≡ x
  said_is before e es x at =
      let stay : AreEntriesAt blocks (events_of before ++ e.1 ∷ es) (length (events_of before)) (said before e) =
      subst (λ (l : List (Event A)). AreEntriesAt blocks l (length (events_of before)) (said before e)) (append_assoc (events_of before) (e.1 ∷ []) es)
      (entries_stay blocks (events_of before ++ e.1 ∷ []) es (length (events_of before)) (said before e) (are before e)) in
      entries_are_one blocks (events_of before ++ e.1 ∷ es) (length (events_of before)) (said before e) x apart stay at

  -- the texts of events are the lines of their entries, and none is a finding
  texts_are : (before items : List (ℕ × Event A)) (texts : List ItemText) → AreNext (replay_lines blocks said) before items texts → (rest : List (List (Entry A))) → length rest ≡ length items →
      ((i : ℕ) (x : List (Entry A)) → slice_get rest i ≡ Some x → AreEntriesAt blocks (events_of before ++ events_of items) (length (events_of before) + i) x) →
      (joined_texts texts ≡ lines_at items rest) × (has_finding texts ≡ false)
  texts_are before [] [] next rest size each = (refl, refl)
  texts_are before (e ∷ items) (w ∷ ws) next [] size each = absurd (omega arith)
  texts_are before (e ∷ items) (w ∷ ws) next (x ∷ rest) size each =
      let none : length (events_of before) + 0 ≡ length (events_of before) = omega arith in
      let here : AreEntriesAt blocks (events_of before ++ e.1 ∷ events_of items) (length (events_of before)) x =
      subst (λ (i : ℕ). AreEntriesAt blocks (events_of before ++ e.1 ∷ events_of items) i x) none (each 0 x refl) in
      let more = texts_are (before ++ e ∷ []) items ws next.1 rest (omega arith) (entries_behind blocks before e items x rest each) in
      let text : w.text ≡ entry_lines e.0 x = sym (ap (λ (p : List ℕ × Bool). p.0) next.0) ∙ ap (λ (es : List (Entry A)). entry_lines e.0 es) (said_is before e (events_of items) x here) in
      let finds : w.is_finding ≡ false = sym (ap (λ (p : List ℕ × Bool). p.1) next.0) in (ap₂ (λ (a b : List ℕ). a ++ b) text more.0, ap₂ (λ (a b : Bool). a || b) finds more.1)
  texts_are _ _ _ next _ _ _ = absurd next

  last_is : (items : List (ℕ × Event A)) (stop : Stop CaptureFault) (last : List ℕ × Bool) → StopsWith (replay_lines blocks said) items stop last → last ≡ (fault_lines stop, false)
  last_is items finished last (lines, none, is) = is ∙ ap (λ (l : List ItemText). (joined_texts l, has_finding l)) none
  last_is items _ last is = is

  -- a whole text of a capture is the lines of its entries and of its fault, and stops as the capture does
  record IsOfCapture (l : Numbered (Event A) CaptureFault) (entries : List (List (Entry A))) (text : List ℕ) (found : Bool) (stop : Stop CaptureFault) : Type 0 where
    writes : text ≡ capture_lines l entries
    none_found : found ≡ false
    stops : l.stop ≡ stop

  at_items : (items : List (ℕ × Event A)) (stop : Stop CaptureFault) (texts : List ItemText) → AreAllowedTexts (replay_lines blocks said) items texts → (entries : List (List (Entry A))) → AreEntries blocks (events_of items) entries →
      (text : List ℕ) (found : Bool) (last : List ℕ × Bool) → StopsWith (replay_lines blocks said) items stop last → text ≡ joined_texts texts ++ last.0 → (has_finding texts || last.1) ≡ found →
      IsOfCapture (record { items = items; stop = stop }) entries text found stop
  at_items items stop texts allowed entries have text found last with_last is finds =
      let is_last : last ≡ (fault_lines stop, false) = last_is items stop last with_last in
      let at : (i : ℕ) (x : List (Entry A)) → slice_get entries i ≡ Some x → AreEntriesAt blocks (events_of items) (0 + i) x =
      λ i x here. let none : i ≡ 0 + i = omega arith in subst (λ (j : ℕ). AreEntriesAt blocks (events_of items) j x) none (have.each i x here) in
      let lines = texts_are [] items texts (are_next (replay_lines blocks said) [] items texts allowed.one_each allowed.each) entries (have.sizes ∙ length-map items (λ (e : ℕ × Event A). e.1)) at in
      record { writes = is ∙ ap₂ (λ (a b : List ℕ). a ++ b) lines.0 (ap (λ (l : List ℕ × Bool). l.0) is_last); none_found = sym finds ∙ ap₂ (λ (a b : Bool). a || b) lines.1 (ap (λ (l : List ℕ × Bool). l.1) is_last); stops = refl }

  whole_is : (l : Numbered (Event A) CaptureFault) (entries : List (List (Entry A))) → AreEntries blocks (events_of l.items) entries → (text : List ℕ) (found : Bool) (stop : Stop CaptureFault) →
      IsWholeText capture_faults.refused (replay_lines blocks said) l text found stop → IsOfCapture l entries text found stop
  whole_is l entries have text found stop w = elim w.stops_so [
    | inl h ↦
        let same : record { items = w.items; stop = stop } ≡ l =
        sym (w.says ∙ ap (put_items w.items) h ∙ ap (λ (es : List (ℕ × Event A)). record { items = es; stop = stop }) (append-nil w.items)) in
        subst (λ (m : Numbered (Event A) CaptureFault). IsOfCapture m entries text found stop) same
        (at_items w.items stop w.texts w.are_texts entries (subst (λ (m : Numbered (Event A) CaptureFault). AreEntries blocks (events_of m.items) entries) (sym same) have) text found w.last w.stops_with w.is_text w.finds)
    | inr x ↦ absurd x.1.is_refused
  ]

  -- of each event something may be written
  allows_each : AllowsEach (replay_lines blocks said)
  allows_each = record { of_item = λ before e. (Ok (entry_lines e.0 (said before e), false), refl); at_end = no_end }

  by_fault : (l : Numbered (Event A) CaptureFault) (entries : List (List (Entry A))) → AreEntries blocks (events_of l.items) entries → (ending : Ending) (fault : Option CaptureFault) (old new : Option (List ℕ)) →
      LeavesToFault capture_faults (replay_lines blocks said) l ending fault old new → EndsByItsFault l entries ending fault old new
  by_fault l entries have ending fault old new w =
      let is = whole_is l entries have w.text w.found (faulty w.why) w.is_whole in
      record { why = w.why; ends = is.stops; by = w.by; has_ending = w.has_ending; written = subst (λ (t : List ℕ). Appends old new t) is.writes w.written }

  front : (l : Numbered (Event A) CaptureFault) (entries : List (List (Entry A))) → AreEntries blocks (events_of l.items) entries → (fault : Option CaptureFault) (old new : Option (List ℕ)) →
      LeavesFront capture_faults (replay_lines blocks said) l fault old new → AppendsPrefix old new (capture_lines l entries)
  front l entries have fault old new w =
      let g = w.of_whole allows_each in
      let is = whole_is l entries have g.text g.found g.stop g.is_whole in
      subst (λ (t : List ℕ). AppendsPrefix old new t) (sym g.goes_on ∙ is.writes) (AppendsPrefix-more old new w.front g.more w.written)

  lines_left : (l : Numbered (Event A) CaptureFault) (entries : List (List (Entry A))) → AreEntries blocks (events_of l.items) entries → (ending : Ending) (fault : Option CaptureFault) (old new : Option (List ℕ)) →
      LeavesWholeText capture_faults (replay_lines blocks said) ending l fault old new → LeavesLines l entries ending fault old new
  lines_left l entries have Done fault old new w =
      let is = whole_is l entries have w.text false finished w.is_whole in
      record { ends = is.stops; by_none = w.by_none; written = subst (λ (t : List ℕ). Appends old new t) is.writes w.written }
  lines_left l entries have Findings fault old new w =
      let is = whole_is l entries have w.text true finished w.is_whole in
      let no : true ≡ false = is.none_found in cc
  lines_left l entries have InputFault fault old new w = by_fault l entries have InputFault fault old new w
  lines_left l entries have ReadFault fault old new w = by_fault l entries have ReadFault fault old new w
  lines_left l entries have _ fault old new w = (w.by_none, front l entries have fault old new w)

-- the actions among the entries
acts_exactly : {A : Type 0} (blocks : List (Block A)) (events : List (Event A)) (entries : List (List (Entry A))) → AreApart blocks → AreEntries blocks events entries → ActExactly blocks events entries
acts_exactly blocks events entries apart have readings read i es at b state sequence t members =
    let there = have.each i es at in
    let same : there.0 ≡ readings = reads_one events there.0 there.1 ∙ sym (reads_one events readings read) in
    acts_are_told blocks readings i es b state sequence t members apart (subst (λ (rs : List EventRead). AreReadEntriesAt blocks rs i es) same there.2)

pub captures_are_replayed : {A : Type 0} → CapturesAreReplayed A
captures_are_replayed {A} blocks said make ending z read fault old new apart are run =
    let l : Numbered (Event A) CaptureFault = with_each make (captured_events z read) in
    let entries = run_events (fresh_state blocks) (map reading_of (events_of l.items)) in
    let have : AreEntries blocks (events_of l.items) entries = entries_exist blocks (events_of l.items) in
    record {
      entries = entries;
      are_entries = have;
      written = lines_left blocks said apart are l entries have ending fault old new (input_is (made make capture_input) (replay_lines blocks said) ending fault z read old new run);
      acts = acts_exactly blocks (events_of l.items) entries apart have;
    }

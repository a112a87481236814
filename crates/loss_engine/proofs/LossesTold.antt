-- What a run leaves that tells losses, it writes piece by piece: a piece for each event, and the lines at the end.
use Rattle.std.proofs.Common.{Option, Some, None, Ok, Err, Result, ◌≡◌, ◌⊎◌, ℕ, suc, Bool, false, List, [], ◌∷◌, ◌++◌, length, map, take, drop, inl, inr, ap, ap₂, refl, ◌∙◌, sym, subst, arith}
use Rattle.std.specs.Prelude.{◌||◌, if◌then◌else◌, option_map, slice_get}
use Rattle.std.specs.Io.KnownBytes.{Appends}
use Rattle.std.proofs.lemmas.List.{append_assoc, append-nil, length-append, length-map, map-append}
use Rattle.std.proofs.lemmas.Grind.{flat_map-append}
use Rattle.std.proofs.lemmas.List.Folds.{list_any-append}
use Rattle.std.proofs.lemmas.Option.{same_Some, slice_get-map}
use Rattle.list_core.specs.declared.device.InputEnd.{InputEnd}
use Rattle.list_core.specs.declared.event.Event.{Event}
use Rattle.list_core.specs.Device.{AppendsPrefix}
use Rattle.list_core.specs.Items.{Numbered, put_item, put_items, stops}
use Rattle.list_core.specs.Lines.{finished, faulty}
use Rattle.list_core.specs.ReadItems.{AnswerOf}
use Rattle.list_core.proofs.Devices.{Appends-append, Appends-none, AppendsPrefix-more}
use Rattle.engine_core.specs.declared.ending.Ending.{Ending}
use Rattle.engine_core.specs.declared.ending.Ending.TheVariants.{Done, Findings}
use Rattle.engine_core.specs.declared.stopped.Halt.{Halt}
use Rattle.engine_core.specs.declared.style.Style.{Style}
use Rattle.engine_core.specs.declared.stopped.Halt.TheVariants as halt
use Rattle.engine_core.specs.EngineText.{AreAllowedTexts, ItemText, exactly, has_finding, joined_texts, step_text_to}
use Rattle.engine_core.specs.Input.{Input, IsRead, TellsNext}
use Rattle.engine_core.specs.RunOver.{EndsThere, HaltsAtEnd, HaltsThere, IsDue, Run, Stops, WantsFor, ending_by_halt, fault_by_halt, step_fault}
use Rattle.engine_core.proofs.Ends.{split_at}
use Rattle.engine_core.proofs.ItemTexts.{or_false}
use Rattle.loss_core.proofs.Places.{get_middle}
use Rattle.loss_core.specs.Periods.{ArePeriods, Period}
use Rattle.loss_engine.specs.LossText.{Manner, ShowsNew, losses_text}
use Rattle.loss_engine.specs.LossWants.{ArePiecesOf, ArePiecesRead, KeepsBehind, LossWants, LossesAreTold, StandsBehind, WritesLosses, for_input, for_new, for_text, written_pieces}
use Rattle.loss_engine.specs.computed.Tracking.{Kept, closings, keep, keep_all, kept_none, numbered_all, piece_by, pieces_by, pieces_of, pieces_onward}
use Rattle.loss_engine.proofs.LossLaws.{losses_are, numbers_away, pieces_sizes, pieces_tell_all}
use Rattle.loss_engine.proofs.LossSteps.{end_is, piece_once, piece_told}
use Rattle.loss_engine.proofs.LossWanted.{are_pieces}
use Rattle.loss_engine.proofs.LossesOnce.{event_once, same_items, there}

front_all : {X : Type 0} (xs ys : List X) → take (length xs) (xs ++ ys) ≡ xs
front_all [] ys = refl
front_all (x ∷ xs) ys = ap (λ l. x ∷ l) (front_all xs ys)

pieces_put : {A F : Type 0} (periods : List Period) (style : Style) (n : ℕ) (k : Kept) (es : List (ℕ × Event A)) (onward : Numbered (Event A) F) →
    pieces_onward periods style n k (put_items es onward) ≡ put_items (pieces_by periods style k es) (pieces_onward periods style n (keep_all periods k es) onward)
pieces_put periods style n k [] onward = refl
pieces_put periods style n k (e ∷ es) onward = ap (put_item (e.0, piece_by periods style k e)) (pieces_put periods style n (keep periods k e.1) es onward)

-- a step of losses is written: none is refused
none_refused : {C F : Type 0} (refused : ℕ → C → F) (n : ℕ) (w : List ℕ × Bool) (why : F) → Some why ≡ step_fault {C = C} refused n (Ok w) → ⊥
none_refused refused n w why h = cc

module _ {A C F : Type 0} (how : Manner F) (in_range : ArePeriods how.periods) (input : Input (Event A) C F) (ending : Ending) (fault : Option F) (z : InputEnd) (read : List ℕ) (old new : Option (List ℕ))
    (run : Run (IsRead input z read) input.faults (losses_text {C = C} how) ending fault old new) where
  abbrev said : Numbered (Event A) F
  said = input.says z read

  abbrev onward : Numbered (Event A) F
  onward = run.read.onward

  -- what is kept behind the events
  abbrev k : Kept
  k = keep_all how.periods kept_none run.items

  abbrev pieces : Numbered ItemText F
  pieces = pieces_of how.periods how.style 0 said

  -- the pieces of the events
  abbrev told : List (ℕ × ItemText)
  told = pieces_by how.periods how.style kept_none run.items

  -- the lines at the end
  abbrev lines : List ItemText
  lines = closings how.style k

  abbrev text_of : ℕ × ItemText → ItemText
  text_of p = p.1

  as_many : length told ≡ length run.items
  as_many = pieces_sizes how.periods in_range how.style run.items kept_none

  -- what was written of the events is the texts of their pieces
  texts_are : run.texts ≡ map text_of told
  texts_are = same_items run.texts (map text_of told) (run.are_texts.one_each ∙ sym as_many ∙ sym (length-map told text_of)) (λ i w v h g.
      let e = there run.texts run.items run.are_texts.one_each i w h in
      let p = there run.items told (sym as_many) i e.0 e.1 in
      let same : p.0.1 ≡ v = same_Some (p.0.1) v (sym (slice_get-map text_of told i ∙ ap (option_map text_of) p.1) ∙ g) in
      event_once how.periods how.style (take i run.items) e.0 w p.0.1 (run.are_texts.each i e.0 w e.1 h) (pieces_tell_all how.periods in_range how.style run.items i e.0 p.0 e.1 p.1).1 ∙ same)

  -- pieces are written as they are
  written_so : (ps : List (ℕ × ItemText)) → AreAllowedTexts (exactly (written_pieces {C = C} how)) ps (map text_of ps)
  written_so ps = record { one_each = length-map ps text_of; each = λ i p w h g. let same : p.1 ≡ w = same_Some (p.1) w (sym (slice_get-map text_of ps i ∙ ap (option_map text_of) h) ∙ g) in ap (λ (x : ItemText). Ok (x.text, x.is_finding)) same }

  -- those of the events, and of the first lines at the end
  abbrev behind : List ItemText → List (ℕ × ItemText)
  behind front = told ++ numbered_all 0 front

  behind_texts : (front : List ItemText) → map text_of (behind front) ≡ run.texts ++ front
  behind_texts front = map-append text_of told (numbered_all 0 front) ∙ ap₂ (λ (a b : List ItemText). a ++ b) (sym texts_are) (numbers_away 0 front)

  joined_behind : (front : List ItemText) → joined_texts (run.texts ++ front) ≡ joined_texts run.texts ++ joined_texts front
  joined_behind front = flat_map-append (λ (w : ItemText). w.text) run.texts front

  -- a run that wrote these pieces
  wrote : (front : List ItemText) (held : Option (List ℕ)) → Appends run.held held (joined_texts front) → (answer : AnswerOf ItemText F) → ArePiecesRead input z read pieces (LossWants how.periods how.style (KeepsBehind input z read) said pieces) (behind front) answer →
      EndsThere (exactly (written_pieces {C = C} how)) (behind front) (run.texts ++ front) answer ending fault held new ⊎ HaltsThere input.faults (exactly (written_pieces {C = C} how)) (behind front) answer ending fault held new → WritesLosses how input ending fault z read old new
  wrote front held w answer is_read ends = record {
    pieces = pieces;
    are = losses_are how.periods how.style 0 said in_range;
    run = record {
      items = behind front;
      texts = run.texts ++ front;
      are_texts = subst (λ (ws : List ItemText). AreAllowedTexts (exactly (written_pieces {C = C} how)) (behind front) ws) (behind_texts front) (written_so (behind front));
      held = held;
      written = subst (λ (l : List ℕ). Appends old held l) (sym (joined_behind front)) (Appends-append old run.held held (joined_texts run.texts) (joined_texts front) run.written w);
      answer = answer;
      read = is_read;
      ends = elim ends [ inl e ↦ inr (inl e) | inr e ↦ inl e ];
    };
  }

  -- ---- what the input says of it

  all_said : pieces ≡ put_items told (pieces_onward how.periods how.style 0 k onward)
  all_said = ap (pieces_onward how.periods how.style 0 kept_none) run.read.says ∙ pieces_put how.periods how.style 0 kept_none run.items onward

  says_open : pieces ≡ put_items (behind []) (pieces_onward how.periods how.style 0 k onward)
  says_open = all_said ∙ ap (λ (ps : List (ℕ × ItemText)). put_items ps (pieces_onward how.periods how.style 0 k onward)) (sym (append-nil told))

  -- these lines are left
  abbrev left : List ItemText → Numbered ItemText F
  left rest = record { items = numbered_all 0 rest; stop = finished }

  says_end : onward ≡ stops finished → (front rest : List ItemText) → lines ≡ front ++ rest → pieces ≡ put_items (behind front) (left rest)
  says_end over front rest parts =
      all_said ∙ ap (λ (l : Numbered (Event A) F). put_items told (pieces_onward how.periods how.style 0 k l)) over
      ∙ ap (λ (ls : List ItemText). put_items told (left ls)) parts
      ∙ ap (λ (ps : List (ℕ × ItemText)). let l : Numbered ItemText F = record { items = ps; stop = finished } in l)
      (ap (λ (ps : List (ℕ × ItemText)). told ++ ps) (map-append (λ (w : ItemText). (0, w)) front rest) ∙ sym (append_assoc told (numbered_all 0 front) (numbered_all 0 rest)))

  -- as many pieces were written as events were read
  stands_open : StandsBehind input z read (behind [])
  stands_open = record { events = run.items; answer = run.answer; is_read = run.read; of_events = inl (sym as_many ∙ ap length (sym (append-nil told))) }

  stands_end : run.answer ≡ Ok None → (front : List ItemText) → StandsBehind input z read (behind front)
  stands_end ended front = record { events = run.items; answer = run.answer; is_read = run.read; of_events = inr (ended, let one_each = as_many in let size = length-append told (numbered_all 0 front) in omega (arith, one_each, size)) }

  -- ---- at the end

  -- some lines were written, and this one comes next
  at_line : run.answer ≡ Ok None → onward ≡ stops finished → (front rest : List ItemText) (w : ItemText) → lines ≡ front ++ w ∷ rest → (held : Option (List ℕ)) → Appends run.held held (joined_texts front) → fault ≡ None →
      ((ending ≡ ending_by_halt input.faults.failed halt.WriteFault) × AppendsPrefix held new w.text) ⊎ ((ending ≡ ending_by_halt input.faults.failed halt.Memory) × (w.text ≡ [] → ⊥) × (new ≡ held)) → WritesLosses how input ending fault z read old new
  at_line ended over front rest w parts held wrote_front by (inl failed) = wrote front held wrote_front (Ok (Some (0, w)))
      (record { onward = left (w ∷ rest); says = says_end over front (w ∷ rest) parts; tells = (left rest, refl); stands = stands_end ended front; wants = λ none. cc })
      (inr (record { halt = halt.WriteFault; stops = (w.text, None, record { written = Ok (w.text, w.is_finding); is_allowed = refl; has_text = refl; has_fault = refl }, failed.1); has_ending = failed.0; by = by }))
  at_line ended over front rest w parts held wrote_front by (inr wanted) = wrote front held wrote_front (Err None)
      (record { onward = left (w ∷ rest); says = says_end over front (w ∷ rest) parts; tells = tt; stands = stands_end ended front; wants = λ none. for_text (0, w) (left rest) (says_end over front (w ∷ rest) parts) wanted.1 })
      (inr (record { halt = halt.Memory; stops = (inl refl, wanted.2); has_ending = wanted.0; by = by }))

  over_at : run.answer ≡ Ok None → onward ≡ stops finished
  over_at ended = subst (λ (o : AnswerOf (Event A) F). TellsNext o onward) ended run.read.tells

  at_end : EndsThere (losses_text {C = C} how) run.items run.texts run.answer ending fault run.held new → WritesLosses how input ending fault z read old new
  at_end e =
      let same : lines ≡ e.lines = end_is how.periods in_range how.style k run.items e.lines refl e.may_end in
      let found : (has_finding run.texts || has_finding e.lines) ≡ (has_finding (run.texts ++ e.lines) || false) = sym (list_any-append (λ (w : ItemText). w.is_finding) run.texts e.lines) ∙ sym (or_false (has_finding (run.texts ++ e.lines))) in
      wrote e.lines new e.written (Ok None)
      (record { onward = left []; says = says_end (over_at e.ended) e.lines [] (same ∙ sym (append-nil e.lines)); tells = refl; stands = stands_end e.ended e.lines; wants = λ none. cc })
      (inl (record { ended = refl; lines = []; may_end = refl; has_ending = e.has_ending ∙ ap (λ (f : Bool). if f then Findings else Done) found; by_none = e.by_none; written = Appends-none new; no_more = λ none. refl }))

  halts_end : HaltsAtEnd (losses_text {C = C} how) run.items run.answer ending fault run.held new → WritesLosses how input ending fault z read old new
  halts_end e =
      let same : lines ≡ e.lines = end_is how.periods in_range how.style k run.items e.lines refl e.may_end in
      at_line e.ended (over_at e.ended) (take e.before e.lines) (drop (suc e.before) e.lines) e.line (same ∙ split_at e.lines e.before e.line e.is_line) e.mid e.written e.by_none e.stops

  -- ---- before it

  open_read : (answer : AnswerOf ItemText F) → TellsNext answer (pieces_onward how.periods how.style 0 k onward) → (answer ≡ Err None → LossWants how.periods how.style (KeepsBehind input z read) said pieces (behind [])) →
      ArePiecesRead input z read pieces (LossWants how.periods how.style (KeepsBehind input z read) said pieces) (behind []) answer
  open_read answer tells wants = record { onward = pieces_onward how.periods how.style 0 k onward; says = says_open; tells = tells; stands = stands_open; wants = wants }

  -- the first events that are said
  size : length (behind []) ≡ length run.items
  size = ap length (append-nil told) ∙ as_many

  first : take (length (behind [])) said.items ≡ run.items
  first = ap (λ (n : ℕ). take n said.items) size ∙ ap (λ (l : Numbered (Event A) F). take (length run.items) l.items) run.read.says ∙ front_all run.items onward.items

  told_so : ArePiecesOf how.periods how.style (take (length (behind [])) said.items) (behind [])
  told_so = subst (λ (es : List (ℕ × Event A)). ArePiecesOf how.periods how.style es (behind [])) (sym first)
      (subst (λ (ps : List (ℕ × ItemText)). ArePiecesOf how.periods how.style run.items ps) (sym (append-nil told)) (are_pieces how.periods in_range how.style run.items))

  -- memory was wanted
  for_memory : LossWants how.periods how.style (KeepsBehind input z read) said pieces (behind []) → new ≡ run.held → ending ≡ ending_by_halt input.faults.failed halt.Memory → fault ≡ None → WritesLosses how input ending fault z read old new
  for_memory wants same has by = wrote [] run.held (Appends-none run.held) (Err None) (open_read (Err None) tt (λ none. wants)) (inr (record { halt = halt.Memory; stops = (inl refl, same); has_ending = has; by = by }))

  -- the next event is said, and its piece
  module _ (e : ℕ × Event A) (others : Numbered (Event A) F) (next : onward ≡ put_item e others) where
    abbrev piece : ItemText
    piece = piece_by how.periods how.style k e

    abbrev later : Numbered ItemText F
    later = pieces_onward how.periods how.style 0 (keep how.periods k e.1) others

    piece_next : pieces_onward how.periods how.style 0 k onward ≡ put_item (e.0, piece) later
    piece_next = ap (pieces_onward how.periods how.style 0 k) next

    at_event : (written : Result (List ℕ × Bool) C) → (losses_text {C = C} how).of_item run.items e written → (w : List ℕ × Bool) × (written ≡ Ok w) × (piece ≡ record { text = w.0; is_finding = w.1 })
    at_event (Ok w) is = (w, refl, piece_once how.periods in_range how.style k run.items e (record { text = w.0; is_finding = w.1 }) refl is)
    at_event (Err why) is = absurd is

    event_due : (text : List ℕ) (closing : Option F) → IsDue input.faults.refused (losses_text {C = C} how) run.items (Ok (Some e)) text closing → (text ≡ piece.text) × (closing ≡ None)
    event_due text closing due =
        let o = at_event due.written due.is_allowed in (
          due.has_text ∙ ap (λ (r : Result (List ℕ × Bool) C). step_text input.faults.refused r) o.1 ∙ sym (ap (λ (w : ItemText). w.text) o.2),
          due.has_fault ∙ ap (step_fault input.faults.refused e.0) o.1,
        )
      where
        step_text : (ℕ → C → F) → Result (List ℕ × Bool) C → List ℕ
        step_text refused r = step_text_to refused (losses_text {A = A} {C = C} how) e.0 r

    event_says : slice_get said.items (length (behind [])) ≡ Some e
    event_says = ap (λ (n : ℕ). slice_get said.items n) size ∙ ap (λ (l : Numbered (Event A) F). slice_get l.items (length run.items)) (run.read.says ∙ ap (put_items run.items) next) ∙ get_middle run.items e others.items

    event_halts : (h : Halt F) → Stops (WantsFor input.faults.refused (losses_text {C = C} how) run.items (Ok (Some e))) (IsDue input.faults.refused (losses_text {C = C} how) run.items (Ok (Some e))) h run.held new → ending ≡ ending_by_halt input.faults.failed h → fault ≡ fault_by_halt h →
        WritesLosses how input ending fault z read old new
    event_halts (halt.Fault why) s has by = let due = event_due s.0 (Some why) s.1 in let none = due.1 in absurd (cc)
    event_halts halt.WriteFault s has by =
        let due = event_due s.0 s.1 s.2 in
        wrote [] run.held (Appends-none run.held) (Ok (Some (e.0, piece))) (open_read (Ok (Some (e.0, piece))) (later, piece_next) (λ none. cc))
        (inr (record {
          halt = halt.WriteFault;
          stops = (piece.text, None, record { written = Ok (piece.text, piece.is_finding); is_allowed = refl; has_text = refl; has_fault = refl }, subst (λ (l : List ℕ). AppendsPrefix run.held new l) due.0 s.3);
          has_ending = has;
          by = by;
        }))
    event_halts halt.Memory (inl none, same) has by = absurd (cc)
    event_halts halt.Memory (inr (inl shows), same) has by = for_memory (for_new e event_says told_so (subst (λ (es : List (ℕ × Event A)). ShowsNew es e) (sym first) shows)) same has by
    event_halts halt.Memory (inr (inr some), same) has by =
        for_memory (for_text (e.0, piece) later (says_open ∙ ap (put_items (behind [])) piece_next)
        (some piece.text None (record { written = Ok (piece.text, piece.is_finding); is_allowed = piece_told how.periods in_range how.style k run.items e refl; has_text = refl; has_fault = refl }))) same has by

  -- nothing is due at the end itself, and the writer failed
  end_fails : run.answer ≡ Ok None → (ls : List ItemText) → lines ≡ ls → AppendsPrefix run.held new [] → ending ≡ ending_by_halt input.faults.failed halt.WriteFault → fault ≡ None → WritesLosses how input ending fault z read old new
  end_fails ended [] none w has by = wrote [] run.held (Appends-none run.held) (Ok None)
      (record { onward = left []; says = says_end (over_at ended) [] [] none; tells = refl; stands = stands_end ended []; wants = λ h. cc })
      (inr (record { halt = halt.WriteFault; stops = ([], None, (refl, refl), w); has_ending = has; by = by }))
  end_fails ended (l ∷ ls) some w has by = at_line ended (over_at ended) [] ls l some run.held (Appends-none run.held) by (inl (has, AppendsPrefix-more run.held new [] l.text w))

  end_halts : run.answer ≡ Ok None → (h : Halt F) → Stops (WantsFor input.faults.refused (losses_text {C = C} how) run.items (Ok None)) (IsDue input.faults.refused (losses_text {C = C} how) run.items (Ok None)) h run.held new → ending ≡ ending_by_halt input.faults.failed h → fault ≡ fault_by_halt h →
      WritesLosses how input ending fault z read old new
  end_halts ended (halt.Fault why) s has by = let none = s.1.1 in absurd (cc)
  end_halts ended halt.WriteFault s has by = end_fails ended lines refl (subst (λ (l : List ℕ). AppendsPrefix run.held new l) s.2.0 s.3) has by
  end_halts ended halt.Memory (inl none, same) has by = absurd (cc)
  end_halts ended halt.Memory (inr (inl keeps), same) has by = absurd keeps
  end_halts ended halt.Memory (inr (inr some), same) has by = absurd (some [] None (refl, refl) refl)

  fault_halts : (f : F) → onward ≡ stops (faulty f) → (h : Halt F) → Stops (WantsFor input.faults.refused (losses_text {C = C} how) run.items (Err (Some f))) (IsDue input.faults.refused (losses_text {C = C} how) run.items (Err (Some f))) h run.held new → ending ≡ ending_by_halt input.faults.failed h → fault ≡ fault_by_halt h →
      WritesLosses how input ending fault z read old new
  fault_halts f is h s has by =
      wrote [] run.held (Appends-none run.held) (Err (Some f)) (open_read (Err (Some f)) (ap (pieces_onward how.periods how.style 0 k) is) (λ none. cc)) (inr (record { halt = h; stops = stops_so h s; has_ending = has; by = by }))
    where
      stops_so : (h : Halt F) → Stops (WantsFor input.faults.refused (losses_text {A = A} {C = C} how) run.items (Err (Some f))) (IsDue input.faults.refused (losses_text {A = A} {C = C} how) run.items (Err (Some f))) h run.held new →
          Stops (WantsFor input.faults.refused (exactly (written_pieces {C = C} how)) (behind []) (Err (Some f))) (IsDue input.faults.refused (exactly (written_pieces {C = C} how)) (behind []) (Err (Some f))) h run.held new
      stops_so (halt.Fault why) s = s
      stops_so halt.WriteFault s = s
      stops_so halt.Memory (inl none, same) = absurd (cc)
      stops_so halt.Memory (inr (inl keeps), same) = absurd keeps
      stops_so halt.Memory (inr (inr some), same) = (inr (inr some), same)

  none_halts : run.answer ≡ Err None → (h : Halt F) → Stops (WantsFor input.faults.refused (losses_text {C = C} how) run.items (Err None)) (IsDue input.faults.refused (losses_text {C = C} how) run.items (Err None)) h run.held new → ending ≡ ending_by_halt input.faults.failed h → fault ≡ fault_by_halt h →
      WritesLosses how input ending fault z read old new
  none_halts none (halt.Fault why) s has by = absurd s.1
  none_halts none halt.WriteFault s has by = absurd s.2
  none_halts none halt.Memory s has by =
      let keeps : KeepsBehind input z read run.items = subst (λ (o : AnswerOf (Event A) F). input.stands z read run.items o) none run.read.stands in
      for_memory (for_input told_so (subst (KeepsBehind input z read) (sym first) keeps)) s.1 has by

  halts : (answer : AnswerOf (Event A) F) → run.answer ≡ answer → HaltsThere input.faults (losses_text {C = C} how) run.items answer ending fault run.held new → WritesLosses how input ending fault z read old new
  halts (Ok (Some e)) is x = let tells = subst (λ (o : AnswerOf (Event A) F). TellsNext o onward) is run.read.tells in event_halts e tells.0 tells.1 x.halt x.stops x.has_ending x.by
  halts (Ok None) is x = end_halts is x.halt x.stops x.has_ending x.by
  halts (Err (Some f)) is x = fault_halts f (subst (λ (o : AnswerOf (Event A) F). TellsNext o onward) is run.read.tells) x.halt x.stops x.has_ending x.by
  halts (Err None) is x = none_halts is x.halt x.stops x.has_ending x.by

  pub told_run : WritesLosses how input ending fault z read old new
  told_run = elim run.ends [
    | inl e ↦ halts run.answer refl e
    | inr (inl e) ↦ at_end e
    | inr (inr e) ↦ halts_end e
  ]

pub losses_told : {A C F : Type 0} (input : Input (Event A) C F) → LossesAreTold input
losses_told input how ending fault z read old new are (inl w) = inl (record { write_fault = w.write_fault; by_none = w.by_none; untouched = w.untouched; written = w.written })
losses_told input how ending fault z read old new are (inr run) = inr (told_run how are input ending fault z read old new run)

-- A task over the events of a list, asked for without options, leaves what the call of its command over a list does. No clause cites it.
use Rattle.std.proofs.Common.{Option, Some, None, Ok, Err, ◌≡◌, ◌⊎◌, ℕ, Bool, List, [], ◌∷◌, inl, inr, ap, ap₂, sym, ◌∙◌, refl, subst}
use Rattle.std.specs.Prelude.{option_map}
use Rattle.std.specs.Global.{Global}
use Rattle.list_core.specs.declared.device.InputEnd.{InputEnd}
use Rattle.list_core.specs.declared.device.InputEnd.TheVariants.{Open}
use Rattle.list_core.specs.declared.event.Event.{Event}
use Rattle.list_core.specs.declared.event_lines.EventLines.TheVariants.{First}
use Rattle.list_core.specs.declared.line_rules.ItemFault.{ItemFault}
use Rattle.list_core.specs.declared.list_fault.ListCause.{ListCause}
use Rattle.list_core.specs.EventLine.{event_rules}
use Rattle.list_core.specs.Items.{Numbered}
use Rattle.list_core.specs.ReadItems.{AnswerOf}
use Rattle.object_core.specs.declared.counted.Form.TheVariants.{Text as Lines}
use Rattle.engine_core.specs.declared.ending.Ending.{Ending}
use Rattle.engine_core.specs.declared.style.Style.{Style}
use Rattle.engine_core.specs.declared.style.Style.TheVariants as styles
use Rattle.engine_core.specs.EngineText.{Alike, Allowed, Text, exactly}
use Rattle.engine_core.specs.EventsText.{EventAllows, EventText, FaultText, exactly_event, over_events, over_in}
use Rattle.engine_core.specs.Input.{Input, IsRead}
use Rattle.engine_core.specs.MadeRun.{answer_made, each_made, made, with_each}
use Rattle.engine_core.specs.Run.{list_input}
use Rattle.engine_core.specs.RunOver.{FailsBefore, IsUntouched, Leaves, OfKind}
use Rattle.engine_core.proofs.EventSteps.{exactly_over}
use Rattle.engine_core.proofs.ReaderRuns.{run_as, runs_alike}
use Rattle.frame_engines.specs.CheckText.{check_event, check_text}
use Rattle.frame_engines.specs.ShowText.{show_event, show_text}
use Rattle.inventory_engine.specs.BlocksText.{IsBlocksText}
use Rattle.exchange_engines.specs.declared.engines.replay.ReplayStop.{ReplayStop}
use Rattle.exchange_engines.specs.declared.engines.replay.ReplayStop.TheVariants as stops
use Rattle.exchange_engines.specs.ReplayText.{ReplayWritesTo}
use Rattle.exchange_engines.specs.WatchText.{IsWatchText}
use Rattle.words_core.specs.CommandLine.{Asked, check, list_blocks, losses, replay, show, watch}
use Rattle.words_core.specs.declared.option_words.Options.{Options}
use Rattle.words_core.proofs.Switches.{no_options}
use Rattle.inventory_engine.proofs.Newest.{in_lines}
use Rattle.exchange_engines.proofs.ListedReplays.{lines_are, lines_of, plainly_said}
use Rattle.exchange_engines.proofs.WatchLemmas.{watch_lines}
use Rattle.loss_core.specs.Periods.{ArePeriods, Period}
use Rattle.loss_engine.specs.LossWants.{WritesLosses, written_pieces}
use Rattle.loss_engine.proofs.LossesTold.{losses_told}
use Rattle.task_engine.specs.declared.stop.Stop.{Stop}
use Rattle.task_engine.specs.EventTasks.{Ended, StopsBy, plain_work}
use Rattle.task_engine.specs.InputText.{EventsTell, Tells, changes_of, list_events, list_last, of_list, of_stop}
use Rattle.task_engine.specs.RequestText.{LeavesText, RequestWrites}
use Rattle.task_engine.proofs.EventTaskLemmas.{input_told}
use Rattle.unwrap_core.specs.UnwrapEvents.{change_event}

-- ---- as it was said

-- options of which none is given
abbrev plain : Options
plain = no_options

abbrev EventsLeft : Text (Event Global) ListCause → Ended → Option (ItemFault ListCause) → Type 0
EventsLeft t end fault = LeavesText event_rules First t end fault

abbrev WroteBefore : Asked → Ended → Option Stop → Type 0
WroteBefore show end told = Tells of_list (EventsLeft show_text end) told
WroteBefore check end told = Tells of_list (EventsLeft check_text end) told
WroteBefore list_blocks end told = Tells of_list (λ fault. OfKind (IsBlocksText {A = Global}) (λ t. EventsLeft t end fault)) told
WroteBefore (replay blocks) end told = Tells (of_stop of_list) (λ by. ReplayWritesTo blocks end.ending by end.source end.read end.old end.new) told
WroteBefore (watch period id) end told = Tells of_list (λ fault. OfKind (IsWatchText {A = Global} period id) (λ t. EventsLeft t end fault)) told
WroteBefore asked end told = RequestWrites (plain) asked end told

-- ---- an input of which nothing is made

module _ (make : Event Global → Event Global) (none : (e : Event Global) → make e ≡ e) where
  none_made : {F : Type 0} (answer : AnswerOf (Event Global) F) → answer ≡ answer_made make answer
  none_made {F} (Ok (Some e)) = ap (λ (x : Event Global). let o : AnswerOf (Event Global) F = Ok (Some (e.0, x)) in o) (sym (none e.1))
  none_made (Ok None) = refl
  none_made (Err f) = refl

  each_same : (items : List (ℕ × Event Global)) → each_made make items ≡ items
  each_same [] = refl
  each_same (e ∷ es) = ap₂ (λ (x : Event Global) (l : List (ℕ × Event Global)). (e.0, x) ∷ l) (none e.1) (each_same es)

  module _ {C F : Type 0} (input : Input (Event Global) C F) where
    all_same : (l : Numbered (Event Global) F) → with_each make l ≡ l
    all_same l = ap (λ (es : List (ℕ × Event Global)). record { items = es; stop = l.stop }) (each_same l.items)

    read_same : (z : InputEnd) (read : List ℕ) (items : List (ℕ × Event Global)) (answer : AnswerOf (Event Global) F) → IsRead (made make input) z read items answer → IsRead input z read items answer
    read_same z read items answer r =
        let s = r.stands in
        let same_items = sym (each_same s.said) ∙ sym s.are_made in
        let same_answer = none_made s.told ∙ sym s.is_made in
        record {
          onward = r.onward;
          says = sym (all_same (input.says z read)) ∙ r.says;
          tells = r.tells;
          stands = subst (λ (o : AnswerOf (Event Global) F). input.stands z read items o) same_answer (subst (λ (es : List (ℕ × Event Global)). input.stands z read es s.told) same_items s.stands);
        }

    left_same : (t : Allowed (Event Global) C F) (ending : Ending) (fault : Option F) (z : InputEnd) (read : List ℕ) (old new : Option (List ℕ)) → Leaves (made make input) t ending fault z read old new → Leaves input t ending fault z read old new
    left_same t ending fault z read old new (inl w) = inl w
    left_same t ending fault z read old new (inr run) = inr (run_as input.faults ending fault old new t run (read_same z read run.items run.answer run.read))

-- ---- so it is

-- a run over the events of a list leaves a text that is as what may be written
text_left : (end : Ended) (fault : Option (ItemFault ListCause)) (allows : EventAllows Global) (t : Text (Event Global) ListCause) → Alike (over_in (styles.Lines Lines) (λ form. allows) list_last) (exactly t) →
    Leaves (list_events plain) (over_in (styles.Lines Lines) (λ form. allows) list_last) end.ending fault end.source end.read end.old end.new → EventsLeft t end fault
text_left end fault allows t same w =
    let input : Input (Event Global) ListCause (ItemFault ListCause) = list_input event_rules First in
    let may : Allowed (Event Global) ListCause (ItemFault ListCause) = over_in (styles.Lines Lines) (λ form. allows) list_last in
    runs_alike input.faults end.ending fault end.old end.new may (exactly t) same (left_same (change_event (changes_of plain)) (λ e. refl) input may end.ending fault end.source end.read end.old end.new w)

-- the same of a text that is fixed
fixed_left : (end : Ended) (fault : Option (ItemFault ListCause)) (text : EventText Global) → Leaves (list_events plain) (over_in (styles.Lines Lines) (λ form. exactly_event text) list_last) end.ending fault end.source end.read end.old end.new →
    EventsLeft (over_events text list_last.line) end fault
fixed_left end fault text w = text_left end fault (exactly_event text) (over_events text list_last.line) (exactly_over text list_last.line) w

-- the fault of the input is what is told
told_input : (stop : Option (ReplayStop (ItemFault ListCause))) (fault : Option (ItemFault ListCause)) (told : Option Stop) → stop ≡ option_map stops.Input fault → told ≡ option_map (of_stop of_list) stop → told ≡ option_map of_list fault
told_input stop fault told by is = is ∙ ap (option_map (of_stop of_list)) by ∙ input_told of_list fault

by_task : (asked : Asked) (end : Ended) (told : Option Stop) → RequestWrites (plain) asked end told → WroteBefore asked end told
by_task show end told w = let l = w.1 in (l.fault, fixed_left end l.fault show_event l.is_left.is_left, told_input w.0 l.fault told l.by w.2)
by_task check end told w = let l = w.1 in (l.fault, fixed_left end l.fault check_event l.is_left.is_left, told_input w.0 l.fault told l.by w.2)
by_task list_blocks end told w =
    let l = w.1 in
    let k = l.is_left in
    (l.fault, record { by = over_events (k.by Lines) list_last.line; is = in_lines k.by k.is; is_left = fixed_left end l.fault (k.by Lines) k.is_left }, told_input w.0 l.fault told l.by w.2)
by_task (watch period id) end told w =
    let l = w.1 in
    let k = l.is_left in
    (l.fault, record { by = over_events (k.by Lines) list_last.line; is = watch_lines period id k.by k.is; is_left = fixed_left end l.fault (k.by Lines) k.is_left }, told_input w.0 l.fault told l.by w.2)
by_task (replay blocks) end told (why, inl twice, is) = (why, inl twice, is)
by_task (replay blocks) end told (why, inr (inl none), is) = (why, inr (inl none), is)
by_task (replay blocks) end told (why, inr (inr ran), is) =
    let k = ran.is_left in (
      why,
      inr (inr (record {
        are_apart = ran.are_apart;
        fault = ran.fault;
        by = ran.by;
        is_left = record { by = over_events (lines_of k.by) list_last.line; is = lines_are blocks k.by (plainly_said blocks k.by k.is); is_left = fixed_left end ran.fault (lines_of k.by) k.is_left };
      })),
      is,
    )
by_task _ end told w = w

-- without options a task leaves what it was said to leave of a list
pub as_before : (asked : Asked) (end : Ended) (told : Option Stop) (is_raw : Bool) → RequestWrites (record no_options { is_raw = is_raw }) asked end told → WroteBefore asked end told
as_before show end told is_raw w = by_task show end told w
as_before asked end told is_raw w = by_task asked end told w

-- what a task leaves that tells losses, of whatever input, it leaves piece by piece as it was said to
pub losses_as_before : {C F : Type 0} (of : F → Stop) (style : Style) (periods : List Period) (input : Input (Event Global) C F) (last : FaultText F) (end : Ended) (told : Option Stop) → ArePeriods periods → EventsTell of style (plain_work (losses periods)) input last end told →
    Tells (of_stop of) (StopsBy (λ fault.
    FailsBefore (IsUntouched Open end.source end.read) (exactly (written_pieces {C = C} (record { periods = periods; style = style; last = last }))) end.ending fault end.old end.new
    ⊎ WritesLosses (record { periods = periods; style = style; last = last }) input end.ending fault end.source end.read end.old end.new)) told
losses_as_before of style periods input last end told are (why, l, is) =
    (why, record { fault = l.fault; by = l.by; is_left = losses_told input (record { periods = periods; style = style; last = last }) end.ending l.fault end.source end.read end.old end.new are l.is_left.is_left }, is)

-- What a task over a reader of events leaves of the input that it reads.
use Rattle.std.proofs.Common.{Option, Some, None, Err, ◌≡◌, ℕ, List, [], inl, inr, sym, refl, subst}
use Rattle.std.specs.Prelude.{option_map}
use Rattle.std.specs.Global.{Global}
use Rattle.list_core.specs.declared.device.InputEnd.{InputEnd}
use Rattle.list_core.specs.declared.device.InputEnd.TheVariants.{Failed, Open}
use Rattle.list_core.specs.declared.event.Event.{Event}
use Rattle.list_core.specs.Device.{GivesOctets}
use Rattle.list_core.specs.ReadItems.{AnswerOf}
use Rattle.engine_core.specs.declared.ending.Ending.{Ending}
use Rattle.engine_core.specs.declared.ending.Ending.TheVariants.{ReadFault}
use Rattle.engine_core.specs.declared.stopped.Stopped.{Stopped}
use Rattle.engine_core.specs.declared.style.Style.{Style}
use Rattle.engine_core.specs.EventsText.{FaultText}
use Rattle.engine_core.specs.Input.{Faults, GaveThen, Input, IsRead, Reader}
use Rattle.engine_core.specs.RunOver.{LeavesSo, stopped_at}
use Rattle.engine_core.proofs.InputRuns.{GivenSo, input_run, none_given}
use Rattle.engine_core.proofs.ReadFaults.{Blames, source_failed}
use Rattle.exchange_engines.specs.declared.engines.replay.ReplayManner.{ReplayManner}
use Rattle.exchange_engines.specs.declared.engines.replay.ReplayStop.{ReplayStop}
use Rattle.exchange_engines.specs.declared.engines.replay.ReplayStop.TheVariants as why
use Rattle.words_core.specs.CommandLine.{Asked, import, publish, replay, rewrite}
use Rattle.task_engine.specs.declared.stop.Stop.{Stop}
use Rattle.task_engine.specs.EventTasks.{Ended, Left, OverWrites, Settles, StopsBy, TaskLeaves, TextLeft, Work, allowed_by, ended, left_of, left_over}
use Rattle.task_engine.specs.InputText.{EventsTell, of_stop}

-- what is left so, a task leaves so too
module _ {F : Type 0} (style : Style) (a : Left F) (b : List ℕ → Left F) (first last : Option (List ℕ)) (ending : Ending) (why : Option (ReplayStop F)) (old new : Option (List ℕ))
    (untouched : a.untouched → GivesOctets first last [] × (b []).untouched)
    (text : (fault : Option F) (asked : Asked) (it : Settles asked) → a.text fault asked it → GivenSo first last (λ given. (b given).text fault asked it)) where
  text_left : (manner : ReplayManner) (asked : Asked) → StopsBy (TextLeft manner asked a) why → GivenSo first last (λ given. StopsBy (TextLeft manner asked (b given)) why)
  text_left manner asked l =
      let r = text l.fault asked l.is_left.by l.is_left.is_left in
      (r.0, r.1, record { fault = l.fault; by = l.by; is_left = record { by = l.is_left.by; is = l.is_left.is; is_left = r.2 } })

  task_left : (manner : ReplayManner) (asked : Asked) → TaskLeaves style manner asked a ending why old new → GivenSo first last (λ given. TaskLeaves style manner asked (b given) ending why old new)
  task_left manner (replay blocks) (inl twice) =
      let u = untouched twice.0.untouched in
      ([], u.0, inl (record { position = twice.0.position; is_twice = twice.0.is_twice; untouched = u.1; written = twice.0.written }, twice.1))
  task_left manner (replay blocks) (inr (inl none)) =
      let n = none.0 in
      let u = untouched n.untouched in
      ([], u.0, inr (inl (record { wants_memory = n.wants_memory; are_apart = n.are_apart; are_some = n.are_some; untouched = u.1; none_written = n.none_written }, none.1)))
  task_left manner (replay blocks) (inr (inr ran)) =
      let r = text_left manner (replay blocks) (record { fault = ran.fault; by = ran.by; is_left = ran.is_left }) in
      (r.0, r.1, inr (inr (record { are_apart = ran.are_apart; fault = r.2.fault; by = r.2.by; is_left = r.2.is_left })))
  task_left manner asked l = text_left manner asked l

-- what follows where a text is left, and where nothing was read
module _ {F : Type 0} {P : Type 0} (style : Style) (left : Left F) (ending : Ending) (why : Option (ReplayStop F)) (old new : Option (List ℕ))
    (text : (fault : Option F) (asked : Asked) (it : Settles asked) → left.text fault asked it → P) (untouched : left.untouched → (ending ≡ ReadFault → ⊥) → P) where
  pub task_any : (manner : ReplayManner) (asked : Asked) → TaskLeaves style manner asked left ending why old new → P
  task_any manner (replay blocks) (inl twice) = untouched twice.0.untouched (λ e. elim twice.0.written [
    | inl (inl w) ↦ let is = w.0 in cc
    | inl (inr w) ↦ let is = w.0 in cc
    | inr w ↦ let is = w.0 in cc
  ])
  task_any manner (replay blocks) (inr (inl none)) = untouched none.0.untouched (λ e. let is = none.0.wants_memory in cc)
  task_any manner (replay blocks) (inr (inr ran)) = text ran.fault (replay blocks) ran.is_left.by ran.is_left.is_left
  task_any manner asked l = text l.fault asked l.is_left.by l.is_left.is_left

-- no event is refused
pub none_refused : {C F : Type 0} (style : Style) (last : FaultText F) (asked : Asked) (it : Settles asked) (before : List (ℕ × Event Global)) (e : ℕ × Event Global) (why : C) → (allowed_by {C = C} style last asked it).of_item before e (Err why) → ⊥
none_refused style last rewrite it before e why is = absurd it
none_refused style last publish it before e why is = absurd it
none_refused style last import it before e why is = absurd it
none_refused style last _ it before e why is = is

-- ---- a reader of an input

-- a run over a reader, by the faults of its input
module _ {I C F : Type 0} (reader : Reader I (Event Global) C F) (input : Input (Event Global) C F) (same : reader.faults ≡ input.faults) (left : I → Option (List ℕ)) (source : I → InputEnd) (last : FaultText F) (start : I) (stopped : Stopped I (ReplayStop F)) (old new : Option (List ℕ)) (is : source start ≡ Open)
    (reads : (items : List (ℕ × Event Global)) (answer : AnswerOf (Event Global) F) → GaveThen reader start stopped.reader items answer → GivenSo (left start) (left stopped.reader) (λ given. IsRead input (source stopped.reader) given items answer)) where
  -- a task over it leaves that of the input, and stops for the same
  pub over_input : (style : Style) (work : Work) → OverWrites style work reader last start stopped old new →
      GivenSo (left start) (left stopped.reader) (λ given. TaskLeaves style work.manner work.asked (left_of style input last (ended stopped.ending (source stopped.reader) given old new)) stopped.ending stopped.fault old new)
  over_input style work w =
      task_left style (left_over style reader last start stopped old new) (λ given. left_of style input last (ended stopped.ending (source stopped.reader) given old new)) (left start) (left stopped.reader) stopped.ending stopped.fault old new
      (λ u. (subst (λ x. GivesOctets (left start) (left x) []) (sym u) (none_given (left start)), (subst (λ x. source x ≡ Open) (sym u) is, refl)))
      (λ fault asked it run. input_run reader input left source (allowed_by style last asked it) start (stopped_at stopped.ending fault stopped.reader) old new is reads
      (subst (λ (f : Faults C F). LeavesSo (stopped.reader ≡ start) (GaveThen reader start stopped.reader) f (allowed_by style last asked it) stopped.ending fault old new) same run))
      work.manner work.asked w

-- it ends by a read fault only where the source of its input failed
pub events_failed : {C F : Type 0} (of : F → Stop) (style : Style) (work : Work) (input : Input (Event Global) C F) (last : FaultText F) (end : Ended) (told : Option Stop) → Blames input → EventsTell of style work input last end told → end.ending ≡ ReadFault → end.source ≡ Failed
events_failed of style work input last end told blames t = task_any style (left_of style input last end) end.ending t.0 end.old end.new
    (λ fault asked it run. source_failed input (allowed_by style last asked it) end.ending fault end.source end.read end.old end.new blames (λ before e why no. absurd (none_refused style last asked it before e why no)) run)
    (λ u no e. absurd (no e)) work.manner work.asked t.1

-- the fault of the input of a run that stops by nothing else is told
pub input_told : {F : Type 0} (of : F → Stop) (fault : Option F) → option_map (of_stop of) (option_map why.Input fault) ≡ option_map of fault
input_told of None = refl
input_told of (Some f) = refl

-- What a task over a reader of events reads, and so leaves of what the reader looks at, and hands out beside.
use Rattle.std.proofs.Common.{Option, Some, None, Ok, Err, Result, ◌≡◌, ℕ, Bool, List, inl, inr, sym, refl, subst}
use Rattle.std.specs.Prelude.{option_map}
use Rattle.std.specs.Global.{Global}
use Rattle.list_core.specs.declared.device.InputEnd.TheVariants.{Failed}
use Rattle.list_core.specs.declared.event.Event.{Event}
use Rattle.list_core.specs.ReadItems.{AnswerOf}
use Rattle.engine_core.specs.declared.ending.Ending.{Ending}
use Rattle.engine_core.specs.declared.ending.Ending.TheVariants.{ReadFault}
use Rattle.engine_core.specs.declared.stopped.Halt.{Halt}
use Rattle.engine_core.specs.declared.stopped.Halt.TheVariants as halt
use Rattle.engine_core.specs.declared.stopped.Stopped.{Stopped}
use Rattle.engine_core.specs.declared.style.Style.{Style}
use Rattle.engine_core.specs.EngineText.{Allowed}
use Rattle.engine_core.specs.EventsText.{FaultText}
use Rattle.engine_core.specs.Input.{Faults, Reader}
use Rattle.engine_core.specs.RunOver.{IsDue, Run, RunsOver, Stops, WantsFor, ending_by_halt, step_fault, stopped_at}
use Rattle.engine_core.proofs.InputRuns.{GivenSo}
use Rattle.exchange_engines.specs.declared.engines.replay.ReplayStop.{ReplayStop}
use Rattle.words_core.specs.CommandLine.{Asked}
use Rattle.task_engine.specs.declared.stop.Stop.{Stop}
use Rattle.task_engine.specs.EventReader.{InputState, LeftOrReads, Look, LooksFrom, TellsStop}
use Rattle.task_engine.specs.EventTasks.{OverWrites, Settles, Work, allowed_by, ended, left_over}
use Rattle.task_engine.specs.HandedOut.{ReadsAll}
use Rattle.task_engine.specs.InputText.{EventsTell, of_stop}
use Rattle.task_engine.proofs.EventTaskLemmas.{events_failed, none_refused, over_input, task_any}

module _ {X C F : Type 0} (faults : Faults C F) (t : Allowed X C F) (none : (before : List (ℕ × X)) (e : ℕ × X) (why : C) → t.of_item before e (Err why) → ⊥) where
  -- the text that a fault closes is the last one of the input, where no item is refused
  closed : (items : List (ℕ × X)) (answer : AnswerOf X F) (text : List ℕ) (f : F) → IsDue faults.refused t items answer text (Some f) → TellsStop answer
  closed items (Ok (Some e)) text f due = by due.written due.is_allowed due.has_fault
    where
      by : (written : Result (List ℕ × Bool) C) → t.of_item items e written → Some f ≡ step_fault faults.refused e.0 written → ⊥
      by (Ok w) is h = cc
      by (Err why) is h = none items e why is
  closed items (Ok None) text f due = tt
  closed items (Err (Some g)) text f due = tt
  closed items (Err None) text f due = due

  halted : (items : List (ℕ × X)) (answer : AnswerOf X F) (h : Halt F) (held new : Option (List ℕ)) → Stops (WantsFor faults.refused t items answer) (IsDue faults.refused t items answer) h held new → ReadsAll (ending_by_halt faults.failed h) → TellsStop answer
  halted items answer (halt.Fault f) held new s r = closed items answer s.0 f s.1
  halted items answer halt.WriteFault held new s r = absurd r
  halted items answer halt.Memory held new s r = absurd r

  -- the last answer of a run tells how the input stops, if all was read
  ran_all : {IsReadSo : List (ℕ × X) → AnswerOf X F → Type 0} (ending : Ending) (fault : Option F) (old new : Option (List ℕ)) (run : Run IsReadSo faults t ending fault old new) → ReadsAll ending → TellsStop run.answer
  ran_all ending fault old new run = elim run.ends [
    | inr (inl e) ↦ λ r. subst (λ (a : AnswerOf X F). TellsStop a) (sym e.ended) tt
    | inl e ↦ λ r. halted run.items run.answer e.halt run.held new e.stops (subst ReadsAll e.has_ending r)
    | inr (inr e) ↦ λ r. subst (λ (a : AnswerOf X F). TellsStop a) (sym e.ended) tt
  ]

module _ {I C F : Type 0} (reader : Reader I (Event Global) C F) (last : FaultText F) (start : I) (stopped : Stopped I (ReplayStop F)) (style : Style) (old new : Option (List ℕ)) where
  abbrev Either : Type 0
  Either = LeftOrReads reader start stopped.reader stopped.ending

  reads_by : (fault : Option F) (asked : Asked) (it : Settles asked) → RunsOver reader (allowed_by style last asked it) start (stopped_at stopped.ending fault stopped.reader) old new → Either
  reads_by fault asked it (inl w) = inl w.untouched
  reads_by fault asked it (inr run) = inr (record { items = run.items; answer = run.answer; gave = run.read; all = ran_all reader.faults (allowed_by style last asked it) (none_refused style last asked it) stopped.ending fault old new run })

  -- a task leaves its reader untouched, or reads
  pub reads : (work : Work) → OverWrites style work reader last start stopped old new → Either
  reads work w = task_any style (left_over style reader last start stopped old new) stopped.ending stopped.fault old new reads_by (λ u e. inl u) work.manner work.asked w

-- ---- a reader of which it is known what it looks at

module _ {I C F : Type 0} (reader : Reader I (Event Global) C F) (look : Look C F) (state : I → InputState) (start : I) (looks : LooksFrom reader look state start) (of : F → Stop) (last : FaultText F) (style : Style) (work : Work)
    (stopped : Stopped I (ReplayStop F)) (old new : Option (List ℕ)) (w : OverWrites style work reader last start stopped old new) where
  -- a task over it leaves that of its input, and stops for the same; it ends by a read fault only where the source failed; and what is kept of frames passed over, and of packets that were not captured on Ethernet, is what is handed out
  pub record OverLook : Type 0 where
    pub text : GivenSo (state start).left (state stopped.reader).left (λ given. EventsTell of style work look.input last (ended stopped.ending (state stopped.reader).source given old new) (option_map (of_stop of) stopped.fault))
    pub failed : stopped.ending ≡ ReadFault → (state stopped.reader).source ≡ Failed
    pub passes : look.passes stopped.ending (state stopped.reader).source (state start).left (state stopped.reader).left (state stopped.reader).passed
    pub links : look.links stopped.ending (state stopped.reader).source (state start).left (state stopped.reader).left (state stopped.reader).links

  pub over_look : OverLook
  over_look =
      let r = over_input reader look.input looks.faults (λ s. (state s).left) (λ s. (state s).source) last start stopped old new looks.is_open
      (λ items answer gave. looks.reads stopped.reader items answer gave) style work w in
      let either = reads reader last start stopped style old new work w in
      record {
        text = (r.0, r.1, (stopped.fault, r.2, refl));
        failed = events_failed of style work look.input last (ended stopped.ending (state stopped.reader).source r.0 old new) (option_map (of_stop of) stopped.fault) looks.blames (stopped.fault, r.2, refl);
        passes = looks.passes stopped.reader stopped.ending either;
        links = looks.links stopped.reader stopped.ending either;
      }

-- A replay over a fresh reader of a list, in lines of text, is one of the list.
use Rattle.std.proofs.Common.{Option, ◌≡◌, ℕ, false, List, [], ◌∷◌, ◌++◌, length, inl, inr, sym, refl, subst}
use Rattle.list_core.specs.declared.device.InputEnd.{InputEnd}
use Rattle.list_core.specs.declared.device.InputEnd.TheVariants.{Failed, Open}
use Rattle.list_core.specs.declared.event_lines.EventLines.{EventLines}
use Rattle.list_core.specs.declared.event_lines.EventLines.TheVariants.{First}
use Rattle.list_core.specs.declared.line_rules.ItemFault.{ItemFault}
use Rattle.list_core.specs.declared.list_fault.ListCause.{ListCause}
use Rattle.list_core.specs.Device.{GivesOctets}
use Rattle.list_core.specs.EventLine.{event_rules}
use Rattle.list_core.specs.ItemReader.{ReaderState}
use Rattle.list_core.specs.ListReader.{list_fault_of}
use Rattle.text_core.specs.LineText.{list_fault_line}
use Rattle.object_core.specs.declared.counted.Form.TheVariants as forms
use Rattle.block_core.specs.declared.block.Block.{Block}
use Rattle.subscribe_core.specs.declared.entry.Entry.{Entry}
use Rattle.subscribe_core.specs.Entries.{AreEntriesAt}
use Rattle.engine_core.specs.declared.ending.Ending.{Ending}
use Rattle.engine_core.specs.declared.ending.Ending.TheVariants.{ReadFault}
use Rattle.engine_core.specs.declared.stopped.Stopped.{Stopped}
use Rattle.engine_core.specs.declared.style.Style.TheVariants.{Lines}
use Rattle.engine_core.specs.EventsText.{EventText, fault_text, over_events}
use Rattle.engine_core.specs.RunOver.{stopped_at}
use Rattle.engine_core.proofs.EventSteps.{exactly_over}
use Rattle.engine_core.proofs.InputRuns.{GivenSo, none_given}
use Rattle.engine_core.proofs.ListRuns.{list_reader}
use Rattle.engine_core.proofs.ListedRuns.{IsFresh, listed, listed_failed}
use Rattle.exchange_engines.specs.declared.engines.replay.ReplayStop.{ReplayStop}
use Rattle.exchange_engines.specs.EntryText.{entry_lines}
use Rattle.exchange_engines.specs.ReplayText.{AreSaid, AreTold, IsReplayText, ReplayWritesTo, ReplaysOver, Says, events_of, plainly}
use Rattle.exchange_engines.specs.computed.ReplayStep.{replay_says, replay_text}
use Rattle.exchange_engines.proofs.ReplayLemmas.{replay_said}

-- the lines of these entries, as a text of events
abbrev pub lines_of : {A : Type 0} → Says A → EventText A
lines_of says before e = (entry_lines e.0 (says before e), false)

-- over a list they are its text
pub lines_are : {A : Type 0} (blocks : List (Block A)) (says : Says A) → AreSaid blocks says → IsReplayText blocks (over_events (lines_of says) (λ f. list_fault_line (list_fault_of f)))
lines_are blocks says is = record { first = refl; each_item = λ before e. record { entries = says before e; are_entries = is before e; lines = refl }; last = λ f. refl }

pub replay_is : {A : Type 0} (blocks : List (Block A)) → IsReplayText blocks (replay_text blocks)
replay_is blocks = lines_are blocks (replay_says false blocks) (replay_said false blocks)

-- what is told plainly are all entries
pub plainly_said : {A : Type 0} (blocks : List (Block A)) (says : Says A) → AreTold plainly blocks says → AreSaid blocks says
plainly_said blocks says is = λ before e. subst (λ (es : List (Entry _)). AreEntriesAt blocks (events_of before ++ e.1 ∷ []) (length (events_of before)) es) (sym (is.told before e)) (is.are_said before e)

module _ {A I : Type 0} (state : I → ReaderState EventLines) (number : I → ℕ) (blocks : List (Block A)) (object : ItemFault ListCause → List ℕ) (start : I) (stopped : Stopped I (ReplayStop (ItemFault ListCause))) (old new : Option (List ℕ)) (fresh : IsFresh First (state start)) where
  -- nothing was read
  unread : stopped.reader ≡ start → GivesOctets (state start).left (state stopped.reader).left [] × ((state stopped.reader).ending ≡ Open)
  unread same = (subst (λ (x : I). GivesOctets (state start).left (state x).left []) (sym same) (none_given (state start).left), subst (λ (x : I). (state x).ending ≡ Open) (sym same) fresh.is_open)

  pub replay_listed : ReplaysOver (Lines forms.Text) plainly blocks (list_reader event_rules state number) (fault_text (λ f. list_fault_line (list_fault_of f)) object) start stopped old new →
      GivenSo (state start).left (state stopped.reader).left (λ given. ReplayWritesTo blocks stopped.ending stopped.fault (state stopped.reader).ending given old new)
  replay_listed (inl twice) =
      let u = unread twice.0.untouched in
      ([], u.0, inl (record { position = twice.0.position; is_twice = twice.0.is_twice; untouched = (u.1, refl); written = twice.0.written }, twice.1))
  replay_listed (inr (inl none)) =
      let n = none.0 in
      let u = unread n.untouched in
      ([], u.0, inr (inl (record { wants_memory = n.wants_memory; are_apart = n.are_apart; are_some = n.are_some; untouched = (u.1, refl); none_written = n.none_written }, none.1)))
  replay_listed (inr (inr ran)) =
      let k = ran.is_left in
      let t = over_events (lines_of k.by) (λ f. list_fault_line (list_fault_of f)) in
      let r = listed event_rules First state number _ t (exactly_over (lines_of k.by) _) start (stopped_at stopped.ending ran.fault stopped.reader) old new fresh k.is_left in
      (r.0, r.1, inr (inr (record { are_apart = ran.are_apart; fault = ran.fault; by = ran.by; is_left = record { by = t; is = lines_are blocks k.by (plainly_said blocks k.by k.is); is_left = r.2 } })))

-- a replay of a list ends by a read fault only where its source failed
pub replay_failed : {A : Type 0} (blocks : List (Block A)) (ending : Ending) (why : Option (ReplayStop (ItemFault ListCause))) (z : InputEnd) (read : List ℕ) (old new : Option (List ℕ)) → ReplayWritesTo blocks ending why z read old new → ending ≡ ReadFault → z ≡ Failed
replay_failed blocks ending why z read old new (inl twice) e = elim twice.0.written [
  | inl (inl w) ↦ let is = w.0 in cc
  | inl (inr w) ↦ let is = w.0 in cc
  | inr w ↦ let is = w.0 in cc
]
replay_failed blocks ending why z read old new (inr (inl none)) e = let is = none.0.wants_memory in cc
replay_failed blocks ending why z read old new (inr (inr ran)) e = listed_failed event_rules First ran.is_left.by ending ran.fault z read old new ran.is_left.is_left e

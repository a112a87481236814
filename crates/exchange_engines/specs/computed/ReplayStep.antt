-- The text of `replay` as it is computed: by what a subscriber keeps after the events before.
use Rattle.std.specs.Prelude.{◌≡◌, ◌<◌, ℕ, Bool, List, [], ◌∷◌, true, false}
use Rattle.list_core.specs.declared.event.Event.{Event}
use Rattle.list_core.specs.declared.list_fault.ListCause.{ListCause}
use Rattle.list_core.specs.ListReader.{list_fault_of}
use Rattle.block_core.specs.declared.block.Block.{Block}
use Rattle.subscribe_core.specs.computed.Content.{reading_of}
use Rattle.subscribe_core.specs.State.{State, fresh_state}
use Rattle.subscribe_core.specs.computed.Steps.{step_entries, step_state}
use Rattle.engine_core.specs.EngineText.{Text}
use Rattle.engine_core.specs.EventsText.{EventAllows, EventText, over_events}
use Rattle.subscribe_core.specs.declared.entry.Entry.{Entry}
use Rattle.object_core.specs.declared.counted.Form.{Form}
use Rattle.object_core.specs.declared.counted.Form.TheVariants as forms
use Rattle.exchange_engines.specs.EntryObject.{AreEntryObjects}
use Rattle.exchange_engines.specs.EntryText.{entry_lines}
use Rattle.text_core.specs.LineText.{list_fault_line}
use Rattle.exchange_engines.specs.declared.engines.replay.ReplayManner.{ReplayManner}
use Rattle.exchange_engines.specs.ReplayText.{Says, entries_in, events_of, opening, told_of}

-- what is kept after these events
abbrev pub state_after_list : {A : Type 0} → State A → List (Event A) → State A
state_after_list s [] = s
state_after_list s (e ∷ es) = state_after_list (step_state s (reading_of e)) es

-- what a subscriber of these blocks keeps after what a manner opens with and these items
abbrev pub kept_after : {A : Type 0} → Bool → List (Block A) → List (ℕ × Event A) → State A
kept_after simulates blocks items = state_after_list (state_after_list (fresh_state blocks) (opening simulates)) (events_of items)

-- the entries of an event
abbrev pub replay_says : {A : Type 0} → Bool → List (Block A) → Says A
replay_says simulates blocks before e = step_entries (kept_after simulates blocks before) (reading_of e.1)

-- those that are told
abbrev pub replay_tells : {A : Type 0} → ReplayManner → List (Block A) → Says A
replay_tells manner blocks before e = told_of manner.changes_alone (replay_says manner.simulates blocks before e)

-- what may be written of an event in a form
abbrev pub replay_allows : {A : Type 0} → ReplayManner → List (Block A) → Form → EventAllows A
replay_allows manner blocks form = entries_in blocks (replay_tells manner blocks) form

-- what a subscriber and the room for its entries keep after these items, in a manner: where changes alone are told there is room for an entry
pub record ReplayStands {A : Type 0} (manner : ReplayManner) (s : State A) (room : ℕ) (items : List (ℕ × Event A)) : Type 0 where
  pub state : s ≡ kept_after manner.simulates s.blocks items
  pub has_room : manner.changes_alone ≡ true → 0 < room

-- a text of these entries in a form
abbrev pub IsSaid : {A : Type 0} → Form → ℕ → ℕ → List (Block A) → List (Entry A) → List ℕ → Type 0
IsSaid forms.Text n moment blocks entries text = text ≡ entry_lines n entries
IsSaid (forms.Object counted) n moment blocks entries text = AreEntryObjects counted blocks n moment entries text

-- what is written of an event
abbrev pub replay_event : {A : Type 0} → List (Block A) → EventText A
replay_event blocks before e = (entry_lines e.0 (replay_says false blocks before e), false)

-- the text over a list
abbrev pub replay_text : {A : Type 0} → List (Block A) → Text (Event A) ListCause
replay_text blocks = over_events (replay_event blocks) (λ f. list_fault_line (list_fault_of f))

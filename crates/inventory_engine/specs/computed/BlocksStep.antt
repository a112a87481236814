-- The text of `blocks` as it is computed: by the newest text of each key.
use Rattle.std.specs.Prelude.{◌≡◌, ℕ, List, [], ◌∷◌, ◌++◌, reverse, false, Option}
use Rattle.std.specs.List.{concat}
use Rattle.list_core.specs.declared.event.Event.{Event}
use Rattle.list_core.specs.declared.list_fault.ListCause.{ListCause}
use Rattle.list_core.specs.ListReader.{list_fault_of}
use Rattle.engine_core.specs.EngineText.{Text}
use Rattle.engine_core.specs.EventsText.{EventText, over_events}
use Rattle.text_core.specs.LineText.{list_fault_line}
use Rattle.object_core.specs.declared.counted.Form.{Form}
use Rattle.object_core.specs.declared.counted.Form.TheVariants.{Text as Lines}
use Rattle.object_core.specs.declared.counted.Heading.{Heading}
use Rattle.known_core.specs.computed.Held.{IsCompact, held}
use Rattle.inventory_engine.specs.Sightings.{Key, Sighting, key_of, sightings_in, sightings_of}
use Rattle.inventory_engine.specs.BlocksText.{Telling, line_after, telling}
use Rattle.inventory_engine.specs.computed.KnownTexts.{InOrder, Inventory, known_key, known_text, text_by}

-- the text of a sighting
abbrev pub text_seen : Sighting → List ℕ
text_seen s = s.text

-- the text of the newest sighting with this key
abbrev pub newest : List Sighting → Key → Option (List ℕ)
newest seen key = text_by key_of text_seen (reverse seen) key

-- what is written of each of some sightings behind earlier ones
abbrev pub lines_by : Telling → List Sighting → List Sighting → List (List ℕ)
lines_by t earlier [] = []
lines_by t earlier (s ∷ seen) = line_after t s (newest earlier (key_of s)) ∷ lines_by t (earlier ++ s ∷ []) seen

-- what is written of them
abbrev pub written_of : Telling → List Sighting → List Sighting → List ℕ
written_of t earlier seen = concat (lines_by t earlier seen)

-- how sightings are told under a heading
abbrev pub telling_at : Heading → Telling
telling_at h = telling h.form h.number h.moment

-- what is written of an event in a form as it is computed
abbrev pub blocks_event : {A : Type 0} → Form → EventText A
blocks_event form before e = (written_of (telling form e.0 e.1.moment) (sightings_in before) (sightings_of e.1.kind), false)

-- the text over a list
abbrev pub blocks_text : {A : Type 0} → Text (Event A) ListCause
blocks_text = over_events (blocks_event Lines) (λ f. list_fault_line (list_fault_of f))

-- what is told of a sighting is not empty
pub record Tells (how : Telling) : Type 0 where
  pub of_first : (s : Sighting) → how.of_first s ≡ [] → ⊥
  pub of_changed : (s : Sighting) → how.of_changed s ≡ [] → ⊥

-- what is held is the newest text of each key
pub record Keeps {A : Type 0} (known : Inventory A) (seen : List Sighting) : Type 0 where
  pub runs : IsCompact known
  pub order : InOrder (held known)
  pub same : (key : Key) → text_by known_key known_text (held known) key ≡ newest seen key

-- what is written of sightings was appended, and what they show is held
abbrev pub AppendsLines : {A : Type 0} → Telling → List Sighting → Inventory A → Inventory A → List ℕ → List ℕ → Type 0
AppendsLines t seen known after old new = (earlier : List Sighting) → Keeps known earlier → (new ≡ old ++ written_of t earlier seen) × Keeps after (earlier ++ seen)

-- there is something to write of sightings
abbrev pub HasLines : {A : Type 0} → Telling → List Sighting → Inventory A → Type 0
HasLines t seen known = (earlier : List Sighting) → Keeps known earlier → written_of t earlier seen ≡ [] → ⊥

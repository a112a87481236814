-- The text of `watch` as it is computed: by the last count before.
use Rattle.std.specs.Prelude.{◌≡◌, ℕ, List, [], ◌∷◌, ◌++◌, Bool, Option, None}
use Rattle.std.specs.List.{list_any}
use Rattle.list_core.specs.declared.event.Event.{Event}
use Rattle.list_core.specs.declared.list_fault.ListCause.{ListCause}
use Rattle.list_core.specs.ListReader.{list_fault_of}
use Rattle.subscribe_core.specs.Watch.{seen_after}
use Rattle.subscribe_core.specs.computed.WatchAnswers.{last_by, seen_all}
use Rattle.engine_core.specs.EngineText.{Text}
use Rattle.engine_core.specs.EventsText.{EventText, over_events}
use Rattle.text_core.specs.LineText.{list_fault_line}
use Rattle.ber_core.specs.declared.fault.Fault.{Fault}
use Rattle.subscribe_core.specs.declared.watch.Seen.{Seen}
use Rattle.object_core.specs.declared.counted.Form.{Form}
use Rattle.object_core.specs.declared.counted.Form.TheVariants.{Text as Lines}
use Rattle.object_core.specs.declared.counted.Heading.{Heading}
use Rattle.exchange_engines.specs.SampleLine.{Sample}
use Rattle.exchange_engines.specs.WatchText.{Telling, counts, counts_of, is_unexpected, sample_lines, samples_of, telling, watched}

-- the last count after these
abbrev pub last_of : ℕ → Option ℕ → List ℕ → Option ℕ
last_of period last [] = last
last_of period last (c ∷ cs) = last_of period (last_by last c (seen_after period last c)) cs

-- how samples and faults are told under a heading
abbrev pub telling_at : Heading → Telling
telling_at h = telling h.form h.number h.moment

-- what is told is not empty
pub record Tells (how : Telling) : Type 0 where
  pub of_sample : (s : Sample) (answer : Seen) → how.of_sample s answer ≡ [] → ⊥
  pub of_fault : (f : Fault) → how.of_fault f ≡ [] → ⊥

-- what is written of an event in a form
abbrev pub watch_event : {A : Type 0} → Form → ℕ → List ℕ → EventText A
watch_event form period id before e = watched (telling form e.0 e.1.moment) id e.1.kind (seen_all period (last_of period None (counts_of id before)) (counts (samples_of id e.1.kind)))

-- the text over a list
abbrev pub watch_text : {A : Type 0} → ℕ → List ℕ → Text (Event A) ListCause
watch_text period id = over_events (watch_event Lines period id) (λ f. list_fault_line (list_fault_of f))

-- the lines of samples were appended, it is known whether one is unexpected, and the last count is kept
abbrev pub SamplesAppended : ℕ → Telling → Option ℕ → List Sample → List ℕ → List ℕ → Bool → Option ℕ → Type 0
SamplesAppended period t last samples old new found after =
    (new ≡ old ++ sample_lines t samples (seen_all period last (counts samples)))
    × (found ≡ list_any is_unexpected (seen_all period last (counts samples)))
    × (after ≡ last_of period last (counts samples))

-- The text of `blocks`: which control blocks and streams the frames of a list show, and where the configuration of one changes.
use Rattle.std.specs.Prelude.{◌≡◌, ℕ, ◌<◌, List, [], ◌++◌, length, take, slice_get, Bool, false, Option, Some, None, Result, Ok, codes, if◌then◌else◌}
use Rattle.std.specs.List.{concat}
use Rattle.std.specs.Str.{bytes_eq}
use Rattle.std.specs.Fmt.{decimal}
use Rattle.list_core.specs.declared.event.Event.{Event}
use Rattle.list_core.specs.declared.line_rules.ItemFault.{ItemFault}
use Rattle.list_core.specs.declared.list_fault.ListCause.{ListCause}
use Rattle.list_core.specs.ListReader.{list_fault_of}
use Rattle.engine_core.specs.EngineText.{Text}
use Rattle.engine_core.specs.EventsText.{EventText}
use Rattle.text_core.specs.LineText.{list_fault_line}
use Rattle.object_core.specs.declared.counted.Form.{Form}
use Rattle.object_core.specs.declared.counted.Form.TheVariants.{Text as Lines, Object}
use Rattle.object_core.specs.Objects.{Field}
use Rattle.inventory_engine.specs.SightingObject.{sighting_object}
use Rattle.inventory_engine.specs.Sightings.{Key, Sighting, key_of, sightings_in, sightings_of}

-- at this position stands a sighting with this key
pub record HasKeyAt (seen : List Sighting) (key : Key) (i : ℕ) : Type 0 where
  pub sighting : Sighting
  pub there : slice_get seen i ≡ Some sighting
  pub has_key : key_of sighting ≡ key

-- a sighting with this key has this text, and none with the key comes after it
pub record IsNewestText (seen : List Sighting) (key : Key) (text : List ℕ) : Type 0 where
  pub position : ℕ
  pub is : HasKeyAt seen key position
  pub has_text : is.sighting.text ≡ text
  pub none_after : (j : ℕ) → position < j → ¬ HasKeyAt seen key j

-- the text of the newest of some sightings with this key; or there is none
abbrev pub IsNewest : List Sighting → Key → Option (List ℕ) → Type 0
IsNewest seen key None = (i : ℕ) → ¬ HasKeyAt seen key i
IsNewest seen key (Some text) = IsNewestText seen key text

-- the kind of what was not seen before
abbrev pub first_kind : Option ℕ → List ℕ
first_kind (Some app_id) = codes "block"
first_kind None = codes "stream"

-- the kind of one whose configuration changes
abbrev pub changed_kind : Option ℕ → List ℕ
changed_kind (Some app_id) = codes "block-changed"
changed_kind None = codes "stream-changed"

-- a kind as a word of a line
abbrev pub spaced_word : List ℕ → List ℕ
spaced_word kind = codes " " ++ kind ++ codes " "

-- the number of the line, a word, and the text
abbrev pub sighting_line : ℕ → List ℕ → List ℕ → List ℕ
sighting_line n word text = decimal n ++ word ++ text ++ codes "\n"

-- how a sighting is told, as the first one with its key or as one whose configuration changes
pub record Telling : Type 0 where
  pub of_first : Sighting → List ℕ
  pub of_changed : Sighting → List ℕ

-- a text or fields of this kind at a line and a moment: a line, or an object
abbrev pub told_by : Form → ℕ → ℕ → List ℕ → List ℕ → List Field → List ℕ
told_by Lines n moment kind text fields = sighting_line n (spaced_word kind) text
told_by (Object counted) n moment kind text fields = sighting_object counted n moment kind fields

-- how sightings at a line and a moment are told
abbrev pub telling : Form → ℕ → ℕ → Telling
telling form n moment = record { of_first = λ s. told_by form n moment (first_kind s.app_id) s.text s.fields; of_changed = λ s. told_by form n moment (changed_kind s.app_id) s.text s.fields }

-- by lines
abbrev pub in_lines : ℕ → Telling
in_lines n = telling Lines n 0

-- what is written of a sighting, by the newest earlier one with its key
abbrev pub line_after : Telling → Sighting → Option (List ℕ) → List ℕ
line_after t s None = t.of_first s
line_after t s (Some newest) = if bytes_eq newest s.text then [] else t.of_changed s

-- what is written of a sighting after others: by the newest of them with its key
pub record IsLineAfter (t : Telling) (others : List Sighting) (s : Sighting) (line : List ℕ) : Type 0 where
  pub newest : Option (List ℕ)
  pub is_newest : IsNewest others (key_of s) newest
  pub is_line : line ≡ line_after t s newest

-- what is written of sightings behind earlier ones: of each by those before it
pub record AreLines (t : Telling) (earlier seen : List Sighting) (lines : List (List ℕ)) : Type 0 where
  pub sizes : length lines ≡ length seen
  pub each : (i : ℕ) (s : Sighting) (line : List ℕ) → slice_get seen i ≡ Some s → slice_get lines i ≡ Some line → IsLineAfter t (earlier ++ take i seen) s line

-- What is written of an event after others: what it shows is told so, after all that the events before it show. No event is a finding.
pub record ShowsEvent {A : Type 0} (t : Telling) (before : List (ℕ × Event A)) (e : ℕ × Event A) (written : Result (List ℕ × Bool) ListCause) : Type 0 where
  pub lines : List (List ℕ)
  pub are_lines : AreLines t (sightings_in before) (sightings_of e.1.kind) lines
  pub text : written ≡ Ok (concat lines, false)

-- what is written in a form of events, whatever input they come from: of each what it shows
abbrev pub IsBlocksIn : {A : Type 0} → Form → EventText A → Type 0
IsBlocksIn {A} form text = (before : List (ℕ × Event A)) (e : ℕ × Event A) → ShowsEvent (telling form e.0 e.1.moment) before e (Ok (text before e))

-- so are texts for each form
abbrev pub AreBlocksTexts : {A : Type 0} → (Form → EventText A) → Type 0
AreBlocksTexts {A} texts = (form : Form) → IsBlocksIn {A = A} form (texts form)

-- what `blocks` writes: of each event the lines of what it shows
pub record IsBlocksText {A : Type 0} (t : Text (Event A) ListCause) : Type 0 where
  pub first : t.first ≡ []
  pub each_item : (before : List (ℕ × Event A)) (e : ℕ × Event A) → ShowsEvent (in_lines e.0) before e (t.of_item before e)
  pub last : (f : ItemFault ListCause) → t.last f ≡ list_fault_line (list_fault_of f)

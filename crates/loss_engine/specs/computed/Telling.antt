-- What one event makes `losses` write and keep.
use Rattle.std.specs.Prelude.{◌≡◌, ◌⊎◌, ◌||◌, ℕ, Bool, true, is_some, List, [], ◌++◌, Option}
use Rattle.std.specs.List.{list_any}
use Rattle.list_core.specs.declared.event.Event.{Event}
use Rattle.object_core.specs.declared.counted.Heading.{Heading}
use Rattle.engine_core.specs.declared.style.Style.{Style}
use Rattle.loss_core.specs.Findings.{has_loss}
use Rattle.loss_core.specs.Periods.{Period}
use Rattle.loss_engine.specs.LossText.{back_lines, sight_lines}
use Rattle.loss_engine.specs.Sights.{Sight}
use Rattle.loss_engine.specs.computed.Tracking.{Kept, Tracked, findings_all, keep, piece_by, shows_new, sights_by, track_all}

-- what sights tell under a heading, where this is tracked before them
abbrev pub sights_text : Heading → List Period → List Tracked → List Sight → List ℕ
sights_text h periods xs seen = sight_lines h.form h.number h.moment seen (findings_all periods xs seen)

-- what sights tell was appended, it was answered whether one is a loss, and they are kept
pub record TellsSights (h : Heading) (periods : List Period) (before : Kept) (seen : List Sight) (old : List ℕ) (found : Bool) (new : List ℕ) (after : Kept) : Type 0 where
  pub text : new ≡ old ++ sights_text h periods before.tracked seen
  pub finds : found ≡ list_any has_loss (findings_all periods before.tracked seen)
  pub keeps : after ≡ record before { tracked = track_all periods before.tracked seen }

-- memory is wanted for a sender or a stream that is new, or for what sights tell
abbrev pub WantsFor : Heading → List Period → Kept → List Sight → Type 0
WantsFor h periods before seen = (shows_new before.tracked seen ≡ true) ⊎ (sights_text h periods before.tracked seen ≡ [] → ⊥)

-- what an event tells under a heading: that time goes back by so much, where it does, and what its sights tell
abbrev pub event_lines : Heading → Option ℕ → List Period → List Tracked → List Sight → List ℕ
event_lines h back periods xs seen = back_lines h.form h.number h.moment back ++ sights_text h periods xs seen

-- that was appended, it was answered whether it is a finding, and the sights are kept
pub record TellsAll (h : Heading) (back : Option ℕ) (periods : List Period) (before : Kept) (seen : List Sight) (old : List ℕ) (found : Bool) (new : List ℕ) (after : Kept) : Type 0 where
  pub text : new ≡ old ++ event_lines h back periods before.tracked seen
  pub finds : found ≡ (is_some back || list_any has_loss (findings_all periods before.tracked seen))
  pub keeps : after ≡ record before { tracked = track_all periods before.tracked seen }

-- memory is wanted for a sender or a stream that is new, or for what an event tells
abbrev pub WantsAll : Heading → Option ℕ → List Period → Kept → List Sight → Type 0
WantsAll h back periods before seen = (shows_new before.tracked seen ≡ true) ⊎ (event_lines h back periods before.tracked seen ≡ [] → ⊥)

-- the piece of an event was appended, it was answered whether that is a finding, and the event is kept
pub record PutsPiece {A : Type 0} (periods : List Period) (style : Style) (before : Kept) (e : ℕ × Event A) (old : List ℕ) (found : Bool) (new : List ℕ) (after : Kept) : Type 0 where
  pub text : new ≡ old ++ (piece_by periods style before e).text
  pub finds : found ≡ (piece_by periods style before e).is_finding
  pub keeps : after ≡ keep periods before e.1

-- memory is wanted for a sender or a stream of an event that is new, or for its piece
abbrev pub WantsPiece : {A : Type 0} → List Period → Style → Kept → ℕ × Event A → Type 0
WantsPiece periods style before e = (shows_new before.tracked (sights_by before e.1) ≡ true) ⊎ ((piece_by periods style before e).text ≡ [] → ⊥)

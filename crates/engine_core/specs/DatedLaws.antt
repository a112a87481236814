-- Laws of lines behind the dates of their events.
use Rattle.std.specs.Prelude.{◌≡◌, ℕ, List, [], ◌∷◌, ◌++◌, All, flat_map}
use Rattle.list_core.specs.declared.event.Event.{Event}
use Rattle.list_core.specs.Cuts.{HasNo, cut_at}
use Rattle.engine_core.specs.declared.style.Style.TheVariants as styles
use Rattle.engine_core.specs.Dated.{dated, without_dates}
use Rattle.engine_core.specs.EngineText.{AreAllowedTexts, ItemText, has_finding, joined_texts}
use Rattle.engine_core.specs.EventsText.{EventText, IsDated, exactly_event, line_in, over_allowed}

-- ---- texts

-- what is written of an event behind its dates is, without them, what is written of it
abbrev pub DatesGoAway : Type 0
DatesGoAway = (moment : ℕ) (text : List ℕ) → without_dates (dated moment text) ≡ text

-- the last part
abbrev pub last_part : List (List ℕ) → List ℕ
last_part [] = []
last_part (part ∷ []) = part
last_part (part ∷ next ∷ others) = last_part (next ∷ others)

-- a text of whole lines: nothing follows its last line feed
abbrev pub IsLines : List ℕ → Type 0
IsLines text = last_part (cut_at 10 text) ≡ []

-- and so are the texts of several events, each of whole lines, in front of other text
abbrev pub DatesGoEach : Type 0
DatesGoEach =
    (texts : List (ℕ × List ℕ)) → All (λ e. IsLines e.1) texts → (rest : List ℕ) →
    without_dates (flat_map (λ e. dated e.0 e.1) texts ++ rest) ≡ flat_map (λ e. e.1) texts ++ without_dates rest

-- a line that no event has is, without its dash, that line
abbrev pub DashGoesAway : Type 0
DashGoesAway = (line object : List ℕ) → HasNo 10 line → without_dates (line_in styles.Dated (line ++ 10 ∷ []) object) ≡ line ++ 10 ∷ []

-- ---- runs

-- what an engine wrote of events behind their dates, and what it writes of them without: the same are findings, and where each
-- text is of whole lines, the first without the dates is the second, in front of other text
pub record HasPlain {A F : Type 0} (C : Type 0) (text : EventText A) (last_line : F → List ℕ) (items : List (ℕ × Event A)) (texts : List ItemText) : Type 0 where
  pub plain : List ItemText
  pub are_texts : AreAllowedTexts (over_allowed {C = C} (exactly_event text) last_line) items plain
  pub finds : has_finding plain ≡ has_finding texts
  pub dates_go : All (λ w. IsLines w.text) plain → (rest : List ℕ) → without_dates (joined_texts texts ++ rest) ≡ joined_texts plain ++ without_dates rest

-- what a run wrote of events with dates is, without them, what it writes of them without
abbrev pub DatedAsPlain : Type 0 → Type 0 → Type 0 → Type 0
DatedAsPlain A C F =
    (text : EventText A) (last_line : F → List ℕ) (items : List (ℕ × Event A)) (texts : List ItemText) →
    AreAllowedTexts (over_allowed {C = C} (IsDated (exactly_event text)) last_line) items texts → HasPlain C text last_line items texts

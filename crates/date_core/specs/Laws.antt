-- Laws of the dates of moments, in the words of the calendar.
use Rattle.std.specs.Prelude.{◌≡◌, ℕ, ◌+◌, ◌*◌, ◌<◌, ◌≤◌, List, Some, None, pos}
use Rattle.jiff_core.specs.Calendar.{IsCivilDate, days_from_civil}
use Rattle.date_core.specs.DateText.{date_text, moment_text}

-- A moment, in microseconds since 1970-01-01T00:00:00Z, is this time, in microseconds after midnight, of this day of the calendar, from the year 1970 on.
pub record IsMomentOf (year month day time moment : ℕ) : Type 0 where
  pub from_1970 : 1970 ≤ year
  pub civil : IsCivilDate (pos year) month day
  pub within_day : time < 86_400_000_000
  -- how many days the day lies behind 1970-01-01
  pub days : ℕ
  pub day_number : days_from_civil (pos year) month day ≡ pos days
  pub distance : moment ≡ days * 86_400_000_000 + time

-- each moment before the year 10000 is a time of a day, and its text is that date's
abbrev pub MomentsHaveDates : Type 0
MomentsHaveDates =
    (moment : ℕ) → moment < 253_402_300_800_000_000 → (year month day time : ℕ) × IsMomentOf year month day time moment × (date_text moment ≡ Some (moment_text year month day time))

-- each time of each day up to the year 9999 is had
abbrev pub DatesAreHad : Type 0
DatesAreHad = (year month day time moment : ℕ) → IsMomentOf year month day time moment → date_text moment ≡ Some (moment_text year month day time)

-- later moments have no date
abbrev pub NoDateLater : Type 0
NoDateLater = (moment : ℕ) → 253_402_300_800_000_000 ≤ moment → date_text moment ≡ None

-- no two moments have one text
abbrev pub OneMomentEach : Type 0
OneMomentEach = (a b : ℕ) (text : List ℕ) → date_text a ≡ Some text → date_text b ≡ Some text → a ≡ b

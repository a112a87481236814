-- Periods of streams as they are given (IEC 61850-9-2): how many samples smpCnt counts before it begins at 0 again.
use Rattle.std.specs.Prelude.{◌≡◌, ℕ, ◌<◌, ◌≤◌, Bool, false, not, is_some, slice_get, List, [], ◌∷◌, Option, Some, None, if◌then◌else◌}
use Rattle.std.specs.Option.{option_map_or, option_or}
use Rattle.std.specs.Str.{bytes_eq}

-- a period that is given: for the streams with this svID, or for all where none is named
pub record Period : Type 0 where
  pub id : Option (List ℕ)
  pub number : ℕ

-- it is given for the streams with an svID
abbrev pub is_own : List ℕ → Period → Bool
is_own id p = option_map_or (λ own. bytes_eq own id) p.id false

-- it is given for all streams
abbrev pub is_plain : Period → Bool
is_plain p = not (is_some p.id)

-- the number of a period that is given so
abbrev pub number_if : (Period → Bool) → Period → Option ℕ
number_if is p = if is p then Some p.number else None

-- the number of the last one that is given so
abbrev pub last_number : (Period → Bool) → List Period → Option ℕ
last_number is [] = None
last_number is (p ∷ periods) = option_or (last_number is periods) (number_if is p)

-- the period of a stream with this svID: the last one that is given for it; else the last one for all streams; else none
abbrev pub period_of : List Period → List ℕ → Option ℕ
period_of periods id = option_or (last_number (is_own id) periods) (last_number is_plain periods)

-- each is from 2 to 65,536: a count of two octets tells no more samples apart
abbrev pub ArePeriods : List Period → Type 0
ArePeriods periods = (i : ℕ) (p : Period) → slice_get periods i ≡ Some p → (2 ≤ p.number) × (p.number ≤ 65536)

-- the period of a stream, where it has one, is at least 1 and at most 65,536
abbrev pub IsPeriodOf : Option ℕ → Type 0
IsPeriodOf period = (n : ℕ) → period ≡ Some n → (0 < n) × (n ≤ 65536)

-- The date of a moment in UTC (RFC 3339, 5.6), by the Gregorian calendar. Each day has 86,400 seconds: leap seconds are not counted (POSIX, seconds since the Epoch).
use Rattle.std.specs.Prelude.{ℕ, zero, suc, ◌+◌, ◌-◌, ◌/◌, ◌%◌, nat_lt, if◌then◌else◌, List, [], ◌∷◌, ◌++◌, codes, Option, Some, None, pos}
use Rattle.jiff_core.specs.Calendar.{days_in_month, days_in_year}

-- a number below 100 in two digits
abbrev pub two_digits : ℕ → List ℕ
two_digits n = (48 + n / 10) ∷ (48 + n % 10) ∷ []

-- one below 10,000 in four
abbrev pub four_digits : ℕ → List ℕ
four_digits n = two_digits (n / 100) ++ two_digits (n % 100)

-- one below 1,000,000 in six
abbrev pub six_digits : ℕ → List ℕ
six_digits n = four_digits (n / 100) ++ two_digits (n % 100)

-- the time of day, so many microseconds after midnight: hours, minutes, seconds and a fraction of six digits
abbrev pub time_text : ℕ → List ℕ
time_text time =
    let seconds = time / 1_000_000 in
    two_digits (seconds / 3600) ++ codes ":" ++ two_digits (seconds / 60 % 60) ++ codes ":" ++ two_digits (seconds % 60) ++ codes "." ++ six_digits (time % 1_000_000)

-- year, month and day, and the time of that day
abbrev pub moment_text : ℕ → ℕ → ℕ → ℕ → List ℕ
moment_text year month day time = four_digits year ++ codes "-" ++ two_digits month ++ codes "-" ++ two_digits day ++ codes "T" ++ time_text time ++ codes "Z"

-- The year of the day that lies so many days behind the first of a year, and how many days of it have passed: each whole year is counted off, one of so many years.
unfoldable pub year_behind : ℕ → ℕ → ℕ → ℕ × ℕ
year_behind zero year days = (year, days)
year_behind (suc more) year days =
    if nat_lt days (days_in_year (pos year)) then (year, days) else year_behind more (year + 1) (days - days_in_year (pos year))

-- the month of that year in which it lies, and how many days of it have passed: likewise of so many months behind this one
unfoldable pub month_behind : ℕ → ℕ → ℕ → ℕ → ℕ × ℕ
month_behind zero year month days = (month, days)
month_behind (suc more) year month days =
    if nat_lt days (days_in_month (pos year) month) then (month, days) else month_behind more year (month + 1) (days - days_in_month (pos year) month)

-- the date that lies so many days behind 1970-01-01, up to the year 9999
abbrev pub date_behind : ℕ → ℕ × ℕ × ℕ
date_behind days =
    let of_year = year_behind 8029 1970 days in
    let of_month = month_behind 11 of_year.0 1 of_year.1 in
    (of_year.0, of_month.0, of_month.1 + 1)

-- The text of the date of a moment in microseconds since 1970-01-01T00:00:00Z. From the year 10000 on there is none.
unfoldable pub date_text : ℕ → Option (List ℕ)
date_text moment =
    if nat_lt moment 253_402_300_800_000_000 then (
    let date = date_behind (moment / 86_400_000_000) in
    Some (moment_text date.0 date.1 date.2 (moment % 86_400_000_000))
    ) else None

-- The year of a date of the calendar's library, from 1970 on.
use Rattle.std.proofs.Common.{◌≡◌, ℕ, ◌+◌, ◌≤◌, arith, refl, ℤ, pos, negsuc, ◌+ℤ◌, ◌≤ℤ◌, unsigned_abs, to_z, of_z}
use Rattle.std.proofs.lemmas.Int.{by_lt_z}
use Rattle.jiff_core.specs.declared.civil.date.Date.{Date}
use Rattle.jiff_core.specs.Calendar.{day_count}
use Rattle.jiff_core.specs.Date.{epoch_day}
use Rattle.jiff_core.proofs.CalendarLemmas.{day_count-epoch, day_count-lt_year, days_from_civil-day_count}
use Rattle.jiff_core.proofs.SignedLemmas.{back_small, signed_arith}
use mir.Syntax.{w16}

-- a date that lies so many days behind 1970-01-01
pub record Shown (date : Date) (days : ℕ) : Type 0 where
  pub year : ℕ
  pub is_year : date.year ≡ pos year
  pub low : 1970 ≤ year
  pub high : year ≤ 9999
  pub count : day_count (pos year) date.month date.day ≡ 4_371_953 + days

count_of : (date : Date) (days : ℕ) → epoch_day date +ℤ pos 4_371_587 ≡ pos (days + 4_371_587) → day_count date.year date.month date.day ≡ 4_371_953 + days
count_of date days e = omega (arith, signed_arith, days_from_civil-day_count date.year date.month date.day)

low_of : (date : Date) (days : ℕ) → day_count date.year date.month date.day ≡ 4_371_953 + days → pos 1970 ≤ℤ date.year
low_of date days e =
    by_lt_z date.year (pos 1970)
    (λ lt. absurd (omega (arith, day_count-epoch, day_count-lt_year date.year date.month date.day (pos 1970) 1 1 (date.year_in, date.month_in, date.day_in) (omega arith) lt)))
    (λ le. le)

of_natural : (z : ℤ) → pos 1970 ≤ℤ z → z ≡ pos (unsigned_abs z)
of_natural (pos n) h = refl
of_natural (negsuc n) h = absurd (omega (arith, signed_arith))

pub shown : (date : Date) (days : ℕ) → epoch_day date +ℤ pos 4_371_587 ≡ pos (days + 4_371_587) → Shown date days
shown date days e =
    let count = count_of date days e in
    let low = low_of date days count in
    let same = of_natural date.year low in
    record {
      year = unsigned_abs date.year;
      is_year = same;
      low = omega (arith, signed_arith);
      high = omega (arith, signed_arith, date.year_in);
      count = rw (← same) count;
    }

-- a year is kept in 16 bits
pub kept_year : (year : ℕ) → year ≤ 9999 → to_z w16 (of_z w16 (pos year)) ≡ pos year
kept_year year h = back_small w16 (pos year) (omega arith)

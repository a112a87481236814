-- Counting off years and months reaches the date that the calendar has.
use Rattle.std.proofs.Common.{◌≡◌, ℕ, zero, suc, ◌+◌, ◌-◌, ◌<◌, ◌≤◌, inl, inr, refl, ap, arith, pos}
use Rattle.std.proofs.lemmas.Bool.{cases_lt, cases_order, lt-ltb, le-ltb}
use Rattle.jiff_core.specs.Calendar.{IsCivilDate, day_count, days_in_month, days_in_year, days_of_months}
use Rattle.jiff_core.proofs.CalendarLemmas.{day_count-day_of_year, day_count-later_year, day_count-next_year, day_count-epoch, day_count-end, days_of_months_all, day_of_year_bound, days_of_months-zero, days_of_months_more, days_of_months_mono}
use Rattle.jiff_core.proofs.SignedLemmas.{signed_arith}
use Rattle.date_core.specs.DateText.{date_behind, month_behind, year_behind}

-- how many days lie before a year
abbrev before_year : ℕ → ℕ
before_year year = day_count (pos year) 1 1

next_year : (year : ℕ) → before_year (year + 1) ≡ before_year year + days_in_year (pos year)
next_year year = day_count-next_year (pos year) (pos (year + 1)) (omega (arith, signed_arith)) (omega (arith, signed_arith))

later_year : (year later : ℕ) → year < later → before_year year + days_in_year (pos year) ≤ before_year later
later_year year later h = day_count-later_year (pos year) (pos later) (omega (arith, signed_arith)) (omega (arith, signed_arith))

year_reached : (more year days y left : ℕ) → year ≤ y → y ≤ more + year → before_year year + days ≡ before_year y + left → left < days_in_year (pos y) → year_behind more year days ≡ (y, left)
unfolding year_behind
year_reached zero year days y left low high e h =
    let same : year ≡ y = omega arith in
    let days_same : days ≡ left = omega (arith, ap before_year same) in
    rw (same, days_same) refl
year_reached (suc more) year days y left low high e h =
    elim (cases_order year y) [
      | inl same ↦
          let days_same : days ≡ left = omega (arith, ap before_year same) in
          rw (same, days_same, lt-ltb left (days_in_year (pos y)) h) refl
      | inr (inl before) ↦
          let passed : days_in_year (pos year) ≤ days = omega (arith, later_year year y before) in
          rw (le-ltb days (days_in_year (pos year)) passed)
          (year_reached more (year + 1) (days - days_in_year (pos year)) y left (omega arith) (omega arith) (omega (arith, next_year year)) h)
      | inr (inr behind) ↦ absurd (omega arith)
    ]

month_reached : (more year month days m left : ℕ) → 1 ≤ month → month ≤ m → m ≤ more + month → days_of_months (pos year) (month - 1) + days ≡ days_of_months (pos year) (m - 1) + left → left < days_in_month (pos year) m →
    month_behind more year month days ≡ (m, left)
unfolding month_behind
month_reached zero year month days m left first low high e h =
    let same : month ≡ m = omega arith in
    let days_same : days ≡ left = omega (arith, ap (λ (n : ℕ). days_of_months (pos year) (n - 1)) same) in
    rw (same, days_same) refl
month_reached (suc more) year month days m left first low high e h =
    elim (cases_order month m) [
      | inl same ↦
          let days_same : days ≡ left = omega (arith, ap (λ (n : ℕ). days_of_months (pos year) (n - 1)) same) in
          rw (same, days_same, lt-ltb left (days_in_month (pos year) m) h) refl
      | inr (inl before) ↦
          let back : month + 1 - 1 ≡ month = omega arith in
          let whole = days_of_months_more (pos year) month first in
          let passed : days_in_month (pos year) month ≤ days = omega (arith, whole, days_of_months_mono (pos year) month (m - 1) (omega arith)) in
          rw (le-ltb days (days_in_month (pos year) month) passed)
          (month_reached more year (month + 1) (days - days_in_month (pos year) month) m left (omega arith) (omega arith) (omega arith) (rw back (omega (arith, whole))) h)
      | inr (inr behind) ↦ absurd (omega arith)
    ]

-- the date that the calendar has so many days behind 1970-01-01 is the one that counting reaches
pub date_reached : (year month day days : ℕ) → 1970 ≤ year → IsCivilDate (pos year) month day → day_count (pos year) month day ≡ 4_371_953 + days → date_behind days ≡ (year, month, day)
date_reached year month day days low civil e =
    let place = day_count-day_of_year (pos year) month day civil.2.0 in
    let bound = day_of_year_bound (pos year) month day civil in
    let high : year ≤ 9999 = omega (arith, signed_arith, civil.0) in
    let left = days_of_months (pos year) (month - 1) + day - 1 in
    let years : year_behind 8029 1970 days ≡ (year, left) =
    year_reached 8029 1970 days year left low (omega arith) (omega (arith, day_count-epoch)) (omega arith) in
    let months : month_behind 11 year 1 left ≡ (month, day - 1) =
    month_reached 11 year 1 left month (day - 1) (omega arith) civil.1.0 (omega (arith, civil.1.1)) (omega (arith, days_of_months-zero (pos year), civil.2.0)) (omega (arith, civil.2.0, civil.2.1)) in
    let whole : day - 1 + 1 ≡ day = omega (arith, civil.2.0) in
    rw (years, months, whole) refl

-- what counting off years leaves: a day of the year that it reaches
year_lies : (more year days : ℕ) → before_year year + days < before_year (more + year + 1) →
    let r = year_behind more year days in (before_year year + days ≡ before_year r.0 + r.1) × (r.1 < days_in_year (pos r.0)) × (year ≤ r.0) × (r.0 ≤ more + year)
unfolding year_behind
year_lies zero year days h =
    let next : zero + year + 1 ≡ year + 1 = omega arith in
    (refl, omega (arith, next_year year, rw next at h), omega arith, omega arith)
year_lies (suc more) year days h =
    elim (cases_lt days (days_in_year (pos year))) [
      | inl lt ↦ rw (lt-ltb days (days_in_year (pos year)) lt) (refl, lt, omega arith, omega arith)
      | inr ge ↦
          let next : more + (year + 1) + 1 ≡ suc more + year + 1 = omega arith in
          let r = year_lies more (year + 1) (days - days_in_year (pos year)) (rw next (omega (arith, next_year year))) in
          rw (le-ltb days (days_in_year (pos year)) ge) (omega (arith, next_year year, r.0), r.1, omega (arith, r.2), omega (arith, r.3))
    ]

-- what counting off months leaves: a day of the month that it reaches
month_lies : (more year month days : ℕ) → 1 ≤ month → days_of_months (pos year) (month - 1) + days < days_of_months (pos year) (more + month) →
    let r = month_behind more year month days in (days_of_months (pos year) (month - 1) + days ≡ days_of_months (pos year) (r.0 - 1) + r.1) × (r.1 < days_in_month (pos year) r.0) × (1 ≤ r.0) × (r.0 ≤ more + month)
unfolding month_behind
month_lies zero year month days first h =
    let same : zero + month ≡ month = omega arith in
    (refl, omega (arith, days_of_months_more (pos year) month first, rw same at h), first, omega arith)
month_lies (suc more) year month days first h =
    elim (cases_lt days (days_in_month (pos year) month)) [
      | inl lt ↦ rw (lt-ltb days (days_in_month (pos year) month) lt) (refl, lt, first, omega arith)
      | inr ge ↦
          let next : more + (month + 1) ≡ suc more + month = omega arith in
          let back : month + 1 - 1 ≡ month = omega arith in
          let whole = days_of_months_more (pos year) month first in
          let r = month_lies more year (month + 1) (days - days_in_month (pos year) month) (omega arith) (rw (next, back) (omega (arith, whole))) in
          rw (le-ltb days (days_in_month (pos year) month) ge) (omega (arith, whole, rw back at r.0), r.1, r.2, omega (arith, r.3))
    ]

-- the day that lies so many days behind 1970-01-01 is the one that counting reaches
pub date_lies : (days : ℕ) → days < 2_932_897 → let r = date_behind days in (1970 ≤ r.0) × IsCivilDate (pos r.0) r.1 r.2 × (day_count (pos r.0) r.1 r.2 ≡ 4_371_953 + days)
date_lies days h =
    let year = year_behind 8029 1970 days in
    let month = month_behind 11 year.0 1 year.1 in
    let y = year_lies 8029 1970 days (omega (arith, day_count-epoch, day_count-end)) in
    let m = month_lies 11 year.0 1 year.1 (omega arith) (omega (arith, days_of_months_all (pos year.0), days_of_months-zero (pos year.0), y.1)) in
    let place = day_count-day_of_year (pos year.0) month.0 (month.1 + 1) (omega arith) in (
      y.2,
      ((omega (arith, signed_arith), omega (arith, signed_arith, y.3)), (m.2, m.3), (omega arith, omega (arith, m.1))),
      omega (arith, day_count-epoch, y.0, m.0, days_of_months-zero (pos year.0), place),
    )

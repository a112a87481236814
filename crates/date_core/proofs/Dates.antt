-- The laws of the dates of moments.
use Rattle.std.proofs.Common.{◌≡◌, ℕ, ◌+◌, ◌/◌, ◌%◌, ◌<◌, ◌≤◌, get_or, Some, ap, sym, ◌∙◌, refl, inl, inr, arith, pos}
use Rattle.std.proofs.lemmas.Bool.{cases_lt, lt-ltb, le-ltb}
use Rattle.jiff_core.specs.Calendar.{IsCivilDate, day_count, days_from_civil}
use Rattle.jiff_core.proofs.CalendarLemmas.{day_count_bounds, days_from_civil-day_count}
use Rattle.jiff_core.proofs.SignedLemmas.{signed_arith}
use Rattle.date_core.specs.DateText.{date_behind, date_text, moment_text}
use Rattle.date_core.specs.Laws.{DatesAreHad, MomentsHaveDates, NoDateLater, OneMomentEach}
use Rattle.date_core.proofs.Walks.{date_lies, date_reached}

-- the microseconds of a day, and the first moment of the year 10000
abbrev a_day : ℕ
a_day = 86_400_000_000

abbrev the_end : ℕ
the_end = 253_402_300_800_000_000

-- the text of a moment before the end
pub text_before : (moment : ℕ) → moment < the_end → let date = date_behind (moment / a_day) in date_text moment ≡ Some (moment_text date.0 date.1 date.2 (moment % a_day))
unfolding date_text
text_before moment h = rw (lt-ltb moment the_end h) refl

pub text_behind : NoDateLater
unfolding date_text
text_behind moment h = rw (le-ltb moment the_end h) refl

-- the day number of a date by its day count
number_of : (year month day days : ℕ) → day_count (pos year) month day ≡ 4_371_953 + days → days_from_civil (pos year) month day ≡ pos days
number_of year month day days e = omega (arith, signed_arith, days_from_civil-day_count (pos year) month day)

count_of : (year month day days : ℕ) → days_from_civil (pos year) month day ≡ pos days → day_count (pos year) month day ≡ 4_371_953 + days
count_of year month day days e = omega (arith, signed_arith, days_from_civil-day_count (pos year) month day)

pub moments_have_dates : MomentsHaveDates
moments_have_dates moment h =
    let days = moment / a_day in
    let date = date_behind days in
    let lies = date_lies days (omega arith) in (
      date.0,
      date.1,
      date.2,
      moment % a_day,
      record {
        from_1970 = lies.0;
        civil = lies.1;
        within_day = omega arith;
        days = days;
        day_number = number_of date.0 date.1 date.2 days lies.2;
        distance = omega arith;
      },
      text_before moment h,
    )

-- the text of a moment by the date of its day
pub text_of : (year month day moment : ℕ) → moment < the_end → 1970 ≤ year → IsCivilDate (pos year) month day → day_count (pos year) month day ≡ 4_371_953 + moment / a_day →
    date_text moment ≡ Some (moment_text year month day (moment % a_day))
text_of year month day moment h low civil e =
    text_before moment h ∙ ap (λ (date : ℕ × ℕ × ℕ). Some (moment_text date.0 date.1 date.2 (moment % a_day))) (date_reached year month day (moment / a_day) low civil e)

pub dates_are_had : DatesAreHad
dates_are_had year month day time moment w =
    let count = count_of year month day w.days w.day_number in
    let bound = day_count_bounds (pos year) month day w.civil in
    let behind : moment / a_day ≡ w.days = omega (arith, w.distance, w.within_day) in
    let rest : moment % a_day ≡ time = omega (arith, w.distance, w.within_day) in
    let whole : date_text moment ≡ Some (moment_text year month day (moment % a_day)) =
    text_of year month day moment (omega (arith, w.distance, w.within_day)) w.from_1970 w.civil (rw behind count) in
    rw rest at whole

-- a number is known by its digits
two_same : (n k : ℕ) → 48 + n / 10 ≡ 48 + k / 10 → 48 + n % 10 ≡ 48 + k % 10 → n ≡ k
two_same n k tens ones = omega arith

four_same : (n k : ℕ) → n / 100 ≡ k / 100 → n % 100 ≡ k % 100 → n ≡ k
four_same n k high low = omega arith

time_same : (t s : ℕ) → t / 1_000_000 / 3600 ≡ s / 1_000_000 / 3600 → t / 1_000_000 / 60 % 60 ≡ s / 1_000_000 / 60 % 60 → t / 1_000_000 % 60 ≡ s / 1_000_000 % 60 → t % 1_000_000 ≡ s % 1_000_000 → t ≡ s
time_same t s hours minutes seconds fraction = omega arith

-- the parts of a date by its text
parts_same : (y m d t y₂ m₂ d₂ t₂ : ℕ) → moment_text y m d t ≡ moment_text y₂ m₂ d₂ t₂ → (y ≡ y₂) × (m ≡ m₂) × (d ≡ d₂) × (t ≡ t₂)
parts_same y m d t y₂ m₂ d₂ t₂ e =
    let at : (i : ℕ) → get_or (moment_text y m d t) i 0 ≡ get_or (moment_text y₂ m₂ d₂ t₂) i 0 = λ i. ap (λ l. get_or l i 0) e in (
      four_same y y₂ (two_same _ _ (at 0) (at 1)) (two_same _ _ (at 2) (at 3)),
      two_same m m₂ (at 5) (at 6),
      two_same d d₂ (at 8) (at 9),
      time_same t t₂ (two_same _ _ (at 11) (at 12)) (two_same _ _ (at 14) (at 15)) (two_same _ _ (at 17) (at 18))
          (four_same _ _ (four_same _ _ (two_same _ _ (at 20) (at 21)) (two_same _ _ (at 22) (at 23))) (two_same _ _ (at 24) (at 25))),
    )

pub one_moment_each : OneMomentEach
one_moment_each a b text h k =
    elim (cases_lt a the_end) [
      | inr late ↦ cc (text_behind a late)
      | inl before_a ↦ elim (cases_lt b the_end) [
        | inr late ↦ cc (text_behind b late)
        | inl before_b ↦
            let p = moments_have_dates a before_a in
            let q = moments_have_dates b before_b in
            let texts : moment_text p.0 p.1 p.2 p.3 ≡ moment_text q.0 q.1 q.2 q.3 = cc (p.5, q.5) in
            let same = parts_same p.0 p.1 p.2 p.3 q.0 q.1 q.2 q.3 texts in
            let days : pos p.4.days ≡ pos q.4.days = sym p.4.day_number ∙ rw (same.0, same.1, same.2) q.4.day_number in
            let days_same : p.4.days ≡ q.4.days = cc in
            omega (arith, p.4.distance, q.4.distance, same.3)
      ]
    ]

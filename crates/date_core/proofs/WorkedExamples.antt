-- Dates that the calendar has, computed, so that a wrong rule does not check.
use Rattle.std.proofs.Common.{◌≡◌, Some, None, codes, refl}
use Rattle.date_core.specs.DateText.{date_text, month_behind, year_behind}

-- the first moment, and a microsecond later
pub begins : (date_text 0 ≡ Some (codes "1970-01-01T00:00:00.000000Z")) × (date_text 1 ≡ Some (codes "1970-01-01T00:00:00.000001Z"))
unfolding date_text year_behind month_behind
begins = (refl, refl)

-- the last of 1999 and the first of 2000
pub turns : (date_text 946_684_799_999_999 ≡ Some (codes "1999-12-31T23:59:59.999999Z")) × (date_text 946_684_800_000_000 ≡ Some (codes "2000-01-01T00:00:00.000000Z"))
unfolding date_text year_behind month_behind
turns = (refl, refl)

-- 2000 and 2024 have a leap day, and 2023 has none
pub leaps : (date_text 951_782_400_000_000 ≡ Some (codes "2000-02-29T00:00:00.000000Z")) × (date_text 951_868_800_000_000 ≡ Some (codes "2000-03-01T00:00:00.000000Z"))
    × (date_text 1_709_251_199_999_999 ≡ Some (codes "2024-02-29T23:59:59.999999Z")) × (date_text 1_677_628_800_000_000 ≡ Some (codes "2023-03-01T00:00:00.000000Z"))
unfolding date_text year_behind month_behind
leaps = (refl, refl, refl, refl)

-- past 32 bits with a sign
pub seconds_of_32_bits : date_text 2_147_483_648_000_000 ≡ Some (codes "2038-01-19T03:14:08.000000Z")
unfolding date_text year_behind month_behind
seconds_of_32_bits = refl

-- 2100 has no leap day, and 2400 has one
pub centuries : (date_text 4_107_542_399_999_999 ≡ Some (codes "2100-02-28T23:59:59.999999Z")) × (date_text 4_107_542_400_000_000 ≡ Some (codes "2100-03-01T00:00:00.000000Z"))
    × (date_text 13_574_563_200_000_000 ≡ Some (codes "2400-02-29T00:00:00.000000Z"))
unfolding date_text year_behind month_behind
centuries = (refl, refl, refl)

-- the last moment that has a date, and the next, which has none
pub ends : (date_text 253_402_300_799_999_999 ≡ Some (codes "9999-12-31T23:59:59.999999Z")) × (date_text 253_402_300_800_000_000 ≡ None) × (date_text 999_999_999_999_999_999 ≡ None)
unfolding date_text year_behind month_behind
ends = (refl, refl, refl)

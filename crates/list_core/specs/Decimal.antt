-- Numbers in decimal digits.
use Rattle.std.specs.Prelude.{ℕ, List, length, Bool, ◌&&◌, nat_le, nat_lt, Option, Some, None, if◌then◌else◌}
use Rattle.std.specs.List.{list_all}
use Rattle.std.specs.Char.{is_ascii_digit}
use Rattle.std.specs.Str.Parse.{digits_value}

-- decimal digits, one at least and so many at most
abbrev pub is_decimal : ℕ → List ℕ → Bool
is_decimal most digits = nat_lt 0 (length digits) && nat_le (length digits) most && list_all is_ascii_digit digits

-- the number that they write
abbrev pub decimal_of : ℕ → List ℕ → Option ℕ
decimal_of most digits = if is_decimal most digits then Some (digits_value 10 digits) else None

-- What stands first in a text of which a part is held.
use Rattle.std.specs.Prelude.{◌≡◌, ℕ, ◌+◌, ◌<◌, ◌≤◌, List, [], ◌++◌, length, take, drop, Option, Some, None, Result, Ok, Err}
use Rattle.list_core.specs.declared.device.InputEnd.{InputEnd}
use Rattle.list_core.specs.declared.list_fault.ListCause.{ListCause}
use Rattle.list_core.specs.Lines.{LineListing, reading, put_line, without_cr, finished, fault_at, StartsLine, WhateverComes}

-- whatever comes after these octets, the text reads as r
abbrev pub TextReadsAs : InputEnd → ℕ → List ℕ → (InputEnd → List ℕ → LineListing) → Type 0
TextReadsAs ending taken held r = WhateverComes ending (λ z more. reading z taken (held ++ more) ≡ r z more)

-- what stands first: a line of n octets, the end, or a fault
abbrev pub IsFront : InputEnd → ℕ → List ℕ → Result (Option ℕ) ListCause → Type 0
IsFront ending taken held (Ok None) = TextReadsAs ending taken held (λ _ _. record { lines = []; stop = finished })
IsFront ending taken held (Ok (Some n)) = (n ≤ length held) × (n ≤ 4096) × (taken < 1000000)
    × TextReadsAs ending taken held (λ z more. put_line (without_cr (take n held)) (reading z (taken + 1) (drop (n + 1) held ++ more)))
    × StartsLine ending (take (n + 1) held) (drop (n + 1) held)
IsFront ending taken held (Err why) = TextReadsAs ending taken held (λ _ _. fault_at taken why)

-- The period of a counter of samples (IEC 61850-9-2, smpCnt).
use Rattle.std.specs.Prelude.{ℕ, ◌≤◌}

-- a period that a watch may have
abbrev pub IsPeriod : ℕ → Type 0
IsPeriod period = (2 ≤ period) × (period ≤ 65536)

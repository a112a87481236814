-- Status numbers (stNum) and sequence numbers (sqNum) of GOOSE (IEC 61850-8-1): past 4294967295 both go on at 1.
use Rattle.std.specs.Prelude.{ℕ, zero, suc, ◌+◌, ◌-◌, ◌%◌, ◌==◌, if◌then◌else◌}

-- stNum of state c, counted from 0: state 0 has the number `first` (profile), each state behind it the next number,
-- and behind 4294967295 comes 1 (IEC 61850-8-1)
abbrev pub state_number : ℕ → ℕ → ℕ
state_number first c = (first - 1 + c) % 4294967295 + 1

-- sqNum of frame k of a state, counted from 0, also of the first state (profile): the first frame has 0, each
-- retransmission the next number, and behind 4294967295 comes 1 (IEC 61850-8-1)
abbrev pub sequence_number : ℕ → ℕ
sequence_number zero = 0
sequence_number (suc k) = k % 4294967295 + 1

-- the number behind n
abbrev pub number_behind : ℕ → ℕ
number_behind n = if n == 4294967295 then 1 else n + 1

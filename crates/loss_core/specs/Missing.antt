-- What is missing between the newest pair and one above it.
use Rattle.std.specs.Prelude.{◌≡◌, ◌⊎◌, ℕ, ◌+◌, ◌-◌, ◌≤◌, ◌==◌, nat_lt, Option, Some, None, if◌then◌else◌}
use Rattle.loss_core.specs.declared.sender.Pair.{Pair}
use Rattle.loss_core.specs.declared.missing.Span.{Span}
use Rattle.loss_core.specs.declared.missing.Missing.{Missing}

-- the numbers from one up to, and without, another; there may be none
abbrev pub span : ℕ → ℕ → Option Span
span from until = if nat_lt from until then Some (record { from = from; to = until - 1 }) else None

-- the sequence numbers of a state begin behind the newest one, where this is of the same state, and else at 0
abbrev pub sequences_from : Pair → Pair → ℕ
sequences_from newest came = if newest.state == came.state then newest.sequence + 1 else 0

-- the states between both, and what precedes the one that came in its own state
abbrev pub missing_between : Pair → Pair → Missing
missing_between newest came = record { states = span (newest.state + 1) came.state; frames = span (sequences_from newest came) came.sequence }

-- a number lies in a span
abbrev pub IsIn : Option Span → ℕ → Type 0
IsIn None n = ⊥
IsIn (Some s) n = (s.from ≤ n) × (n ≤ s.to)

-- a pair is missing by this, of which the frame that came has this pair: its state is, or it is of the state that came and its sequence number is
abbrev pub IsNamed : Missing → Pair → Pair → Type 0
IsNamed m came x = IsIn m.states x.state ⊎ ((x.state ≡ came.state) × IsIn m.frames x.sequence)

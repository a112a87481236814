-- What private calls promise of what they keep.
use Rattle.list_core.specs.declared.event.EventKind.{EventKind}
use Rattle.list_core.specs.declared.event.EventKind.TheVariants as kinds
use Rattle.std.specs.Prelude.{ℕ}
use Rattle.subscribe_core.specs.State.{State}

-- it is octets of a frame
abbrev pub IsFrame : {A : Type 0} → EventKind A → Type 0
IsFrame (kinds.Frame o) = Unit {0}
IsFrame kinds.Clock = ⊥
IsFrame (kinds.Mode on) = ⊥

-- what a subscriber keeps, how often the last event reached a block or its register, and how often one was reached in
-- all, up to 2^64 - 1
pub record StateAndReaches (A : Type 0) : Type 0 where
  pub state : State A
  pub looks : ℕ
  pub reaches : ℕ

-- A table of retransmission: how long is waited behind each frame of a state, and how long the frame lives (IEC 61850-8-1,
-- timeAllowedtoLive). The first frame has the first step, each further frame the next one, and from the last step on
-- all frames have the last (profile).
use Rattle.std.specs.Prelude.{ℕ, ◌<◌, ◌≤◌, ◌-◌, ◌⊎◌, min, List, length, slice_index_or}
use Rattle.publish_core.specs.declared.fault.PublishFault.{PublishFault}
use Rattle.publish_core.specs.declared.fault.PublishFault.TheVariants as faults
use Rattle.publish_core.specs.declared.table.Step.{Step}

-- the step waits, and its frame lives longer than that
abbrev pub IsGood : Step → Type 0
IsGood s = (0 < s.wait_ms) × (s.wait_ms < s.live_ms)

-- step k of a table
abbrev pub step_at : List Step → ℕ → Step
step_at steps k = slice_index_or steps k (record { wait_ms = 0; live_ms = 0 })

-- the step of frame k of a state
abbrev pub step_of : List Step → ℕ → ℕ
step_of steps k = min k (length steps - 1)

-- the most steps of a table
abbrev pub most_steps : ℕ
most_steps = 16

-- the steps make a table: there are 1 to 16 of them, each good
pub record AreSteps (steps : List Step) : Type 0 where
  pub some : 1 ≤ length steps
  pub most : length steps ≤ most_steps
  pub good : (i : ℕ) → i < length steps → IsGood (step_at steps i)

-- step i is there and not good, and all steps before it are good
pub record IsFirstBadStep (steps : List Step) (i : ℕ) : Type 0 where
  pub here : i < length steps
  pub bad : ¬ IsGood (step_at steps i)
  pub before : (j : ℕ) → j < i → IsGood (step_at steps j)

-- why the steps make no table
abbrev pub IsTableFault : List Step → PublishFault → Type 0
IsTableFault steps faults.StepCount = (length steps < 1) ⊎ (most_steps < length steps)
IsTableFault steps (faults.StepTimes i) = (1 ≤ length steps) × (length steps ≤ most_steps) × IsFirstBadStep steps i
IsTableFault steps faults.FirstState = ⊥
IsTableFault steps faults.EntriesDiffer = ⊥
IsTableFault steps faults.NotSpellable = ⊥
IsTableFault steps faults.WouldNotFit = ⊥

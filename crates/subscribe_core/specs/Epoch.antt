-- What one control block makes of a whole list of events: when it expires, where its epochs start, and which frames it
-- acts on (profile). All is said by positions in the list, from 0.
use Rattle.std.specs.Prelude.{◌≡◌, ℕ, ◌+◌, ◌<◌, ◌≤◌, ◌⊎◌, Option, Some, None, Bool, true}
use Rattle.subscribe_core.specs.declared.registers.Facts.{Facts}
use Rattle.subscribe_core.specs.declared.registers.LiveState.{LiveState}
use Rattle.subscribe_core.specs.declared.registers.Verdict.{Verdict}
use Rattle.subscribe_core.specs.declared.registers.Verdict.TheVariants.{Act, Refreshed, Repeated, Older}

-- what a block sees of a list of events, position by position: the greatest moment up to there, the facts of the frame
-- there where that is a good one, and whether the block goes over to simulated frames there, or back to real ones
pub record Trace : Type 0 where
  pub now : ℕ → ℕ
  pub good : ℕ → Option Facts
  pub switched : ℕ → Bool

-- the pair of f comes before that of g: by the status number, then by the sequence number
abbrev pub IsBefore : Facts → Facts → Type 0
IsBefore f g = (f.state < g.state) ⊎ ((f.state ≡ g.state) × (f.sequence < g.sequence))

-- of the good positions from s to k - 1, p is the first with the greatest pair; f are its facts
pub record IsBest (t : Trace) (s k p : ℕ) (f : Facts) : Type 0 where
  pub from : s ≤ p
  pub below : p < k
  pub good : t.good p ≡ Some f
  pub greatest : (q : ℕ) (g : Facts) → s ≤ q → q < k → t.good q ≡ Some g → ¬ IsBefore f g
  pub first : (q : ℕ) (g : Facts) → s ≤ q → q < p → t.good q ≡ Some g → IsBefore g f

-- at k, a position after s, the lifetime of the best frame since s is over: the greatest moment up to k is no less
-- than the greatest up to that frame plus the frame's timeAllowedtoLive (IEC 61850-8-1)
pub record Dead (t : Trace) (s k : ℕ) : Type 0 where
  pub after : s < k
  pub best : ℕ
  pub facts : Facts
  pub is_best : IsBest t s k best facts
  pub over : t.now best + facts.lifetime ≤ t.now k

-- what ends an epoch: at k what started at s is dead, or the block is switched
abbrev pub IsOver : Trace → ℕ → ℕ → Type 0
IsOver t s k = Dead t s k ⊎ ((s < k) × (t.switched k ≡ true))

-- k is the least position at which what started at s is over
pub record Ends (t : Trace) (s k : ℕ) : Type 0 where
  pub over : IsOver t s k
  pub first : (j : ℕ) → j < k → ¬ IsOver t s j

-- i is the first good position at or after k
pub record IsFirstGood (t : Trace) (k i : ℕ) : Type 0 where
  pub from : k ≤ i
  pub facts : Facts
  pub good : t.good i ≡ Some facts
  pub first : (j : ℕ) → k ≤ j → j < i → t.good j ≡ None

-- The first good position is a start. So is the first good position at or after the end of what started earlier. Nothing
-- else is one. An epoch is the good positions from a start up to, not including, the next start.
pub data IsStart (t : Trace) : ℕ → Type 0 where
  First : {s : ℕ} → IsFirstGood t 0 s → IsStart t s
  Next : {r k s : ℕ} → IsStart t r → Ends t r k → IsFirstGood t k s → IsStart t s

-- k is an expiry of the block: an epoch ends there since its best frame is dead
pub record IsExpiry (t : Trace) (k : ℕ) : Type 0 where
  pub start : ℕ
  pub is_start : IsStart t start
  pub ends : Ends t start k
  pub dead : Dead t start k

-- s is the last start at or before i
pub record IsLastStart (t : Trace) (i s : ℕ) : Type 0 where
  pub start : IsStart t s
  pub within : s ≤ i
  pub last : (r : ℕ) → IsStart t r → r ≤ i → r ≤ s

-- i is good, and its status number is above that of every good frame of its epoch before it
pub record Acts (t : Trace) (i : ℕ) : Type 0 where
  pub facts : Facts
  pub good : t.good i ≡ Some facts
  pub start : ℕ
  pub epoch : IsLastStart t i start
  pub above : (j : ℕ) (g : Facts) → start ≤ j → j < i → t.good j ≡ Some g → g.state < facts.state

-- i, with facts f, is the best position of its epoch so far, itself included
pub record Refreshes (t : Trace) (i : ℕ) (f : Facts) : Type 0 where
  pub start : ℕ
  pub epoch : IsLastStart t i start
  pub is_best : IsBest t start (i + 1) i f

-- the pair at i is that of the best position of its epoch before it
pub record Repeats (t : Trace) (i : ℕ) (f : Facts) : Type 0 where
  pub start : ℕ
  pub epoch : IsLastStart t i start
  pub best : ℕ
  pub facts : Facts
  pub is_best : IsBest t start i best facts
  pub state : f.state ≡ facts.state
  pub sequence : f.sequence ≡ facts.sequence

-- the verdict on the good frame at i, with facts f: it is acted on; else it is the best of its epoch so far, and
-- renews the lifetime; else it has the pair of the best one before it, and repeats that; else it is older
abbrev pub IsVerdict : Trace → ℕ → Facts → Verdict → Type 0
IsVerdict t i f Act = Acts t i
IsVerdict t i f Refreshed = ¬ Acts t i × Refreshes t i f
IsVerdict t i f Repeated = ¬ Acts t i × ¬ Refreshes t i f × Repeats t i f
IsVerdict t i f Older = ¬ Acts t i × ¬ Refreshes t i f × ¬ Repeats t i f

-- what started last among the first n positions ended at one of them
pub record HasEnded (t : Trace) (n : ℕ) : Type 0 where
  pub start : ℕ
  pub is_start : IsStart t start
  pub last : (r : ℕ) → IsStart t r → r < n → r ≤ start
  pub end : ℕ
  pub before : end < n
  pub ends : Ends t start end

-- after the first n positions the block is idle: none of them is a start, or what started last has ended
abbrev pub IsIdleAfter : Trace → ℕ → Type 0
IsIdleAfter t n = ((s : ℕ) → s < n → ¬ IsStart t s) ⊎ HasEnded t n

-- what started last among the first n positions isn't over: the block holds the pair of the best position since, and the
-- moment at which its lifetime is over
pub record HoldsBest (t : Trace) (n : ℕ) (h : LiveState) : Type 0 where
  pub start : ℕ
  pub is_start : IsStart t start
  pub last : (r : ℕ) → IsStart t r → r < n → r ≤ start
  pub lives : (k : ℕ) → k < n → ¬ Ends t start k
  pub best : ℕ
  pub facts : Facts
  pub is_best : IsBest t start n best facts
  pub state : h.state ≡ facts.state
  pub sequence : h.sequence ≡ facts.sequence
  pub deadline : h.deadline ≡ t.now best + facts.lifetime

-- what a block holds after the first n positions of its trace: nothing, where it is idle; or the pair of the best
-- frame since the last start, and the moment at which that frame's lifetime is over
abbrev pub BlockHolds : Trace → ℕ → Option LiveState → Type 0
BlockHolds t n None = IsIdleAfter t n
BlockHolds t n (Some h) = HoldsBest t n h

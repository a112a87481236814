-- The deadlines that are kept agree with what the blocks hold.
use Rattle.std.specs.Prelude.{◌≡◌, ℕ, zero, suc, ◌+◌, ◌*◌, ◌/◌, ◌^◌, ◌<◌, ◌≤◌, min, nat_lt, List, [], ◌∷◌, Option, None, map, length, slice_index, slice_index_or, if◌then◌else◌}
use Rattle.subscribe_core.specs.declared.deadlines.Deadlines.{Deadlines}
use Rattle.subscribe_core.specs.declared.registers.LiveState.{LiveState}
use Rattle.subscribe_core.specs.declared.registers.Register.{Register}
use Rattle.subscribe_core.specs.computed.Steps.{is_dead}

-- what is held, register by register
abbrev pub helds : List Register → List (Option LiveState)
helds rs = map (λ (r : Register). r.held) rs

-- how many nodes are inner ones or before them; as many come behind them
abbrev pub half : List ℕ → ℕ
half nodes = length nodes / 2

-- an inner node has the lesser of the two nodes below it
abbrev pub IsLesser : List ℕ → ℕ → Type 0
IsLesser nodes i = slice_index nodes i ≡ min (slice_index nodes (2 * i)) (slice_index nodes (2 * i + 1))

-- each inner node does
abbrev pub AreLesser : List ℕ → Type 0
AreLesser nodes = (i : ℕ) → 0 < i → i < half nodes → IsLesser nodes i

-- each but one does
abbrev pub AreLesserBut : List ℕ → ℕ → Type 0
AreLesserBut nodes but = (i : ℕ) → 0 < i → i < half nodes → (i ≡ but → ⊥) → IsLesser nodes i

-- the inner nodes are so many as a power of two, or none, and each has the lesser of the two below it
pub record IsTree (nodes : List ℕ) : Type 0 where
  pub power : 0 < half nodes → (k : ℕ) × (half nodes ≡ 2 ^ k)
  pub lesser : AreLesser nodes

-- behind the inner nodes stands the last moment at which each block holds what it does: it is due at all later ones
pub record KeepsDeadlinesOf {A : Type 0} (d : Deadlines A) (held : List (Option LiveState)) : Type 0 where
  pub room : length held ≤ half d.nodes.items
  pub tree : IsTree d.nodes.items
  pub each : (p now : ℕ) → p < half d.nodes.items → now < 2 ^ 64
      → is_dead (slice_index_or held p None) now ≡ nat_lt (slice_index d.nodes.items (half d.nodes.items + p)) now

-- below a node are the blocks from a position on, so many as a power of two
abbrev pub Covers : List ℕ → ℕ → ℕ → ℕ → Type 0
Covers nodes node b k = (node * 2 ^ k ≡ half nodes + b) × (b + 2 ^ k ≤ half nodes)

-- it is the first position from b on of a block that is due
pub record IsNextDue (nodes : List ℕ) (now b at : ℕ) : Type 0 where
  pub low : b ≤ at
  pub within : at < half nodes
  pub due : slice_index nodes (half nodes + at) < now
  pub none : (p : ℕ) → b ≤ p → p < at → now ≤ slice_index nodes (half nodes + p)

-- below the node is a block that is due, and none between the position and those below the node is
pub record IsBeside (nodes : List ℕ) (now at node : ℕ) : Type 0 where
  pub from : ℕ
  pub width : ℕ
  pub covers : Covers nodes node from width
  pub behind : at < from
  pub due : slice_index nodes node < now
  pub none : (p : ℕ) → at < p → p < from → now ≤ slice_index nodes (half nodes + p)

-- the positions from b on, so many, of the blocks that are due
abbrev pub due_from : ℕ → List (Option LiveState) → ℕ → ℕ → List ℕ
due_from now held b zero = []
due_from now held b (suc n) =
    if is_dead (slice_index_or held b None) now then b ∷ due_from now held (b + 1) n else due_from now held (b + 1) n

-- how many of the blocks are due
abbrev pub due_count : ℕ → List (Option LiveState) → ℕ
due_count now [] = 0
due_count now (held ∷ rest) = if is_dead held now then due_count now rest + 1 else due_count now rest

-- the positions of the blocks that are due, in their order; the first has position b
abbrev pub due_positions : ℕ → ℕ → List (Option LiveState) → List ℕ
due_positions now b [] = []
due_positions now b (held ∷ rest) =
    if is_dead held now then b ∷ due_positions now (b + 1) rest else due_positions now (b + 1) rest

-- The nodes above the deadlines: each has the least of those below it.
use Rattle.std.proofs.Common.{◌≡◌, ◌⊎◌, ℕ, zero, suc, ◌+◌, ◌-◌, ◌*◌, ◌/◌, ◌%◌, ◌^◌, ◌<◌, ◌≤◌, min, true, false, ltb, Option, Some, None, List, [], ◌∷◌, ◌++◌, length, drop, get_or, set, sym, ap, ◌∙◌, arith, subst, refl, inl, inr}
use Rattle.std.specs.Prelude.{IfSome, IfNone}
use Rattle.std.proofs.lemmas.Bool.{cases_Bool, cases_eq, cases_lt, le-leb, le-ltb, lt-leb, lt-ltb}
use Rattle.std.proofs.lemmas.List.{get_or-set_same, get_or-set_other, get_or_past, length-set}
use Rattle.std.proofs.lemmas.Nat.{pow_pos}
use Rattle.std.proofs.Math.Nat.{mul-le-mul_left, two-pow-succ}
use Rattle.std.proofs.Math.Seq.{drop-cons}
use Rattle.std.proofs.Math.ListN.{drop_of_length-le}
use Rattle.subscribe_core.specs.declared.deadlines.Deadlines.{Deadlines}
use Rattle.subscribe_core.specs.declared.registers.LiveState.{LiveState}
use Rattle.subscribe_core.specs.computed.Steps.{is_dead}
use Rattle.subscribe_core.specs.computed.Deadlines.{AreLesser, Covers, IsBeside, IsNextDue, IsTree, KeepsDeadlinesOf, due_from, due_positions, half}

-- a block that is due at a moment, and one that isn't

pub dead_from : {A : Type 0} → (d : Deadlines A) (held : List (Option LiveState)) (p now : ℕ) → KeepsDeadlinesOf d held → now < 2 ^ 64 → p < half d.nodes.items
    → get_or d.nodes.items (half d.nodes.items + p) 0 < now → is_dead (get_or held p None) now ≡ true
dead_from d held p now keeps fits lt less = keeps.each p now lt fits ∙ lt-ltb (get_or d.nodes.items (half d.nodes.items + p) 0) now less

-- a position past the nodes has no block
pub lives_from : {A : Type 0} → (d : Deadlines A) (held : List (Option LiveState)) (p now : ℕ) → KeepsDeadlinesOf d held → now < 2 ^ 64
    → (p < half d.nodes.items → now ≤ get_or d.nodes.items (half d.nodes.items + p) 0) → is_dead (get_or held p None) now ≡ false
lives_from d held p now keeps fits over =
    elim (cases_lt p (half d.nodes.items)) [
      | inl lt ↦ keeps.each p now lt fits ∙ le-ltb (get_or d.nodes.items (half d.nodes.items + p) 0) now (over lt)
      | inr past ↦
          let room = keeps.room in
          rw (get_or_past held p None (omega arith)) refl
    ]

-- the node above

halved : (i : ℕ) → (i ≡ 2 * (i / 2)) ⊎ (i ≡ 2 * (i / 2) + 1)
halved i = elim (cases_eq i (2 * (i / 2))) [ inl even ↦ inl even | inr odd ↦ inr (omega arith) ]

-- a node is no less than the one above it
up : (nodes : List ℕ) (u i : ℕ) → AreLesser nodes → 0 < u → u < half nodes → (i ≡ 2 * u) ⊎ (i ≡ 2 * u + 1) → get_or nodes u 0 ≤ get_or nodes i 0
up nodes u i lesser some within (inl even) =
    let e = lesser u some within in
    subst (λ (k : ℕ). get_or nodes u 0 ≤ get_or nodes k 0) (sym even) (omega arith)
up nodes u i lesser some within (inr odd) =
    let e = lesser u some within in
    subst (λ (k : ℕ). get_or nodes u 0 ≤ get_or nodes k 0) (sym odd) (omega arith)

-- so none is less than node 1
pub first_least : (n : ℕ) (nodes : List ℕ) (i : ℕ) → AreLesser nodes → i ≤ n → 0 < i → i < 2 * half nodes → get_or nodes 1 0 ≤ get_or nodes i 0
first_least zero nodes i lesser bound some within = absurd (omega arith)
first_least (suc n) nodes i lesser bound some within =
    elim (cases_eq i 1) [
      | inl one ↦ subst (λ (k : ℕ). get_or nodes 1 0 ≤ get_or nodes k 0) (sym one) (omega arith)
      | inr more ↦
          let rest : get_or nodes 1 0 ≤ get_or nodes (i / 2) 0 = first_least n nodes (i / 2) lesser (omega arith) (omega arith) (omega arith) in
          let step : get_or nodes (i / 2) 0 ≤ get_or nodes i 0 = up nodes (i / 2) i lesser (omega arith) (omega arith) (halved i) in
          omega arith
    ]

-- the positions that are due, from one on

from_none : (now : ℕ) (held : List (Option LiveState)) (b n : ℕ) → ((p : ℕ) → b ≤ p → p < b + n → is_dead (get_or held p None) now ≡ false) → due_from now held b n ≡ []
from_none now held b zero none = refl
from_none now held b (suc n) none =
    rw (none b (omega arith) (omega arith)) (from_none now held (b + 1) n (λ p low lt. none p (omega arith) (omega arith)))

from_split : (now : ℕ) (held : List (Option LiveState)) (b m n : ℕ) → due_from now held b (m + n) ≡ due_from now held b m ++ due_from now held (b + m) n
from_split now held b zero n =
    let e : zero + n ≡ n = omega arith in
    let f : b + zero ≡ b = omega arith in
    rw (e, f) refl
from_split now held b (suc m) n =
    let e : suc m + n ≡ suc (m + n) = omega arith in
    let f : b + suc m ≡ (b + 1) + m = omega arith in
    let rest : due_from now held (b + 1) (m + n) ≡ due_from now held (b + 1) m ++ due_from now held ((b + 1) + m) n = from_split now held (b + 1) m n in
    elim (cases_Bool (is_dead (get_or held b None) now)) [
      | inl d ↦ rw (e, f, d) (ap (λ (ps : List ℕ). b ∷ ps) rest)
      | inr d ↦ rw (e, f, d) rest
    ]

from_all : (now : ℕ) (held : List (Option LiveState)) (b n : ℕ) → length held ≤ b + n → due_from now held b n ≡ due_positions now b (drop b held)
from_all now held b zero whole = (let none : drop b held ≡ [] = drop_of_length-le held {i = b} (omega arith) in rw none refl)
from_all now held b (suc n) whole =
    let next : b + 1 ≡ suc b = omega arith in
    let rest : due_from now held (b + 1) n ≡ due_positions now (b + 1) (drop (b + 1) held) = from_all now held (b + 1) n (omega arith) in
    elim (cases_lt b (length held)) [
      | inl lt ↦
          let rest' : due_from now held (b + 1) n ≡ due_positions now (b + 1) (drop (suc b) held) = subst (λ (k : ℕ). due_from now held (b + 1) n ≡ due_positions now (b + 1) (drop k held)) next rest in
          elim (cases_Bool (is_dead (get_or held b None) now)) [
            | inl d ↦ rw (drop-cons held b None lt, d) (ap (λ (ps : List ℕ). b ∷ ps) rest')
            | inr d ↦ rw (drop-cons held b None lt, d) rest'
          ]
      | inr past ↦
          let here : drop b held ≡ [] = drop_of_length-le held {i = b} (omega arith) in
          let further : drop (b + 1) held ≡ [] = drop_of_length-le held {i = b + 1} (omega arith) in
          rw (here, get_or_past held b None (omega arith)) (rest ∙ rw further refl)
    ]

pub all_due : {A : Type 0} → (d : Deadlines A) (held : List (Option LiveState)) (now n : ℕ) → KeepsDeadlinesOf d held → n ≡ half d.nodes.items → due_from now held 0 n ≡ due_positions now 0 held
all_due d held now n k e = let room = k.room in from_all now held 0 n (omega arith)

-- below a node

-- each block's deadline below a node is no less than it
below_least : (k : ℕ) (nodes : List ℕ) (node b p : ℕ) → AreLesser nodes → 0 < node → node * 2 ^ k ≡ half nodes + b → b + 2 ^ k ≤ half nodes → b ≤ p → p < b + 2 ^ k
    → get_or nodes node 0 ≤ get_or nodes (half nodes + p) 0
below_least zero nodes node b p lesser some e within low lt =
    let one : 2 ^ zero ≡ 1 = refl in
    let at : node ≡ half nodes + p = omega arith in
    subst (λ (i : ℕ). get_or nodes node 0 ≤ get_or nodes i 0) at (omega arith)
below_least (suc k) nodes node b p lesser some e within low lt =
    let w : ℕ = 2 ^ k in
    let twice : 2 ^ suc k ≡ 2 ^ k + 2 ^ k = two-pow-succ k in
    let some_width : 0 < 2 ^ k = pow_pos k in
    let width : node * 1 ≤ node * 2 ^ k = mul-le-mul_left node (omega arith) in
    let product : node * (2 ^ k + 2 ^ k) ≡ half nodes + b = subst (λ (n : ℕ). node * n ≡ half nodes + b) twice e in
    let inner : node < half nodes = omega arith in
    let left : get_or nodes node 0 ≤ get_or nodes (2 * node) 0 = up nodes node (2 * node) lesser some inner (inl refl) in
    let right : get_or nodes node 0 ≤ get_or nodes (2 * node + 1) 0 = up nodes node (2 * node + 1) lesser some inner (inr refl) in
    elim (cases_lt p (b + 2 ^ k)) [
      | inl first ↦
          let rest = below_least k nodes (2 * node) b p lesser (omega arith) (omega arith) (omega arith) low first in
          omega arith
      | inr second ↦
          let rest = below_least k nodes (2 * node + 1) (b + 2 ^ k) p lesser (omega arith) (omega arith) (omega arith) second (omega arith) in
          omega arith
    ]

-- where nodes of a level end before a power of two, there is room for one more
next_within : (k n m : ℕ) → 0 < m → m * 2 ^ k < 2 ^ n → m * 2 ^ k + 2 ^ k ≤ 2 ^ n
next_within zero n m some lt = let one : 2 ^ zero ≡ 1 = refl in omega arith
next_within (suc k) zero m some lt =
    let one : 2 ^ zero ≡ 1 = refl in
    let some_width : 0 < 2 ^ suc k = pow_pos (suc k) in
    let width : m * 1 ≤ m * 2 ^ suc k = mul-le-mul_left m (omega arith) in
    absurd (omega arith)
next_within (suc k) (suc n) m some lt =
    let twice : 2 ^ suc k ≡ 2 ^ k + 2 ^ k = two-pow-succ k in
    let whole : 2 ^ suc n ≡ 2 ^ n + 2 ^ n = two-pow-succ n in
    let product : m * 2 ^ suc k ≡ m * (2 ^ k + 2 ^ k) = ap (λ (w : ℕ). m * w) twice in
    let rest : m * 2 ^ k + 2 ^ k ≤ 2 ^ n = next_within k n m some (omega arith) in
    omega arith

-- a node with blocks below it is one of the nodes, and not node 0
pub covers_some : (nodes : List ℕ) (node b k : ℕ) → Covers nodes node b k → 0 < node
covers_some nodes zero b k c = (let some_width : 0 < 2 ^ k = pow_pos k in omega (arith, c.0, c.1))
covers_some nodes (suc node) b k c = omega arith

-- the way down to the first block that is due: it is below the node, and none before those below the node is
pub record IsBelow (nodes : List ℕ) (now b node : ℕ) : Type 0 where
  pub from : ℕ
  pub width : ℕ
  pub covers : Covers nodes node from width
  pub low : b ≤ from
  pub due : get_or nodes node 0 < now
  pub none : (p : ℕ) → b ≤ p → p < from → now ≤ get_or nodes (half nodes + p) 0

pub below_begins : (nodes : List ℕ) (now node b k : ℕ) → Covers nodes node b k → get_or nodes node 0 < now → IsBelow nodes now b node
below_begins nodes now node b k c due = record { from = b; width = k; covers = c; low = omega arith; due = due; none = λ p low lt. absurd (omega arith) }

-- of a node with others below it, these have half its blocks each
halves : (nodes : List ℕ) (node b k : ℕ) → Covers nodes node b k → node < half nodes
    → (j : ℕ) × Covers nodes (2 * node) b j × Covers nodes (2 * node + 1) (b + 2 ^ j) j
halves nodes node b zero c inner = (let one : 2 ^ zero ≡ 1 = refl in absurd (omega (arith, c.0)))
halves nodes node b (suc k) c inner =
    let twice : 2 ^ suc k ≡ 2 ^ k + 2 ^ k = two-pow-succ k in
    let product : node * (2 ^ k + 2 ^ k) ≡ half nodes + b = subst (λ (w : ℕ). node * w ≡ half nodes + b) twice c.0 in
    (k, (omega arith, omega (arith, c.1)), (omega arith, omega (arith, c.1)))

pub below_left : (nodes : List ℕ) (now b node : ℕ) → IsBelow nodes now b node → node < half nodes → get_or nodes (2 * node) 0 < now → IsBelow nodes now b (2 * node)
below_left nodes now b node w inner due =
    let h = halves nodes node w.from w.width w.covers inner in
    record { from = w.from; width = h.0; covers = h.1; low = w.low; due = due; none = w.none }

pub below_right : (nodes : List ℕ) (now b node : ℕ) → AreLesser nodes → IsBelow nodes now b node → node < half nodes → now ≤ get_or nodes (2 * node) 0 → IsBelow nodes now b (2 * node + 1)
below_right nodes now b node lesser w inner over =
    let h = halves nodes node w.from w.width w.covers inner in
    let some = covers_some nodes node w.from w.width w.covers in
    let least = lesser node some inner in
    let here = w.due in
    let low = w.low in
    record {
      from = w.from + 2 ^ h.0;
      width = h.0;
      covers = h.2;
      low = omega arith;
      due = omega arith;
      none = λ p before lt.
          elim (cases_lt p w.from) [
            | inl earlier ↦ w.none p before earlier
            | inr there ↦
                let le = below_least h.0 nodes (2 * node) w.from p lesser (omega arith) h.1.0 h.1.1 there lt in
                omega arith
          ];
    }

-- and its end
ends : (nodes : List ℕ) (node b k : ℕ) → Covers nodes node b k → half nodes ≤ node → node ≡ half nodes + b
ends nodes node b zero c block = (let one : 2 ^ zero ≡ 1 = refl in omega (arith, c.0))
ends nodes node b (suc k) c block =
    let twice : 2 ^ suc k ≡ 2 ^ k + 2 ^ k = two-pow-succ k in
    let some_width : 0 < 2 ^ k = pow_pos k in
    let width : node * 1 ≤ node * 2 ^ k = mul-le-mul_left node (omega arith) in
    let product : node * (2 ^ k + 2 ^ k) ≡ half nodes + b = subst (λ (w : ℕ). node * w ≡ half nodes + b) twice c.0 in
    absurd (omega (arith, c.1))

pub below_ends : (nodes : List ℕ) (now b node at : ℕ) → IsBelow nodes now b node → half nodes ≤ node → at ≡ node - half nodes → IsNextDue nodes now b at
below_ends nodes now b node at w block is =
    let e = ends nodes node w.from w.width w.covers block in
    let same : at ≡ w.from = omega arith in
    let some_width : 0 < 2 ^ w.width = pow_pos w.width in
    rw same record { low = w.low; within = omega (arith, w.covers.1); due = subst (λ (i : ℕ). get_or nodes i 0 < now) e w.due; none = w.none }

-- the way up from a block: it is below the node, and none behind it that is below the node is due
pub record IsPassed (nodes : List ℕ) (now at node : ℕ) : Type 0 where
  pub from : ℕ
  pub width : ℕ
  pub covers : Covers nodes node from width
  pub low : from ≤ at
  pub high : at < from + 2 ^ width
  pub none : (p : ℕ) → at < p → p < from + 2 ^ width → now ≤ get_or nodes (half nodes + p) 0

pub passed_begins : (nodes : List ℕ) (now at node : ℕ) → at < half nodes → node ≡ half nodes + at → IsPassed nodes now at node
passed_begins nodes now at node lt is =
    let one : 2 ^ zero ≡ 1 = refl in
    record { from = at; width = zero; covers = (omega arith, omega arith); low = omega arith; high = omega arith; none = λ p before behind. absurd (omega arith) }

-- a node and the one to its right have another above them
above : (n : ℕ) (nodes : List ℕ) (node b k : ℕ) → half nodes ≡ 2 ^ n → Covers nodes node b k → 1 < node → node ≡ 2 * (node / 2)
    → Covers nodes (node + 1) (b + 2 ^ k) k × Covers nodes (node / 2) b (suc k)
above n nodes node b k power c inner even =
    let m : ℕ = node / 2 in
    let twice : 2 ^ suc k ≡ 2 ^ k + 2 ^ k = two-pow-succ k in
    let whole : 2 ^ suc n ≡ 2 ^ n + 2 ^ n = two-pow-succ n in
    let some_width : 0 < 2 ^ k = pow_pos k in
    let pair : node ≡ m + m = omega arith in
    let split : (m + m) * 2 ^ k ≡ half nodes + b = subst (λ (i : ℕ). i * 2 ^ k ≡ half nodes + b) pair c.0 in
    let product : m * 2 ^ suc k ≡ m * (2 ^ k + 2 ^ k) = ap (λ (w : ℕ). m * w) twice in
    let room : m * 2 ^ suc k + 2 ^ suc k ≤ 2 ^ suc n = next_within (suc k) (suc n) m (omega arith) (omega (arith, c.1)) in
    ((omega (arith, c.0), omega arith), (omega arith, omega arith))

-- so have a node and the one to its left
above_left : (n : ℕ) (nodes : List ℕ) (node b k : ℕ) → half nodes ≡ 2 ^ n → Covers nodes node b k → 1 < node → node ≡ 2 * (node / 2) + 1
    → (2 ^ k ≤ b) × Covers nodes (node / 2) (b - 2 ^ k) (suc k)
above_left n nodes node b k power c inner odd =
    let m : ℕ = node / 2 in
    let twice : 2 ^ suc k ≡ 2 ^ k + 2 ^ k = two-pow-succ k in
    let some_width : 0 < 2 ^ k = pow_pos k in
    let pair : node ≡ m + m + 1 = omega arith in
    let split : (m + m + 1) * 2 ^ k ≡ half nodes + b = subst (λ (i : ℕ). i * 2 ^ k ≡ half nodes + b) pair c.0 in
    let product : m * 2 ^ suc k ≡ m * (2 ^ k + 2 ^ k) = ap (λ (w : ℕ). m * w) twice in
    let low : 2 ^ n ≤ m * 2 ^ suc k = elim (cases_lt (m * 2 ^ suc k) (2 ^ n)) [
      | inl lt ↦
          let room : m * 2 ^ suc k + 2 ^ suc k ≤ 2 ^ n = next_within (suc k) n m (omega arith) lt in
          absurd (omega arith)
      | inr le ↦ le
    ] in
    (omega arith, (omega arith, omega (arith, c.1)))

pub beside_found : (n : ℕ) (nodes : List ℕ) (now at node : ℕ) → half nodes ≡ 2 ^ n → IsPassed nodes now at node → 1 < node → node % 2 ≡ 0 → get_or nodes (node + 1) 0 < now
    → IsBeside nodes now at (node + 1)
beside_found n nodes now at node power w inner even due =
    let a = above n nodes node w.from w.width power w.covers inner (omega arith) in
    record { from = w.from + 2 ^ w.width; width = w.width; covers = a.0; behind = w.high; due = due; none = w.none }

pub passed_left : (n : ℕ) (nodes : List ℕ) (now at node : ℕ) → half nodes ≡ 2 ^ n → AreLesser nodes → IsPassed nodes now at node → 1 < node → node % 2 ≡ 0 → now ≤ get_or nodes (node + 1) 0
    → IsPassed nodes now at (node / 2)
passed_left n nodes now at node power lesser w inner even over =
    let a = above n nodes node w.from w.width power w.covers inner (omega arith) in
    let twice : 2 ^ suc w.width ≡ 2 ^ w.width + 2 ^ w.width = two-pow-succ w.width in
    let low = w.low in
    let high = w.high in
    record {
      from = w.from;
      width = suc w.width;
      covers = a.1;
      low = w.low;
      high = omega arith;
      none = λ p before lt.
          elim (cases_lt p (w.from + 2 ^ w.width)) [
            | inl earlier ↦ w.none p before earlier
            | inr there ↦
                let le = below_least w.width nodes (node + 1) (w.from + 2 ^ w.width) p lesser (omega arith) a.0.0 a.0.1 there (omega arith) in
                omega arith
          ];
    }

pub passed_right : (n : ℕ) (nodes : List ℕ) (now at node : ℕ) → half nodes ≡ 2 ^ n → IsPassed nodes now at node → 1 < node → (node % 2 ≡ 0 → ⊥) → IsPassed nodes now at (node / 2)
passed_right n nodes now at node power w inner odd =
    let a = above_left n nodes node w.from w.width power w.covers inner (omega arith) in
    let twice : 2 ^ suc w.width ≡ 2 ^ w.width + 2 ^ w.width = two-pow-succ w.width in
    let low = w.low in
    let high = w.high in
    let same : w.from - 2 ^ w.width + 2 ^ suc w.width ≡ w.from + 2 ^ w.width = omega (arith, a.0) in
    record {
      from = w.from - 2 ^ w.width;
      width = suc w.width;
      covers = a.1;
      low = omega arith;
      high = omega arith;
      none = λ p before lt. w.none p before (omega arith);
    }

-- the first block that is due below the node beside is the next one
pub next_behind : (nodes : List ℕ) (now at node next : ℕ) → (w : IsBeside nodes now at node) → IsNextDue nodes now w.from next → IsNextDue nodes now (at + 1) next
next_behind nodes now at node next w n =
    let behind = w.behind in
    let low = n.low in
    record {
      low = omega arith;
      within = n.within;
      due = n.due;
      none = λ p after lt.
          elim (cases_lt p w.from) [
            | inl before ↦ w.none p (omega arith) before
            | inr there ↦ n.none p there lt
          ];
    }

-- node 1 has all blocks below it
pub covers_all : (nodes : List ℕ) → IsTree nodes → 0 < half nodes → (k : ℕ) × Covers nodes 1 0 k
covers_all nodes tree some = (let w = tree.power some in (w.0, (omega (arith, w.1), omega (arith, w.1))))

-- where it isn't before a moment, none is
pub all_over : (nodes : List ℕ) (now : ℕ) → IsTree nodes → now ≤ get_or nodes 1 0 → (p : ℕ) → p < half nodes → now ≤ get_or nodes (half nodes + p) 0
all_over nodes now tree over p lt =
    let le = first_least (half nodes + p) nodes (half nodes + p) tree.lesser (omega arith) (omega arith) (omega arith) in
    omega arith

-- the positions that are due, from the first one on

-- that position, and those behind it
abbrev pub onward : ℕ → List (Option LiveState) → ℕ → Option ℕ → List ℕ
onward now held n None = []
onward now held n (Some at) = at ∷ due_from now held (at + 1) (n - (at + 1))

-- how many blocks there are from it on
abbrev pub to_go : ℕ → Option ℕ → ℕ
to_go n None = 0
to_go n (Some at) = n - at

from_next : {A : Type 0} → (d : Deadlines A) (held : List (Option LiveState)) (now b at : ℕ) → KeepsDeadlinesOf d held → now < 2 ^ 64 → IsNextDue d.nodes.items now b at
    → due_from now held b (half d.nodes.items - b) ≡ onward now held (half d.nodes.items) (Some at)
from_next d held now b at keeps fits next =
    let n : ℕ = half d.nodes.items in
    let low = next.low in
    let within = next.within in
    let parts : n - b ≡ (at - b) + suc (n - (at + 1)) = omega arith in
    let there : b + (at - b) ≡ at = omega arith in
    let before : due_from now held b (at - b) ≡ [] = from_none now held b (at - b) (λ p after lt. lives_from d held p now keeps fits (λ in_nodes. next.none p after (omega arith))) in
    let here : is_dead (get_or held at None) now ≡ true = dead_from d held at now keeps fits next.within next.due in
    rw (parts, from_split now held b (at - b) (suc (n - (at + 1))), before, there, here) refl

-- where there is one, and where there is none
pub first_onward : {A : Type 0} → (d : Deadlines A) (held : List (Option LiveState)) (now : ℕ) (next : Option ℕ) → KeepsDeadlinesOf d held → now < 2 ^ 64
    → IfSome next (λ at. IsNextDue d.nodes.items now 0 at)
    → IfNone next ((p : ℕ) → p < half d.nodes.items → now ≤ get_or d.nodes.items (half d.nodes.items + p) 0)
    → onward now held (half d.nodes.items) next ≡ due_positions now 0 held
first_onward d held now (Some at) keeps fits found none = sym (from_next d held now 0 at keeps fits found) ∙ all_due d held now (half d.nodes.items - 0) keeps (omega arith)
first_onward d held now None keeps fits found none =
    sym (from_none now held 0 (half d.nodes.items) (λ p low lt. lives_from d held p now keeps fits (λ in_nodes. none p in_nodes)))
    ∙ all_due d held now (half d.nodes.items) keeps refl

pub next_onward : {A : Type 0} → (d : Deadlines A) (held : List (Option LiveState)) (now at : ℕ) (next : Option ℕ) → KeepsDeadlinesOf d held → now < 2 ^ 64
    → IfSome next (λ p. IsNextDue d.nodes.items now (at + 1) p)
    → IfNone next ((p : ℕ) → at < p → p < half d.nodes.items → now ≤ get_or d.nodes.items (half d.nodes.items + p) 0)
    → due_from now held (at + 1) (half d.nodes.items - (at + 1)) ≡ onward now held (half d.nodes.items) next
next_onward d held now at (Some p) keeps fits found none = from_next d held now (at + 1) p keeps fits found
next_onward d held now at None keeps fits found none =
    from_none now held (at + 1) (half d.nodes.items - (at + 1)) (λ p low lt. lives_from d held p now keeps fits (λ in_nodes. none p (omega arith) in_nodes))

-- it is the position of a block, and ever fewer are behind it
pub next_in_nodes : (nodes : List ℕ) (now b : ℕ) (next : Option ℕ) → IfSome next (λ at. IsNextDue nodes now b at) → IfSome next (λ at. at < half nodes)
next_in_nodes nodes now b (Some at) found = found.within
next_in_nodes nodes now b None found = found

pub to_go_less : (nodes : List ℕ) (now at : ℕ) (old next : Option ℕ) → old ≡ Some at → at < half nodes → IfSome next (λ p. IsNextDue nodes now (at + 1) p) → to_go (half nodes) next < to_go (half nodes) old
to_go_less nodes now at old (Some p) is lt found =
    let low = found.low in
    let within = found.within in
    let e : to_go (half nodes) old ≡ half nodes - at = ap (to_go (half nodes)) is in
    rw e (omega arith)
to_go_less nodes now at old None is lt found =
    let e : to_go (half nodes) old ≡ half nodes - at = ap (to_go (half nodes)) is in
    rw e (omega arith)

-- the deadlines through a change of one

-- a register that was cleared holds nothing
cleared_at : (held : List (Option LiveState)) (a : ℕ) → get_or (set held a None) a None ≡ None
cleared_at held a =
    elim (cases_lt a (length held)) [
      | inl lt ↦ get_or-set_same held a None None lt
      | inr past ↦ let size = length-set held a None in get_or_past (set held a None) a None (omega (arith, size))
    ]

-- one block holds something else
keeps_put : {A : Type 0} → (d n : Deadlines A) (held : List (Option LiveState)) (at last : ℕ) (new : Option LiveState) → get_or (set held at new) at None ≡ new
    → ((now : ℕ) → now < 2 ^ 64 → is_dead new now ≡ ltb last now)
    → length n.nodes.items ≡ length d.nodes.items → (AreLesser d.nodes.items → AreLesser n.nodes.items)
    → (at < half d.nodes.items → get_or n.nodes.items (half d.nodes.items + at) 0 ≡ last)
    → ((p : ℕ) → (p ≡ at → ⊥) → get_or n.nodes.items (half d.nodes.items + p) 0 ≡ get_or d.nodes.items (half d.nodes.items + p) 0)
    → KeepsDeadlinesOf d held → KeepsDeadlinesOf n (set held at new)
keeps_put d n held at last new is e size lesser here others k =
    let same : half n.nodes.items ≡ half d.nodes.items = ap (λ (m : ℕ). m / 2) size in
    let long = length-set held at new in
    let room = k.room in
    record {
      room = omega arith;
      tree = record { power = λ some. let w = k.tree.power (omega arith) in (w.0, same ∙ w.1); lesser = lesser k.tree.lesser };
      each = λ p now lt fits.
          rw same
          (elim (cases_eq p at) [
            | inl eq ↦
                subst (λ (q : ℕ). is_dead (get_or (set held at new) q None) now ≡ ltb (get_or n.nodes.items (half d.nodes.items + q) 0) now) (sym eq)
                (ap (λ (o : Option LiveState). is_dead o now) is ∙ (e now fits ∙ ap (λ (m : ℕ). ltb m now) (sym (here (omega arith)))))
            | inr other ↦
                ap (λ (o : Option LiveState). is_dead o now) (get_or-set_other held at p new None other)
                ∙ (k.each p now (omega arith) fits ∙ ap (λ (m : ℕ). ltb m now) (sym (others p other)))
          ]);
    }

-- it is due at all moments behind its last one
last_moment : (new : LiveState) (now : ℕ) → 0 < new.deadline → now < 2 ^ 64 → is_dead (Some new) now ≡ ltb (min (new.deadline - 1) (2 ^ 64 - 1)) now
last_moment new now some fits =
    elim (cases_lt now new.deadline) [
      | inl lt ↦ lt-leb new.deadline now lt ∙ sym (le-ltb (min (new.deadline - 1) (2 ^ 64 - 1)) now (omega arith))
      | inr le ↦ le-leb new.deadline now le ∙ sym (lt-ltb (min (new.deadline - 1) (2 ^ 64 - 1)) now (omega arith))
    ]

pub renewed : {A : Type 0} → (d n : Deadlines A) (held : List (Option LiveState)) (at last deadline : ℕ) (new : LiveState) → last ≡ min (deadline - 1) (2 ^ 64 - 1) → 0 < deadline
    → at < length held → new.deadline ≡ deadline
    → length n.nodes.items ≡ length d.nodes.items → (AreLesser d.nodes.items → AreLesser n.nodes.items)
    → (at < half d.nodes.items → get_or n.nodes.items (half d.nodes.items + at) 0 ≡ last)
    → ((p : ℕ) → (p ≡ at → ⊥) → get_or n.nodes.items (half d.nodes.items + p) 0 ≡ get_or d.nodes.items (half d.nodes.items + p) 0)
    → KeepsDeadlinesOf d held → KeepsDeadlinesOf n (set held at (Some new))
renewed d n held at last deadline new is some lt e size lesser here others k =
    keeps_put d n held at last (Some new) (get_or-set_same held at (Some new) None lt)
    (λ now fits. last_moment new now (omega arith) fits ∙ ap (λ (m : ℕ). ltb m now) (ap (λ (m : ℕ). min (m - 1) (2 ^ 64 - 1)) e ∙ sym is))
    size lesser here others k

-- no moment comes behind the greatest
pub none_held : (now : ℕ) → now < 2 ^ 64 → false ≡ ltb (2 ^ 64 - 1) now
none_held now fits = sym (le-ltb (2 ^ 64 - 1) now (omega arith))

pub let_go : {A : Type 0} → (d n : Deadlines A) (held : List (Option LiveState)) (at : ℕ)
    → length n.nodes.items ≡ length d.nodes.items → (AreLesser d.nodes.items → AreLesser n.nodes.items)
    → (at < half d.nodes.items → get_or n.nodes.items (half d.nodes.items + at) 0 ≡ 2 ^ 64 - 1)
    → ((p : ℕ) → (p ≡ at → ⊥) → get_or n.nodes.items (half d.nodes.items + p) 0 ≡ get_or d.nodes.items (half d.nodes.items + p) 0)
    → KeepsDeadlinesOf d held → KeepsDeadlinesOf n (set held at None)
let_go d n held at size lesser here others k =
    keeps_put d n held at (2 ^ 64 - 1) None (cleared_at held at) none_held size lesser here others k

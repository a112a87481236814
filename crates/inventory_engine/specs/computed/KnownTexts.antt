-- What is held of each control block and stream that was seen, in order.
use Rattle.std.specs.Prelude.{◌≡◌, ℕ, min, List, [], ◌∷◌, length, take, drop, slice_index_or, slice_set, Bool, Option, Some, None, if◌then◌else◌}
use Rattle.std.specs.Ordering.{nat_cmp, is_eq, ordering_then}
use Rattle.std.specs.Cmp.Lexicographic.{slice_cmp}
use Rattle.std.specs.declared.cmp.Ordering.{Ordering}
use Rattle.known_core.specs.declared.runs.Place.{Place}
use Rattle.known_core.specs.declared.runs.Runs.{Runs}
use Rattle.known_core.specs.computed.Held.{IsCompact, held, position_of}
use Rattle.known_core.specs.computed.Order.{Ascends}
use Rattle.known_core.specs.computed.Rank.{rank}
use Rattle.inventory_engine.specs.declared.known.Known.{Known}
use Rattle.inventory_engine.specs.Sightings.{Key}

-- streams come first, then control blocks by their APPIDs, and all then by gocbRef or svID
abbrev pub key_cmp : Key → Key → Ordering
key_cmp x y = ordering_then (nat_cmp (rank x.0) (rank y.0)) (slice_cmp nat_cmp x.1 y.1)

-- two keys are one
abbrev pub same_key : Key → Key → Bool
same_key x y = is_eq (key_cmp x y)

-- where the text begins in the octets of what is held, behind its name
abbrev pub text_start : {A : Type 0} → Known A → ℕ
text_start k = min k.text_at (length k.octets)

-- its gocbRef or svID
abbrev pub known_name : {A : Type 0} → Known A → List ℕ
known_name k = take (text_start k) k.octets

-- the key of what is held
abbrev pub known_key : {A : Type 0} → Known A → Key
known_key k = (k.app_id, known_name k)

-- how what is held stands to a key
abbrev pub by_key : {A : Type 0} → Key → Known A → Ordering
by_key key k = key_cmp (known_key k) key

-- the text that was written of it last
abbrev pub known_text : {A : Type 0} → Known A → List ℕ
known_text k = drop (text_start k) k.octets

-- the text of the first of several things with this key
abbrev pub text_by : {X : Type 0} → (X → Key) → (X → List ℕ) → List X → Key → Option (List ℕ)
text_by key text [] k = None
text_by key text (x ∷ xs) k = if same_key (key x) k then Some (text x) else text_by key text xs k

-- each stands before those behind it
abbrev pub InOrder : {A : Type 0} → List (Known A) → Type 0
InOrder known = Ascends key_cmp known_key known

-- what is held of all that was seen
abbrev pub Inventory : Type 0 → Type 0
Inventory A = Runs (Known A) A

-- the one at the place has this text then, and all else stays
pub record WritesText {A : Type 0} (old new : Inventory A) (place : Place) (text : List ℕ) : Type 0 where
  pub one : Known A
  pub written : held new ≡ slice_set (held old) (position_of old place) one
  pub same_key : (d : Known A) → known_key one ≡ known_key (slice_index_or (held old) (position_of old place) d)
  pub has_text : known_text one ≡ text
  pub runs : IsCompact old → IsCompact new

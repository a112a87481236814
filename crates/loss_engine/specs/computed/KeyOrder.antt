-- The order in which senders and streams are held: by APPID, then by the length of the name and the name, then by the rest.
use Rattle.std.specs.Prelude.{ℕ, Bool, true, false, List, [], length}
use Rattle.std.specs.Ordering.{nat_cmp, ordering_then}
use Rattle.std.specs.Cmp.Lexicographic.{slice_cmp}
use Rattle.std.specs.declared.cmp.Ordering.{Ordering}
use Rattle.loss_engine.specs.Sights.{Key, sender, stream}

-- the APPID of a key
abbrev pub app_id_of : Key → ℕ
app_id_of (sender app_id reference simulation) = app_id
app_id_of (stream app_id source id) = app_id

-- its gocbRef or svID
abbrev pub name_of : Key → List ℕ
name_of (sender app_id reference simulation) = reference
name_of (stream app_id source id) = id

-- a stream, a sender, and a simulated one
abbrev pub rank_by : Bool → ℕ
rank_by false = 1
rank_by true = 2

abbrev pub rank_of : Key → ℕ
rank_of (sender app_id reference simulation) = rank_by simulation
rank_of (stream app_id source id) = 0

-- its source address, which a sender has none of
abbrev pub source_of : Key → List ℕ
source_of (sender app_id reference simulation) = []
source_of (stream app_id source id) = source

-- names are ordered by their lengths, and then octet by octet
abbrev pub name_cmp : List ℕ → List ℕ → Ordering
name_cmp x y = ordering_then (nat_cmp (length x) (length y)) (slice_cmp nat_cmp x y)

-- the order of keys
abbrev pub key_cmp : Key → Key → Ordering
key_cmp x y = ordering_then (nat_cmp (app_id_of x) (app_id_of y)) (ordering_then (name_cmp (name_of x) (name_of y)) (ordering_then (nat_cmp (rank_of x) (rank_of y)) (slice_cmp nat_cmp (source_of x) (source_of y))))

-- What is held of senders and streams.
use Rattle.std.specs.Prelude.{◌≡◌, ℕ, take, slice_get, true, List, map, Option, Some, None}
use Rattle.loss_engine.specs.declared.entry.Entry.{Entry}
use Rattle.loss_engine.specs.declared.entry.Origin.{Origin}
use Rattle.loss_engine.specs.declared.entry.Origin.TheVariants as origin
use Rattle.loss_engine.specs.declared.entry.Progress.{Progress as Held}
use Rattle.loss_engine.specs.declared.entry.Progress.TheVariants as held
use Rattle.loss_engine.specs.Sights.{Key, sender, stream, same_key}
use Rattle.loss_engine.specs.computed.Tracking.{Progress, Tracked, frames, samples, counted, known_of}

-- the key by these parts
abbrev pub key_by : ℕ → Origin → List ℕ → Key
key_by app_id (origin.Sender simulation) name = sender app_id name simulation
key_by app_id (origin.Stream source) name = stream app_id source name

-- the key of an entry
abbrev pub entry_key : {A : Type 0} → Entry A → Key
entry_key e = key_by e.app_id e.origin e.name

-- what is kept of one
abbrev pub progress_of : Held → Progress
progress_of (held.Frames t) = frames t
progress_of (held.Samples t z) = samples t z
progress_of (held.Counted n z) = counted n z

-- an entry as one that is tracked
abbrev pub tracked_by : {A : Type 0} → Entry A → Tracked
tracked_by e = record { key = entry_key e; progress = progress_of e.progress }

-- all entries
abbrev pub all_tracked : {A : Type 0} → List (Entry A) → List Tracked
all_tracked entries = map tracked_by entries

-- the first of those that are tracked with a key stands here
pub record IsFirstAt (xs : List Tracked) (key : Key) (at : ℕ) : Type 0 where
  pub found : Tracked
  pub there : slice_get xs at ≡ Some found
  pub is : same_key found.key key ≡ true
  pub none_before : known_of (take at xs) key ≡ None

-- a search finds the first with a key, or there is none
abbrev pub Finds : List Tracked → Key → Option ℕ → Type 0
Finds xs key None = known_of xs key ≡ None
Finds xs key (Some at) = IsFirstAt xs key at

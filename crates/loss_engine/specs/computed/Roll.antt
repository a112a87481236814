-- Where a key stands among the entries that are held.
use Rattle.std.specs.Prelude.{◌≡◌, ℕ, ◌<◌, List, length, slice_index_or}
use Rattle.loss_engine.specs.declared.entry.Entry.{Entry}
use Rattle.loss_engine.specs.Sights.{Key}
use Rattle.loss_engine.specs.computed.Entries.{entry_key}

-- the entry at a position has the key
pub record HasKeyAt {A : Type 0} (entries : List (Entry A)) (key : Key) (at : ℕ) : Type 0 where
  pub within : at < length entries
  pub has : (d : Entry A) → entry_key (slice_index_or entries at d) ≡ key

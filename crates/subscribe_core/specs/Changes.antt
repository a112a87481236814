-- Which entries are changes: all but those of frames that say nothing new, and of frames that are no subscriber's.
use Rattle.std.specs.Prelude.{Bool, true, false, List, filter}
use Rattle.subscribe_core.specs.declared.entry.Entry.{Entry}
use Rattle.subscribe_core.specs.declared.entry.Entry.TheVariants as says

-- the entry is a change: what the block holds is another, or the frame is not as it should be
abbrev pub is_change : {A : Type 0} → Entry A → Bool
is_change (says.Expired block) = true
is_change (says.Switched block) = true
is_change (says.Act block state sequence t members) = true
is_change (says.Refreshed block state sequence) = false
is_change (says.Repeated block state sequence) = false
is_change (says.Older block state sequence) = true
is_change (says.Refused block reason) = true
is_change says.NotSubscribed = false
is_change says.Sampled = false
is_change (says.Faulty fault) = true

-- the changes among entries, in their order
abbrev pub changes : {A : Type 0} → List (Entry A) → List (Entry A)
changes entries = filter is_change entries

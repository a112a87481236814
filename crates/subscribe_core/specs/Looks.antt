-- How many blocks expire at an event or are switched, by which a subscriber's reaches are bounded.
use Rattle.std.specs.Prelude.{ℕ, ◌+◌, List, [], ◌∷◌}
use Rattle.list_core.specs.declared.event.EventKind.{EventKind}
use Rattle.list_core.specs.declared.event.EventKind.TheVariants as kinds
use Rattle.subscribe_core.specs.declared.entry.Entry.{Entry}
use Rattle.subscribe_core.specs.declared.entry.Entry.TheVariants as says

-- how many of the entries are expiries
abbrev pub expired_count : {A : Type 0} → List (Entry A) → ℕ
expired_count [] = 0
expired_count (says.Expired b ∷ es) = expired_count es + 1
expired_count (e ∷ es) = expired_count es

-- how many of the entries are switches
abbrev pub switched_count : {A : Type 0} → List (Entry A) → ℕ
switched_count [] = 0
switched_count (says.Switched b ∷ es) = switched_count es + 1
switched_count (e ∷ es) = switched_count es

-- how often an event with these entries reaches blocks, besides those that expire: that of a frame twice, and each one that a
-- mode event switches once
abbrev pub other_reaches : {A : Type 0} → EventKind A → List (Entry A) → ℕ
other_reaches (kinds.Frame o) es = 2
other_reaches kinds.Clock es = 0
other_reaches (kinds.Mode on) es = switched_count es

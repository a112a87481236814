-- Which values have a spelling.
use Rattle.std.specs.Prelude.{◌≡◌, ◌≤◌, ◌<◌, ◌+◌, ◌^◌, ℕ, pos, List, length}
use Rattle.ber_core.specs.Contents.{AreVisible}
use Rattle.mms_data.specs.Contents.{IsSigned, IsUnsigned, IsFewOctets, IsTimeCount, IsUnused, cleared}
use Rattle.mms_data.specs.Data.{Simple, boolean, bits, integer, unsigned, floating, octets, visible, binary_time, mms_text, utc, Data, simple, array, structure, Items, no_items, item, items_of}
use Rattle.mms_data.specs.declared.time.UtcTime.{UtcTime}

-- seconds of four octets, a fraction of three, a quality of one
abbrev pub IsTime : UtcTime → Type 0
IsTime t = (t.seconds < 2 ^ 32) × (t.fraction < 2 ^ 24) × (t.quality < 2 ^ 8)

-- a simple value that has a spelling: counts, ranges and characters as its kind has them, unused bits 0
abbrev pub IsSpellableSimple : Simple → Type 0
IsSpellableSimple (boolean b) = Unit {0}
IsSpellableSimple (bits unused ns) = IsUnused unused ns × (cleared unused ns ≡ ns)
IsSpellableSimple (integer n) = IsSigned n
IsSpellableSimple (unsigned n) = IsUnsigned (pos n)
IsSpellableSimple (floating ns) = IsFewOctets (length ns)
IsSpellableSimple (octets ns) = Unit {0}
IsSpellableSimple (visible ns) = AreVisible ns
IsSpellableSimple (binary_time ns) = IsTimeCount (length ns)
IsSpellableSimple (mms_text ns) = Unit {0}
IsSpellableSimple (utc t) = IsTime t

abbrev mutual
  -- a value that has a spelling at the level: at most 16, and its members have one at the next
  pub IsSpellableAt : Data → ℕ → Type 0
  IsSpellableAt (simple s) L = (L ≤ 16) × IsSpellableSimple s
  IsSpellableAt (array ds) L = (L ≤ 16) × ItemsAreSpellable ds (L + 1)
  IsSpellableAt (structure ds) L = (L ≤ 16) × ItemsAreSpellable ds (L + 1)

  -- members, each of which has a spelling at the level
  pub ItemsAreSpellable : Items → ℕ → Type 0
  ItemsAreSpellable no_items L = Unit {0}
  ItemsAreSpellable (item d ds) L = IsSpellableAt d L × ItemsAreSpellable ds L

-- a list of values, each of which has a spelling at the level
abbrev pub AllAreSpellable : List Data → ℕ → Type 0
AllAreSpellable ds L = ItemsAreSpellable (items_of ds) L

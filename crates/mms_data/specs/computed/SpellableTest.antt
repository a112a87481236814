-- Whether a value has a spelling, as a test.
use Rattle.std.specs.Prelude.{◌+◌, ◌-◌, ◌%◌, ◌^◌, ◌==◌, ◌&&◌, ℕ, ℤ, pos, negsuc, Bool, true, false, nat_le, nat_lt, List, [], ◌∷◌, length, slice_index, Result, Ok, Err}
use Rattle.ber_core.specs.computed.ContentsReading.{all_visible_at}
use Rattle.ber_core.specs.declared.fault.Fault.{Fault}
use Rattle.mms_data.specs.computed.ContentsReading.{is_few_octets, is_time_count}
use Rattle.mms_data.specs.Data.{Simple, boolean, bits, integer, unsigned, floating, octets, visible, binary_time, mms_text, utc, Data, simple, array, structure, Items, no_items, item, items_of}
use Rattle.mms_data.specs.declared.time.UtcTime.{UtcTime}

abbrev pub is_text_read : Result (Unit {0}) Fault → Bool
is_text_read (Ok u) = true
is_text_read (Err f) = false

abbrev pub is_text : List ℕ → Bool
is_text ns = is_text_read (all_visible_at 0 ns)

abbrev pub are_bits : ℕ → List ℕ → Bool
are_bits unused [] = unused == 0
are_bits unused (n ∷ ns) = nat_le unused 7 && slice_index (n ∷ ns) (length (n ∷ ns) - 1) % 2 ^ unused == 0

abbrev pub is_time : UtcTime → Bool
is_time t = nat_lt t.seconds (2 ^ 32) && (nat_lt t.fraction (2 ^ 24) && nat_lt t.quality (2 ^ 8))

abbrev pub is_signed : ℤ → Bool
is_signed (pos n) = nat_lt n (2 ^ 63)
is_signed (negsuc n) = nat_lt n (2 ^ 63)

abbrev pub is_spellable_simple : Simple → Bool
is_spellable_simple (boolean b) = true
is_spellable_simple (bits unused ns) = are_bits unused ns
is_spellable_simple (integer n) = is_signed n
is_spellable_simple (unsigned n) = nat_lt n (2 ^ 64)
is_spellable_simple (floating ns) = is_few_octets (length ns)
is_spellable_simple (octets ns) = true
is_spellable_simple (visible ns) = is_text ns
is_spellable_simple (binary_time ns) = is_time_count (length ns)
is_spellable_simple (mms_text ns) = true
is_spellable_simple (utc t) = is_time t

abbrev mutual
  pub is_spellable_at : Data → ℕ → Bool
  is_spellable_at (simple s) L = nat_le L 16 && is_spellable_simple s
  is_spellable_at (array ds) L = nat_le L 16 && items_are_spellable ds (L + 1)
  is_spellable_at (structure ds) L = nat_le L 16 && items_are_spellable ds (L + 1)

  pub items_are_spellable : Items → ℕ → Bool
  items_are_spellable no_items L = true
  items_are_spellable (item d ds) L = is_spellable_at d L && items_are_spellable ds L

abbrev pub all_are_spellable : List Data → ℕ → Bool
all_are_spellable ds L = items_are_spellable (items_of ds) L

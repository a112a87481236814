-- Which values are kept without memory of their own.
use Rattle.std.specs.Prelude.{◌≡◌, []}
use Rattle.mms_data.specs.Data.{Simple, boolean, bits, integer, unsigned, floating, octets, visible, binary_time, mms_text, utc, Data, simple, array, structure, no_items}

-- a simple value that holds no octets
abbrev pub HoldsNoOctets : Simple → Type 0
HoldsNoOctets (boolean b) = Unit {0}
HoldsNoOctets (bits unused ns) = ns ≡ []
HoldsNoOctets (integer n) = Unit {0}
HoldsNoOctets (unsigned n) = Unit {0}
HoldsNoOctets (floating ns) = ns ≡ []
HoldsNoOctets (octets ns) = ns ≡ []
HoldsNoOctets (visible ns) = ns ≡ []
HoldsNoOctets (binary_time ns) = ns ≡ []
HoldsNoOctets (mms_text ns) = ns ≡ []
HoldsNoOctets (utc t) = Unit {0}

-- a value that holds no octets and no members, and so needs no memory
abbrev pub NeedsNoMemory : Data → Type 0
NeedsNoMemory (simple s) = HoldsNoOctets s
NeedsNoMemory (array ds) = ds ≡ no_items
NeedsNoMemory (structure ds) = ds ≡ no_items

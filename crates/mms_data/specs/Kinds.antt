-- The kinds of Data and their identifiers (ISO 9506-2, Data, in the context class).
use Rattle.std.specs.Prelude.{◌≡◌, ℕ}
use Rattle.mms_data.specs.Data.{Simple, boolean, bits, integer, unsigned, floating, octets, visible, binary_time, mms_text, utc}
use Rattle.mms_data.specs.declared.kinds.Kind.{Kind}
use Rattle.mms_data.specs.declared.kinds.Kind.TheVariants.{Array, Structure, Simple as of_kind}
use Rattle.mms_data.specs.declared.kinds.SimpleKind.{SimpleKind}
use Rattle.mms_data.specs.declared.kinds.SimpleKind.TheVariants as kinds

-- the identifier of a kind without members
abbrev pub simple_identifier : SimpleKind → ℕ
simple_identifier kinds.Boolean = 0x83
simple_identifier kinds.BitString = 0x84
simple_identifier kinds.Integer = 0x85
simple_identifier kinds.Unsigned = 0x86
simple_identifier kinds.FloatingPoint = 0x87
simple_identifier kinds.OctetString = 0x89
simple_identifier kinds.VisibleString = 0x8a
simple_identifier kinds.BinaryTime = 0x8c
simple_identifier kinds.MmsString = 0x90
simple_identifier kinds.UtcTime = 0x91

-- the identifier of a kind
abbrev pub identifier_of : Kind → ℕ
identifier_of Array = 0xa1
identifier_of Structure = 0xa2
identifier_of (of_kind k) = simple_identifier k

-- the kind of a simple value
abbrev pub simple_kind : Simple → SimpleKind
simple_kind (boolean b) = kinds.Boolean
simple_kind (bits n ns) = kinds.BitString
simple_kind (integer n) = kinds.Integer
simple_kind (unsigned n) = kinds.Unsigned
simple_kind (floating ns) = kinds.FloatingPoint
simple_kind (octets ns) = kinds.OctetString
simple_kind (visible ns) = kinds.VisibleString
simple_kind (binary_time ns) = kinds.BinaryTime
simple_kind (mms_text ns) = kinds.MmsString
simple_kind (utc t) = kinds.UtcTime

-- the identifier announces a kind
abbrev pub IsKnown : ℕ → Type 0
IsKnown id = (k : Kind) × (id ≡ identifier_of k)

-- The written form of a value: of its spellings the one with the fewest octets everywhere, FF for true, unused
-- bits 0 (profile).
use Rattle.std.specs.Prelude.{◌<◌, ◌+◌, ◌^◌, ℕ, pos, nat_lt, if◌then◌else◌, Bool, true, false, List, [], ◌∷◌, ◌++◌, length}
use Rattle.byteorder.specs.Endian.{big_bytes}
use Rattle.ber_core.specs.Written.{number_size, short_integer, written_element}
use Rattle.mms_data.specs.Data.{Simple, boolean, bits, integer, unsigned, floating, octets, visible, binary_time, mms_text, utc, Data, simple, array, structure, Items, no_items, item, items_of}
use Rattle.mms_data.specs.Kinds.{simple_identifier, simple_kind}
use Rattle.mms_data.specs.declared.time.UtcTime.{UtcTime}

-- four octets of seconds, three of fraction, one of quality
abbrev pub written_time : UtcTime → List ℕ
written_time t = big_bytes 4 t.seconds ++ (big_bytes 3 t.fraction ++ t.quality ∷ [])

-- FF for true, 0 for false
abbrev pub truth_octet : Bool → ℕ
truth_octet true = 255
truth_octet false = 0

-- the written contents of a simple value
abbrev pub simple_contents : Simple → List ℕ
simple_contents (boolean b) = truth_octet b ∷ []
simple_contents (bits unused ns) = unused ∷ ns
simple_contents (integer n) = short_integer n
simple_contents (unsigned n) = short_integer (pos n)
simple_contents (floating ns) = ns
simple_contents (octets ns) = ns
simple_contents (visible ns) = ns
simple_contents (binary_time ns) = ns
simple_contents (mms_text ns) = ns
simple_contents (utc t) = written_time t

abbrev mutual
  -- the written form of a value
  pub written : Data → List ℕ
  written (simple s) = written_element (simple_identifier (simple_kind s)) (simple_contents s)
  written (array ds) = written_element 0xa1 (written_items ds)
  written (structure ds) = written_element 0xa2 (written_items ds)

  -- the written forms of members, one after the other
  pub written_items : Items → List ℕ
  written_items no_items = []
  written_items (item d ds) = written d ++ written_items ds

-- the written forms of a list of values, one after the other
abbrev pub written_all : List Data → List ℕ
written_all ds = written_items (items_of ds)

-- the contents of the written form
abbrev pub written_contents : Data → List ℕ
written_contents (simple s) = simple_contents s
written_contents (array ds) = written_items ds
written_contents (structure ds) = written_items ds

-- the octets of an identifier and the shortest length of n octets of contents
abbrev pub header_size : ℕ → ℕ
header_size n = if nat_lt n 128 then 2 else 2 + number_size n

-- the contents have at most 4294967295 octets: the value has a written form
abbrev pub HasWritten : Data → Type 0
HasWritten d = length (written_contents d) < 2 ^ 32

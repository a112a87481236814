-- The value of Data that a `Value` of the code stands for.
use Rattle.std.specs.Prelude.{List, map}
use Rattle.mms_data.specs.Data.{Data, simple, array, structure, boolean, bits, integer, unsigned, floating, octets, visible, binary_time, mms_text, utc, items_of}
use Rattle.mms_data.specs.declared.value.Value.{Value}
use Rattle.mms_data.specs.declared.value.Value.TheVariants as variants

-- what a value stands for
abbrev pub data_of : {A : Type 0} → Value A → Data
data_of (variants.Array ds) = array (items_of ds)
data_of (variants.Structure ds) = structure (items_of ds)
data_of (variants.Boolean b) = simple (boolean b)
data_of (variants.Bits b) = simple (bits b.unused b.octets)
data_of (variants.Integer n) = simple (integer n)
data_of (variants.Unsigned n) = simple (unsigned n)
data_of (variants.Floating o) = simple (floating o)
data_of (variants.Octets o) = simple (octets o)
data_of (variants.Visible o) = simple (visible o)
data_of (variants.BinaryTime o) = simple (binary_time o)
data_of (variants.MmsText o) = simple (mms_text o)
data_of (variants.Utc t) = simple (utc t)

-- what each of them stands for
abbrev pub datas : {A : Type 0} → List (Value A) → List Data
datas vs = map data_of vs

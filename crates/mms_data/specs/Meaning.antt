-- The value of Data that a `View` of the code stands for.
use Rattle.std.specs.Prelude.{List}
use Rattle.mms_data.specs.Data.{Data, simple, array, structure, boolean, bits, integer, unsigned, floating, octets, visible, binary_time, mms_text, utc, items_of}
use Rattle.mms_data.specs.Contents.{cleared}
use Rattle.mms_data.specs.computed.Left.{data_in}
use Rattle.mms_data.specs.declared.view.Members.{Members}
use Rattle.mms_data.specs.declared.view.View.{View}
use Rattle.mms_data.specs.declared.view.View.TheVariants as variants

-- the members still to come
abbrev pub left : Members → List Data
left m = data_in m.depth m.octets.now

-- what a view stands for
abbrev pub meaning : View → Data
meaning (variants.Array m) = array (items_of (left m))
meaning (variants.Structure m) = structure (items_of (left m))
meaning (variants.Boolean b) = simple (boolean b)
meaning (variants.Bits b) = simple (bits b.unused (cleared b.unused b.octets.now))
meaning (variants.Integer n) = simple (integer n)
meaning (variants.Unsigned n) = simple (unsigned n)
meaning (variants.Floating o) = simple (floating o.now)
meaning (variants.Octets o) = simple (octets o.now)
meaning (variants.Visible o) = simple (visible o.now)
meaning (variants.BinaryTime o) = simple (binary_time o.now)
meaning (variants.MmsText o) = simple (mms_text o.now)
meaning (variants.Utc t) = simple (utc t)

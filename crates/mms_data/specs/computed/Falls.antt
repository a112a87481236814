-- What stands inside a value is smaller than the value.
use Rattle.std.specs.Prelude.{◌+◌, ◌≤◌, max, List, [], ◌∷◌}
use Rattle.std.proofs.Common.{arith}
use denote.Param.Weighed.{most}
use Rattle.std.specs.declared.alloc.Allocator.{Ghosts}
use Rattle.mms_data.specs.declared.value.Value.{Value}
use Rattle.mms_data.specs.declared.value.Value.TheVariants.{Array, Structure, Boolean, Bits, Integer, Unsigned, Floating, Octets, Visible, BinaryTime, MmsText, Utc}
use Rattle.mms_data.specs.declared.value.ValueList.TheDeep.{deep-Value}
use Rattle.mms_data.specs.computed.Weight.{weight, weight_of_all}
use Rattle.mms_data.specs.Value.{data_of, datas}

pub deep_le-weight : (A : Type 0) (g : Ghosts A) (v : Value A) → deep-Value A g v ≤ 1 + weight (data_of v)
deep_le-weight A g (Array ds) = omega arith
deep_le-weight A g (Structure ds) = omega arith
deep_le-weight A g (Boolean b) = omega arith
deep_le-weight A g (Bits b) = omega arith
deep_le-weight A g (Integer n) = omega arith
deep_le-weight A g (Unsigned n) = omega arith
deep_le-weight A g (Floating o) = omega arith
deep_le-weight A g (Octets o) = omega arith
deep_le-weight A g (Visible o) = omega arith
deep_le-weight A g (BinaryTime o) = omega arith
deep_le-weight A g (MmsText o) = omega arith
deep_le-weight A g (Utc t) = omega arith

pub most_le-weight_of_all : (A : Type 0) (g : Ghosts A) (vs : List (Value A)) → most (deep-Value A g) vs ≤ weight_of_all (datas vs)
most_le-weight_of_all A g [] = omega arith
most_le-weight_of_all A g (v ∷ vs) = omega (arith, deep_le-weight A g v, most_le-weight_of_all A g vs)

-- each value of a list is smaller than the list
pub falls : (A : Type 0) (g : Ghosts A) (vs : List (Value A)) → max (most (deep-Value A g) vs) 0 ≤ weight_of_all (datas vs)
falls A g vs = omega (arith, most_le-weight_of_all A g vs)

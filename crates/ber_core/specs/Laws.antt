-- What the definitions say together: readings are single, and written forms are shortest.
use Rattle.std.specs.Prelude.{◌≡◌, ◌⊎◌, ◌≤◌, ◌<◌, ◌^◌, ◌≤ℤ◌, ◌<ℤ◌, ◌-◌, ℕ, ℤ, pos, negsuc, List, length, slice_range}
use Rattle.ber_core.specs.Length.{Len}
use Rattle.ber_core.specs.Integer.{Int}
use Rattle.ber_core.specs.Element.{IsHeader}
use Rattle.ber_core.specs.Faults.{HeaderFault}
use Rattle.ber_core.specs.Written.{IsShortest, short_integer, short_length}
use Rattle.ber_core.specs.declared.element.Header.{Header}
use Rattle.ber_core.specs.declared.fault.Fault.{Fault}

-- no two elements stand at one place
abbrev pub ElementIsOne : Type 0
ElementIsOne = (octets : List ℕ) (at end : ℕ) (h k : Header) → at ≤ end → end ≤ length octets → IsHeader octets at end h → IsHeader octets at end k → h ≡ k

-- where an element stands there is no fault
abbrev pub ElementOrFault : Type 0
ElementOrFault = (octets : List ℕ) (at end : ℕ) (h : Header) (f : Fault) → at ≤ end → end ≤ length octets → IsHeader octets at end h → HeaderFault f at (slice_range octets at end) → ⊥

-- where no element stands there is one
abbrev pub ElementElseFault : Type 0
ElementElseFault = (octets : List ℕ) (at end : ℕ) → at ≤ end → end ≤ length octets → ((h : Header) × IsHeader octets at end h) ⊎ ((f : Fault) × HeaderFault f at (slice_range octets at end))

-- no region has two first faults
abbrev pub FaultIsOne : Type 0
FaultIsOne = (region : List ℕ) (at : ℕ) (f g : Fault) → HeaderFault f at region → HeaderFault g at region → f ≡ g

-- the written form of a length is its shortest spelling
abbrev pub LengthIsShortest : Type 0
LengthIsShortest = (n : ℕ) → n < 2 ^ 32 → IsShortest (Len n) (short_length n)

-- the written form of an integer is its shortest spelling
abbrev pub IntegerIsShortest : Type 0
IntegerIsShortest = (n : ℤ) → negsuc (2 ^ 71 - 1) ≤ℤ n → n <ℤ pos (2 ^ 71) → IsShortest (Int n) (short_integer n)

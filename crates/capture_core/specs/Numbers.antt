-- The numbers of a capture: octets in the order that its writer used.
use Rattle.std.specs.Prelude.{ℕ, List, drop}
use Rattle.byteorder.specs.Endian.{big_number, little_number}
use Rattle.capture_core.specs.declared.form.OctetOrder.{OctetOrder}
use Rattle.capture_core.specs.declared.form.OctetOrder.TheVariants.{BigEndian, LittleEndian}

-- the number of n octets at a place, in this order
unfoldable pub number_at : OctetOrder → ℕ → List ℕ → ℕ → ℕ
number_at BigEndian n octets place = big_number n (drop place octets)
number_at LittleEndian n octets place = little_number n (drop place octets)

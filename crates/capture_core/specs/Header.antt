-- The header of a capture: magic number, version 2.4, eight octets and the snapshot length, which are not looked at, and the link type.
use Rattle.std.specs.Prelude.{ℕ, ◌%◌, ◌==◌, ◌&&◌, Bool, List, Option, Some, None, if◌then◌else◌}
use Rattle.capture_core.specs.Numbers.{number_at}
use Rattle.capture_core.specs.declared.form.OctetOrder.{OctetOrder}
use Rattle.capture_core.specs.declared.form.OctetOrder.TheVariants.{BigEndian, LittleEndian}
use Rattle.capture_core.specs.declared.form.FractionUnit.{FractionUnit}
use Rattle.capture_core.specs.declared.form.FractionUnit.TheVariants.{Microseconds, Nanoseconds}
use Rattle.capture_core.specs.declared.form.CaptureForm.{CaptureForm}

-- the unit of fractions that a magic number announces
abbrev pub unit_of : ℕ → Option FractionUnit
unit_of magic = if magic == 0xa1b2c3d4 then Some Microseconds else (if magic == 0xa1b23c4d then Some Nanoseconds else None)

-- the form that has this order and this unit
abbrev pub form_with : OctetOrder → Option FractionUnit → Option CaptureForm
form_with order None = None
form_with order (Some unit) = Some (record { order = order; unit = unit })

-- the form in which the magic number stands in this order
abbrev pub form_in : OctetOrder → List ℕ → Option CaptureForm
form_in order header = form_with order (unit_of (number_at order 4 header 0))

-- the first of two that is there
abbrev pub first_of_two : {X : Type 0} → Option X → Option X → Option X
first_of_two None y = y
first_of_two (Some x) y = Some x

-- the form whose magic number begins the header
abbrev pub form_of : List ℕ → Option CaptureForm
form_of header = first_of_two (form_in BigEndian header) (form_in LittleEndian header)

-- whether a header of this order has version 2.4, and link type 1, Ethernet, in the low 16 bits of its last number
abbrev pub is_read_in : OctetOrder → List ℕ → Bool
is_read_in order header = (number_at order 2 header 4 == 2) && (number_at order 2 header 6 == 4) && (number_at order 4 header 20 % 65536 == 1)

-- a form, if the header is read in its order
abbrev pub read_in : List ℕ → Option CaptureForm → Option CaptureForm
read_in header None = None
read_in header (Some form) = if is_read_in form.order header then Some form else None

-- the form of the capture that begins with this header, if it is one that is read
abbrev pub header_of : List ℕ → Option CaptureForm
header_of header = read_in header (form_of header)

-- Interfaces of a section: what their description blocks say of them (draft-ietf-opsawg-pcapng, 3.5 and 4.2), and the times of their packets.
use Rattle.std.specs.Prelude.{ℕ, zero, suc, ◌+◌, ◌-◌, ◌*◌, ◌/◌, ◌^◌, ◌==◌, List, length, take, drop, get_or, Option, Some, None, nat_lt, if◌then◌else◌}
use Rattle.capture_core.specs.Numbers.{number_at}
use Rattle.capture_core.specs.declared.form.OctetOrder.{OctetOrder}
use Rattle.capture_core.specs.declared.interface.Interface.{Interface}

-- how many octets n octets are with their padding, a multiple of 4
abbrev pub padded : ℕ → ℕ
padded n = (n + 3) / 4 * 4

-- ---- what is said of an interface

-- an interface without options: its ticks are microseconds since 1970
abbrev pub plain_interface : ℕ → ℕ → Interface
plain_interface link snapshot = record { link_type = link; snapshot_length = snapshot; resolution = 6; offset = 0 }

-- an interface of which an option says the resolution, if_tsresol, in one octet
abbrev pub with_resolution : List ℕ → Interface → Option Interface
with_resolution value i = if length value == 1 then Some (record { link_type = i.link_type; snapshot_length = i.snapshot_length; resolution = get_or value 0 0; offset = i.offset }) else None

-- an interface of which an option says the offset, if_tsoffset, in eight octets
abbrev pub with_offset : OctetOrder → List ℕ → Interface → Option Interface
with_offset order value i = if length value == 8 then Some (record { link_type = i.link_type; snapshot_length = i.snapshot_length; resolution = i.resolution; offset = number_at order 8 value 0 }) else None

-- an interface after an option of this code and value; none where the value is not of the code's length
abbrev pub with_option : OctetOrder → ℕ → List ℕ → Interface → Option Interface
with_option order code value i = if code == 9 then with_resolution value i else (if code == 14 then with_offset order value i else Some i)

-- how many octets the first option has
abbrev pub option_size : OctetOrder → List ℕ → ℕ
option_size order options = 4 + padded (number_at order 2 options 2)

-- the interface after the first option
abbrev pub with_first : OctetOrder → List ℕ → Interface → Option Interface
with_first order options i = with_option order (number_at order 2 options 0) (take (number_at order 2 options 2) (drop 4 options)) i

-- what follows, if this is an interface
abbrev pub and_then : Option Interface → (Interface → Option Interface) → Option Interface
and_then None next = None
and_then (Some i) next = next i

-- an interface after these options, so many at most: code 0 ends them, and so do fewer than 4 octets; none has its form if one reaches past the end
unfoldable pub with_options : OctetOrder → ℕ → List ℕ → Interface → Option Interface
with_options order zero options i = Some i
with_options order (suc most) options i =
    if nat_lt (length options) 4 then Some i else
    (if number_at order 2 options 0 == 0 then Some i else
    (if nat_lt (length options) (option_size order options) then None else
    and_then (with_first order options i) (λ j. with_options order most (drop (option_size order options) options) j)))

-- an interface after these options, all of them
abbrev pub options_in : OctetOrder → List ℕ → Interface → Option Interface
options_in order options i = with_options order (length options) options i

-- the interface that the body of a description block describes
abbrev pub interface_in : OctetOrder → List ℕ → Option Interface
interface_in order body = if nat_lt (length body) 8 then None else options_in order (drop 8 body) (plain_interface (number_at order 2 body 0) (number_at order 4 body 4))

-- ---- the times of its packets

-- how many ticks of an interface a second has: if_tsresol is a power of ten, or of two from 128 on
abbrev pub units_of : ℕ → ℕ
units_of resolution = if nat_lt resolution 128 then 10 ^ resolution else 2 ^ (resolution - 128)

-- the seconds that an offset, a number in two's complement, adds
abbrev pub seconds_forth : ℕ → ℕ
seconds_forth offset = if nat_lt offset (2 ^ 63) then offset else 0

-- the seconds that it takes away
abbrev pub seconds_back : ℕ → ℕ
seconds_back offset = if nat_lt offset (2 ^ 63) then 0 else 2 ^ 64 - offset

-- the microseconds of ticks, rounded down, with those that the offset adds
abbrev pub microseconds_forth : Interface → ℕ → ℕ
microseconds_forth i ticks = ticks * 1000000 / units_of i.resolution + 1000000 * seconds_forth i.offset

-- the moment of a packet after so many ticks, if it is from 1970 on and has at most 18 digits
abbrev pub moment_after : Interface → ℕ → Option ℕ
moment_after i ticks =
    let forth = microseconds_forth i ticks in
    let back = 1000000 * seconds_back i.offset in
    if nat_lt forth back then None else (if nat_lt (forth - back) (10 ^ 18) then Some (forth - back) else None)

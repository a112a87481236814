-- Reading fields from left to right, with the first fault that is met, as functions on octets and places. Laws
-- in both directions tie them to what a sequence of fields spells and to its fault.
use Rattle.std.specs.Prelude.{ℕ, ◌%◌, ◌&&◌, Bool, true, not, List, [], ◌∷◌, ◌++◌, slice_range, Option, Some, None, Result, Ok, Err, ◌==◌, nat_lt, if◌then◌else◌}
use Rattle.ber_core.specs.Faults.{fault_of}
use Rattle.ber_core.specs.Fields.{Field, always, optional, default, Presence}
use Rattle.ber_core.specs.computed.Reading.{refused, header_at, ◌>>=◌}
use Rattle.ber_core.specs.declared.element.Header.{Header}
use Rattle.ber_core.specs.declared.fault.Fault.{Fault}
use Rattle.ber_core.specs.declared.fault.Cause.TheVariants as causes

-- reading of the contents behind a header, by their kind
abbrev pub Read : Type 0 → Type 0 → Type 0
Read K I = K → List ℕ → Header → Result I Fault

-- the header of the element at p, if one with this identifier begins there; o is what stands there
abbrev pub if_there : ℕ → ℕ → List ℕ → Result (Option Header) Fault
if_there id p [] = Ok None
if_there id p (b ∷ bs) = if b == id then (header_at p (b ∷ bs) >>= λ h. Ok (Some h)) else Ok None

-- the fault where another field is always there
abbrev pub absence : ℕ → List ℕ → Fault
absence p [] = fault_of p causes.ElementMissing
absence p (b ∷ bs) = if b % 32 == 31 then fault_of p causes.HighTag else fault_of p causes.UnexpectedTag

abbrev pub or_absence : ℕ → List ℕ → Option Header → Result Header Fault
or_absence p o None = Err (absence p o)
or_absence p o (Some h) = Ok h

-- the header of the element of this identifier at p, in a region that ends at e, if one begins there
unfoldable pub there_at : ℕ → List ℕ → ℕ → ℕ → Result (Option Header) Fault
there_at id octets p e = if_there id p (slice_range octets p e)

-- the header of the element of this identifier that has to stand at p
unfoldable pub required_at : ℕ → List ℕ → ℕ → ℕ → Result Header Fault
required_at id octets p e = there_at id octets p e >>= or_absence p (slice_range octets p e)

abbrev pub read_behind : {K I : Type 0} → Read K I → K → List ℕ → Header → Result (Option I × ℕ) Fault
read_behind read k octets h = read k octets h >>= λ x. Ok (Some x, h.contents_to)

abbrev pub read_behind_if : {K I : Type 0} → Read K I → K → List ℕ → ℕ → Option I → Option Header → Result (Option I × ℕ) Fault
read_behind_if read k octets p d None = Ok (d, p)
read_behind_if read k octets p d (Some h) = read_behind read k octets h

-- the field of this identifier, kind and presence at p: its value, and the place behind it
abbrev pub field_as : {K I : Type 0} → Read K I → ℕ → K → Presence I → List ℕ → ℕ → ℕ → Result (Option I × ℕ) Fault
field_as read id k always octets p e = required_at id octets p e >>= read_behind read k octets
field_as read id k optional octets p e = there_at id octets p e >>= read_behind_if read k octets p None
field_as read id k (default d) octets p e = there_at id octets p e >>= read_behind_if read k octets p (Some d)

-- the field at p, in a region that ends at e
abbrev pub field_at : {K I : Type 0} → Read K I → Field K I → List ℕ → ℕ → ℕ → Result (Option I × ℕ) Fault
field_at read g octets p e = field_as read g.identifier g.kind g.presence octets p e

-- the fields from p on, behind some whose values are given
abbrev pub fields_at : {K I : Type 0} → Read K I → List (Field K I) → List (Option I) → List ℕ → ℕ → ℕ → Result (List (Option I) × ℕ) Fault
fields_at read [] vs octets p e = Ok (vs, p)
fields_at read (g ∷ gs) vs octets p e = field_at read g octets p e >>= λ x. fields_at read gs (vs ++ x.0 ∷ []) octets x.1 e

-- no octets stand from p to e
abbrev pub ends_at : ℕ → ℕ → Result (Unit {0}) Fault
ends_at p e = if nat_lt p e then refused p causes.ExtraOctets else Ok tt

-- no field of the sequence has this identifier
abbrev pub is_stranger : {K I : Type 0} → ℕ → List (Field K I) → Bool
is_stranger id [] = true
is_stranger id (g ∷ gs) = not (id == g.identifier) && is_stranger id gs

-- no two fields have one identifier, and each identifier is one octet
abbrev pub are_apart : {K I : Type 0} → List (Field K I) → Bool
are_apart [] = true
are_apart (g ∷ gs) = not (g.identifier % 32 == 31) && (is_stranger g.identifier gs && are_apart gs)

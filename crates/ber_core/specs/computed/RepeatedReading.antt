-- Reading elements of one identifier, one after the other, from left to right, as a function on octets and places.
use Rattle.std.specs.Prelude.{ℕ, zero, suc, List, [], ◌∷◌, length, nat_lt, Result, Ok, if◌then◌else◌}
use Rattle.ber_core.specs.computed.FieldReading.{Read, required_at}
use Rattle.ber_core.specs.computed.Reading.{refused, ◌>>=◌}
use Rattle.ber_core.specs.declared.fault.Fault.{Fault}
use Rattle.ber_core.specs.declared.fault.Cause.TheVariants as causes

-- the values of the elements from p to e; the number bounds the turns
unfoldable pub each_within : {K I : Type 0} → Read K I → ℕ → K → ℕ → List ℕ → ℕ → ℕ → Result (List I) Fault
each_within read id k zero octets p e = if nat_lt p e then refused p causes.Ends else Ok []
each_within read id k (suc turns) octets p e =
    if nat_lt p e then (do
      h ← required_at id octets p e
      x ← read k octets h
      xs ← each_within read id k turns octets h.contents_to e
      Ok (x ∷ xs))
    else Ok []

-- the same, where the count of the octets is always enough turns
abbrev pub each_at : {K I : Type 0} → Read K I → ℕ → K → List ℕ → ℕ → ℕ → Result (List I) Fault
each_at read id k octets p e = each_within read id k (length octets) octets p e

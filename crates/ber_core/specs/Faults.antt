-- What is wrong with the front of an element, its identifier and its length octets (ISO/IEC 8825-1, 8.1.2 and 8.1.3):
-- with which cause, and at which place. Laws say that octets have one such fault at most, and one exactly where no
-- element stands in front.
use Rattle.std.specs.Prelude.{◌≡◌, ◌≤◌, ◌<◌, ◌+◌, ◌%◌, ℕ, List, [], ◌∷◌, ◌++◌, length}
use Rattle.ber_core.specs.Length.{Len}
use Rattle.ber_core.specs.Element.{IsIdentifier}
use Rattle.ber_core.specs.declared.fault.Cause.{Cause}
use Rattle.ber_core.specs.declared.fault.Cause.TheVariants as causes
use Rattle.ber_core.specs.declared.fault.Fault.{Fault}

-- the fault at the place p, counted from 0, with this cause
abbrev pub fault_of : ℕ → Cause → Fault
fault_of p why = record { place = p; cause = why }

-- What is wrong with the length behind an identifier that stands at the place p, where o is all that follows
-- the identifier: there is none, or it is cut off, and the fault stands at the end; its form is indefinite; its
-- form is not one of the profile's; or it counts more octets than follow it.
pub data LengthFault (f : Fault) (p : ℕ) : List ℕ → Type 0 where
  absent : f ≡ fault_of (p + 1) causes.Ends → LengthFault f p []
  cut : {first : ℕ} {more : List ℕ} → 129 ≤ first → first ≤ 132 → 128 + length more < first → f ≡ fault_of (p + 2 + length more) causes.Ends → LengthFault f p (first ∷ more)
  indefinite : {first : ℕ} {more : List ℕ} → first ≡ 128 → f ≡ fault_of (p + 1) causes.Indefinite → LengthFault f p (first ∷ more)
  form : {first : ℕ} {more : List ℕ} → 133 ≤ first → f ≡ fault_of (p + 1) causes.LengthForm → LengthFault f p (first ∷ more)
  past_end : {o : List ℕ} (n : ℕ) (size rest : List ℕ) → Len n size → o ≡ size ++ rest → length rest < n → f ≡ fault_of (p + 1) causes.LengthPastEnd → LengthFault f p o

-- What is wrong with the front of o, which stands at the place p: nothing is there, the identifier has more
-- than one octet, or its length is at fault.
pub data HeaderFault (f : Fault) (p : ℕ) : List ℕ → Type 0 where
  nothing : f ≡ fault_of p causes.Ends → HeaderFault f p []
  high : {id : ℕ} {more : List ℕ} → id % 32 ≡ 31 → f ≡ fault_of p causes.HighTag → HeaderFault f p (id ∷ more)
  in_length : {id : ℕ} {more : List ℕ} → IsIdentifier id → LengthFault f p more → HeaderFault f p (id ∷ more)

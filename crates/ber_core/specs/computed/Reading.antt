-- Reading the front of an element as a function on octets, the first of which stands at the place p. Laws in
-- both directions tie it to the spellings and the faults.
use Rattle.std.specs.Prelude.{◌≡◌, ℕ, ◌<◌, ◌≤◌, ◌+◌, ◌-◌, ◌%◌, List, [], ◌∷◌, length, drop, Result, Ok, Err, nat_lt, ◌==◌, if◌then◌else◌}
use Rattle.byteorder.specs.Endian.{big_number}
use Rattle.ber_core.specs.Faults.{fault_of}
use Rattle.ber_core.specs.declared.fault.Fault.{Fault}
use Rattle.ber_core.specs.declared.fault.Cause.{Cause}
use Rattle.ber_core.specs.declared.fault.Cause.TheVariants as causes
use Rattle.ber_core.specs.declared.element.Header.{Header}

-- one step of reading behind another
infixl 10 ◌>>=◌
abbrev pub ◌>>=◌ : {A B : Type 0} → Result A Fault → (A → Result B Fault) → Result B Fault
(Ok x) >>= f = f x
(Err e) >>= f = Err e

-- what a call answers, seen by view, is what reading gives
abbrev pub Gives : {X Y : Type 0} → (X → Y) → Result X Fault → Result Y Fault → Type 0
Gives view (Ok x) reading = reading ≡ Ok (view x)
Gives view (Err f) reading = reading ≡ Err f

-- reading ends here: with the fault at the place p, with this cause
abbrev pub refused : {A : Type 0} → ℕ → Cause → Result A Fault
refused p why = Err (fault_of p why)

-- contents of n octets stand at from, and o are the octets there
abbrev pub sized_at : ℕ → ℕ → ℕ → ℕ → List ℕ → Result Header Fault
sized_at p id from n o =
    if nat_lt (length o) n then refused (p + 1) causes.LengthPastEnd else Ok (record { at = p; identifier = id; contents_from = from; contents_to = from + n })

-- the length is spelled by so many octets, the first of o
unfoldable pub counted_length_at : ℕ → ℕ → ℕ → List ℕ → Result Header Fault
counted_length_at p id count o =
    if nat_lt (length o) count then refused (p + 2 + length o) causes.Ends
    else sized_at p id (p + 2 + count) (big_number count o) (drop count o)

-- o is what follows the identifier
unfoldable pub length_at : ℕ → ℕ → List ℕ → Result Header Fault
length_at p id [] = refused (p + 1) causes.Ends
length_at p id (first ∷ more) =
    if nat_lt first 128 then sized_at p id (p + 2) first more
    else (if first == 128 then refused (p + 1) causes.Indefinite
    else (if nat_lt 132 first then refused (p + 1) causes.LengthForm else counted_length_at p id (first - 128) more))

-- the header of the element at the front of o
unfoldable pub header_at : ℕ → List ℕ → Result Header Fault
header_at p [] = refused p causes.Ends
header_at p (id ∷ more) = if id % 32 == 31 then refused p causes.HighTag else length_at p id more

-- the header of an element that begins at p and ends at e or before
pub record IsWithin (p e : ℕ) (h : Header) : Type 0 where
  pub at : h.at ≡ p
  pub begins : p < h.contents_from
  pub order : h.contents_from ≤ h.contents_to
  pub within : h.contents_to ≤ e

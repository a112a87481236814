-- A field that is known to be read: what stands at its place is a header.
use Rattle.std.proofs.Common.{◌≡◌, ℕ, Bool, true, false, eqb, cond, List, [], ◌∷◌, Some, None, Result, Ok, Err, refl}
use Rattle.std.specs.Prelude.{IsOk}
use Rattle.ber_core.specs.computed.FieldReading.{if_there, or_absence}
use Rattle.ber_core.specs.computed.Reading.{◌>>=◌, header_at}
use Rattle.ber_core.specs.declared.element.Header.{Header}
use Rattle.ber_core.specs.declared.fault.Fault.{Fault}

-- an element that has to be there
pub required_read : (id p : ℕ) (o : List ℕ) → IsOk (if_there id p o >>= or_absence p o) → IsOk (header_at p o) × ((h : Header) → header_at p o ≡ Ok h → (if_there id p o >>= or_absence p o) ≡ Ok h)
required_read id p [] k = absurd (cc)
required_read id p (b ∷ bs) k = by_test (eqb b id) (header_at p (b ∷ bs)) k where
  by_test : (t : Bool) (r : Result Header Fault) → IsOk (cond t (r >>= λ h. Ok (Some h)) (Ok None) >>= or_absence p (b ∷ bs)) → IsOk r × ((h : Header) → r ≡ Ok h → (cond t (r >>= λ h. Ok (Some h)) (Ok None) >>= or_absence p (b ∷ bs)) ≡ Ok h)
  by_test true (Ok h) k = (refl, λ g e. e)
  by_test true (Err f) k = absurd (cc)
  by_test false r k = absurd (cc)

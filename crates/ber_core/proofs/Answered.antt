-- What a call answers that computes `header_at`, in the words of the relations.
use Rattle.std.proofs.Common.{◌≡◌, ℕ, ◌≤◌, List, length, Result, Ok, Err, sym, ◌∙◌}
use Rattle.std.specs.Prelude.{slice_range, IfOk, IfErr}
use Rattle.ber_core.specs.declared.fault.Fault.{Fault}
use Rattle.ber_core.specs.declared.element.Header.{Header}
use Rattle.ber_core.specs.Element.{IsHeader}
use Rattle.ber_core.specs.Faults.{HeaderFault}
use Rattle.ber_core.specs.computed.Reading.{header_at}
use Rattle.ber_core.proofs.OneReading.{header_found, header_only, header_wrong, header_wrong_again}

module _ (octets : List ℕ) (at end : ℕ) (order : at ≤ end) (within : end ≤ length octets) where
  pub found_by : (r : Result Header Fault) → r ≡ header_at at (slice_range octets at end) → IfOk r (IsHeader octets at end)
  found_by (Ok h) is = header_found octets at end h order within (sym is)
  found_by (Err f) is = tt

  pub only_by : (r : Result Header Fault) → r ≡ header_at at (slice_range octets at end) → (h : Header) → IsHeader octets at end h → r ≡ Ok h
  only_by r is h stands = is ∙ header_only octets at end h order within stands

module _ (region : List ℕ) (at : ℕ) where
  pub fault_by : (r : Result Header Fault) → r ≡ header_at at region → IfErr r (λ f. HeaderFault f at region)
  fault_by (Ok h) is = tt
  fault_by (Err f) is = header_wrong at region f (sym is)

  pub fault_only_by : (r : Result Header Fault) → r ≡ header_at at region → (f : Fault) → HeaderFault f at region → r ≡ Err f
  fault_only_by r is f wrong = is ∙ header_wrong_again f at region wrong

-- What a call that gives what reading gives says of spellings and faults of an APDU.
use Rattle.std.proofs.Common.{◌≡◌, ℕ, ◌≤◌, List, length, Result, Ok, Err, sym, ◌∙◌}
use Rattle.std.specs.Prelude.{slice_range, IfOk, IfErr}
use Rattle.ber_core.specs.computed.Reading.{Gives}
use Rattle.ber_core.specs.declared.fault.Fault.{Fault}
use Rattle.ber_core.proofs.Exact.{answer_fault, answer_fault_only}
use Rattle.ber_core.proofs.FieldNested.{ok_is}
use Rattle.pdu_core.specs.Goose.{goose_items, SpellsGoose, GooseFault}
use Rattle.pdu_core.specs.computed.GooseReading.{goose_at}
use Rattle.pdu_core.specs.Views.{pdu_of, ShowsGoose}
use Rattle.pdu_core.specs.declared.goose.GoosePdu.{GoosePdu}
use Rattle.pdu_core.specs.declared.view.GooseView.{GooseView}
use Rattle.pdu_core.proofs.GooseLaws.{goose_found, goose_again, goose_wrong, goose_wrong_again, items_one}

module _ (A : Type 0) (octets : List ℕ) (p e : ℕ) (order : p ≤ e) (within : e ≤ length octets) where
  pub shown_found : (r : Result GooseView Fault) → Gives (λ v. goose_items (pdu_of {A = A} v)) r (goose_at octets p e) → IfOk r (λ v. SpellsGoose (pdu_of {A = A} v) (slice_range octets p e))
  shown_found (Ok v) is = goose_found octets p e order within (goose_items (pdu_of {A = A} v)) is
  shown_found (Err f) is = tt

  pub shown_only : (r : Result GooseView Fault) → Gives (λ v. goose_items (pdu_of {A = A} v)) r (goose_at octets p e) → (q : GoosePdu A) → SpellsGoose q (slice_range octets p e) → ShowsGoose r q
  shown_only (Ok v) is q s = items_one (pdu_of v) q (ok_is (goose_items (pdu_of {A = A} v)) (goose_items q) (sym is ∙ goose_again octets p e order within q s))
  shown_only (Err f) is q s = let wrong = sym is ∙ goose_again octets p e order within q s in cc

  pub shown_fault : (r : Result GooseView Fault) → Gives (λ v. goose_items (pdu_of {A = A} v)) r (goose_at octets p e) → IfErr r (λ f. GooseFault f p (slice_range octets p e))
  shown_fault r is = answer_fault (λ v. goose_items (pdu_of {A = A} v)) (goose_at octets p e) (λ f. GooseFault f p (slice_range octets p e)) (goose_wrong octets p e order within) r is

  pub shown_fault_only : (r : Result GooseView Fault) → Gives (λ v. goose_items (pdu_of {A = A} v)) r (goose_at octets p e) → (f : Fault) → GooseFault f p (slice_range octets p e) → r ≡ Err f
  shown_fault_only r is f w = answer_fault_only (λ v. goose_items (pdu_of {A = A} v)) (goose_at octets p e) f (goose_wrong_again octets p e order within f w) r is

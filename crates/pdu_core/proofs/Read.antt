-- What a call that reads an APDU into memory of its own says of spellings and faults.
use Rattle.std.proofs.Common.{◌≡◌, ℕ, ◌≤◌, List, length, Ok, Err, sym, subst, ◌∙◌}
use Rattle.std.specs.Prelude.{slice_range, Option}
use Rattle.ber_core.specs.declared.fault.Fault.{Fault}
use Rattle.ber_core.proofs.FieldNested.{ok_is}
use Rattle.ber_core.proofs.FieldSound.{err_is}
use Rattle.pdu_core.specs.Contents.{Item}
use Rattle.pdu_core.specs.Goose.{goose_items, SpellsGoose, GooseFault}
use Rattle.pdu_core.specs.computed.GooseReading.{goose_at}
use Rattle.pdu_core.specs.declared.goose.GoosePdu.{GoosePdu}
use Rattle.pdu_core.proofs.GooseLaws.{goose_found, goose_again, goose_wrong_again, items_one}

module _ {A : Type 0} (octets : List ℕ) (p e : ℕ) (order : p ≤ e) (within : e ≤ length octets) where
  -- where reading gives an APDU, it is spelled
  pub read_found : (q r : GoosePdu A) → goose_at octets p e ≡ Ok (goose_items q) → r ≡ q → SpellsGoose r (slice_range octets p e)
  read_found q r is same = subst (λ (x : GoosePdu A). SpellsGoose x (slice_range octets p e)) (sym same) (goose_found octets p e order within (goose_items q) is)

  -- where reading gives an APDU, no other is spelled
  pub read_only : (q r s : GoosePdu A) → goose_at octets p e ≡ Ok (goose_items q) → r ≡ q → SpellsGoose s (slice_range octets p e) → r ≡ s
  read_only q r s is same spelled = same ∙ items_one q s (ok_is (goose_items q) (goose_items s) (sym is ∙ goose_again octets p e order within s spelled))

  -- where reading gives an APDU, there is no fault
  pub read_no_fault : (q : GoosePdu A) (f : Fault) → goose_at octets p e ≡ Ok (goose_items q) → GooseFault f p (slice_range octets p e) → ⊥
  read_no_fault q f is wrong = let no = sym is ∙ goose_wrong_again octets p e order within f wrong in cc

  -- where reading gives a fault, nothing is spelled
  pub refused_only : (f : Fault) (s : GoosePdu A) → goose_at octets p e ≡ Err f → SpellsGoose s (slice_range octets p e) → ⊥
  refused_only f s is spelled = let no = sym is ∙ goose_again octets p e order within s spelled in cc

-- where reading gives a fault, there is no other
pub refused_fault_only : (octets : List ℕ) (p e : ℕ) → p ≤ e → e ≤ length octets → (f g : Fault) → goose_at octets p e ≡ Err f → GooseFault g p (slice_range octets p e) → f ≡ g
refused_fault_only octets p e order within f g is wrong = sym (err_is {A = List (Option Item)} f g (sym is ∙ goose_wrong_again octets p e order within g wrong))

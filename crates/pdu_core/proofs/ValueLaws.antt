-- Reading gives the APDU that is spelled, and the fault that is there.
use Rattle.std.proofs.Common.{◌≡◌, ℕ, ◌≤◌, List, length, Option, Some, None, Result, Ok, Err, refl, ap, ◌∙◌}
use Rattle.std.specs.Prelude.{slice_range}
use Rattle.ber_core.specs.computed.Reading.{◌>>=◌}
use Rattle.ber_core.specs.declared.fault.Fault.{Fault}
use Rattle.pdu_core.specs.Contents.{Item}
use Rattle.pdu_core.specs.Goose.{GooseFault, SpellsGoose, goose_items, text_if}
use Rattle.pdu_core.specs.computed.GooseValue.{goose_value, pdu_of_items, optional_text}
use Rattle.pdu_core.specs.declared.goose.GoosePdu.{GoosePdu}
use Rattle.pdu_core.proofs.GooseLaws.{goose_again, goose_wrong_again}

pub text_back : (t : Option (List ℕ)) → optional_text (text_if t) ≡ t
text_back None = refl
text_back (Some t) = refl

-- the values of an APDU make it up
pub items_back : {A : Type 0} (q : GoosePdu A) → pdu_of_items (goose_items q) ≡ q
items_back q = ap (λ (t : Option (List ℕ)). record q { go_id = t }) (text_back q.go_id)

module _ (octets : List ℕ) (p e : ℕ) (order : p ≤ e) (within : e ≤ length octets) where
  pub value_again : {A : Type 0} (q : GoosePdu A) → SpellsGoose q (slice_range octets p e) → goose_value octets p e ≡ Ok q
  value_again {A = A} q spelled =
      ap (λ (r : Result (List (Option Item)) Fault). r >>= λ vs. Ok (pdu_of_items {A = A} vs)) (goose_again octets p e order within q spelled) ∙ ap (λ (x : GoosePdu A). Ok x) (items_back q)

  pub value_wrong_again : {A : Type 0} (f : Fault) → GooseFault f p (slice_range octets p e) → goose_value {A = A} octets p e ≡ Err f
  value_wrong_again {A = A} f wrong = ap (λ (r : Result (List (Option Item)) Fault). r >>= λ vs. Ok (pdu_of_items {A = A} vs)) (goose_wrong_again octets p e order within f wrong)

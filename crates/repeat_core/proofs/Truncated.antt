-- What is known without the way how is so, where there is one way only.
use Rattle.std.proofs.Common.{◌≡◌, ℕ, Bool, List, Ok, subst, inl, inr}
use Rattle.std.proofs.Math.Logic.{∥∥₁_elim}
use Rattle.std.specs.Coded.{coded_option}
use base.Stored.{Coded-set, coded_ℕ, coded_bool, coded_list}
use Rattle.ber_core.proofs.FieldNested.{result_cases}
use Rattle.mms_data.specs.computed.DataCode.{data_code}
use Rattle.pdu_core.specs.Goose.{SpellsGoose}
use Rattle.pdu_core.specs.declared.goose.GoosePdu.{GoosePdu}
use Rattle.pdu_core.proofs.ElseFault.{pdu_else_fault}
use Rattle.pdu_core.proofs.GooseLaws.{not_both}
use Rattle.pdu_core.proofs.OneReading.{pdu_is_one, pdu_or_fault}
use Rattle.frame_core.specs.computed.EnvelopeReading.{envelope_judged}

pdu_set : IsSet (GoosePdu (Unit {0}))
pdu_set = hlevel (coded_ℕ, coded_bool, coded_list, coded_option, data_code, Coded-set)

nothing_prop : IsProp ⊥
nothing_prop = hlevel

-- octets spell one APDU, or have a fault
pub spelled_untruncated : (p : GoosePdu (Unit {0})) (o : List ℕ) → ∥ SpellsGoose p o ∥₁ → SpellsGoose p o
spelled_untruncated p o t = elim (pdu_else_fault {A = Unit {0}} o 0) [
  | inl (q, s) ↦ subst (λ (x : GoosePdu (Unit {0})). SpellsGoose x o) (∥∥₁_elim t (pdu_set q p) (λ u. pdu_is_one o q p s u)) s
  | inr (f, w) ↦ absurd (∥∥₁_elim t nothing_prop (λ u. pdu_or_fault o 0 p f u w))
]

pub judged_untruncated : (o : List ℕ) → ∥ envelope_judged o ≡ Ok tt ∥₁ → envelope_judged o ≡ Ok tt
judged_untruncated o t = elim (result_cases (envelope_judged o)) [
  | inl (x, is) ↦ is
  | inr (f, is) ↦ absurd (∥∥₁_elim t nothing_prop (λ u. not_both (envelope_judged o) f is u))
]

pub number_untruncated : (a b : ℕ) → ∥ a ≡ b ∥₁ → a ≡ b
number_untruncated a b t = ∥∥₁_elim t (Coded-set coded_ℕ a b) (λ u. u)

pub test_untruncated : (a b : Bool) → ∥ a ≡ b ∥₁ → a ≡ b
test_untruncated a b t = ∥∥₁_elim t (Coded-set coded_bool a b) (λ u. u)

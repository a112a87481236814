-- Reading answers for all octets: so there is an APDU, or a fault.
use Rattle.std.proofs.Common.{◌≡◌, ℕ, ◌+◌, List, ◌++◌, length, Result, Ok, Err, refl, subst, arith, inl, inr}
use Rattle.std.specs.Prelude.{◌⊎◌}
use Rattle.ber_core.specs.declared.fault.Fault.{Fault}
use Rattle.pdu_core.specs.Goose.{GooseFault, SpellsGoose}
use Rattle.pdu_core.specs.computed.GooseValue.{goose_value}
use Rattle.pdu_core.specs.Laws.{PduElseFault}
use Rattle.pdu_core.specs.Sampled.{SpellsSv, SvFault}
use Rattle.pdu_core.specs.SampledLaws.{SvPduElseFault}
use Rattle.pdu_core.specs.computed.SampledValue.{sv_value}
use Rattle.pdu_core.specs.declared.goose.GoosePdu.{GoosePdu}
use Rattle.pdu_core.specs.declared.sampled.asdu.SvPdu.{SvPdu}
use Rattle.pdu_core.proofs.KeptValues.{sv_value_found, sv_value_wrong, value_found, value_wrong}
use Rattle.pdu_core.proofs.OneReading.{zeros, region_is, region_fits}

module _ {A : Type 0} (o : List ℕ) (at : ℕ) where
  pdu_or_wrong : (r : Result (GoosePdu A) Fault) → goose_value (zeros at ++ o) at (at + length o) ≡ r → ((p : GoosePdu A) × SpellsGoose p o) ⊎ ((f : Fault) × GooseFault f at o)
  pdu_or_wrong (Ok p) is = inl (p, subst (λ (x : List ℕ). SpellsGoose p x) (region_is at o) (value_found (zeros at ++ o) at (at + length o) (omega arith) (region_fits at o) p is))
  pdu_or_wrong (Err f) is = inr (f, subst (λ (x : List ℕ). GooseFault f at x) (region_is at o) (value_wrong (zeros at ++ o) at (at + length o) (omega arith) (region_fits at o) {A = A} f is))

  sv_pdu_or_wrong : (r : Result (SvPdu A) Fault) → sv_value (zeros at ++ o) at (at + length o) ≡ r → ((p : SvPdu A) × SpellsSv p o) ⊎ ((f : Fault) × SvFault f at o)
  sv_pdu_or_wrong (Ok p) is = inl (p, subst (λ (x : List ℕ). SpellsSv p x) (region_is at o) (sv_value_found (zeros at ++ o) at (at + length o) (omega arith) (region_fits at o) p is))
  sv_pdu_or_wrong (Err f) is = inr (f, subst (λ (x : List ℕ). SvFault f at x) (region_is at o) (sv_value_wrong (zeros at ++ o) at (at + length o) (omega arith) (region_fits at o) {A = A} f is))

pub pdu_else_fault : {A : Type 0} → PduElseFault A
pdu_else_fault o at = pdu_or_wrong o at (goose_value (zeros at ++ o) at (at + length o)) refl

pub sv_pdu_else_fault : {A : Type 0} → SvPduElseFault A
sv_pdu_else_fault o at = sv_pdu_or_wrong o at (sv_value (zeros at ++ o) at (at + length o)) refl

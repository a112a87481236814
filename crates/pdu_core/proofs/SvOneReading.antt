-- Reading of a savPdu is a function: so there is one APDU, or one fault, and never both.
use Rattle.std.proofs.Common.{◌≡◌, ℕ, ◌+◌, Option, List, ◌++◌, length, Result, Ok, Err, sym, subst, ◌∙◌, arith}
use Rattle.ber_core.specs.declared.fault.Fault.{Fault}
use Rattle.ber_core.proofs.FieldNested.{ok_is}
use Rattle.ber_core.proofs.FieldSound.{err_is}
use Rattle.pdu_core.specs.Contents.{Item}
use Rattle.pdu_core.specs.Sampled.{items_of_each, SpellsSv, SvFault}
use Rattle.pdu_core.specs.SampledLaws.{SvPduIsOne, SvPduOrFault, SvFaultIsOne}
use Rattle.pdu_core.specs.computed.SampledReading.{sv_at}
use Rattle.pdu_core.specs.declared.sampled.asdu.SvPdu.{SvPdu}
use Rattle.pdu_core.proofs.OneReading.{zeros, region_is, region_fits}
use Rattle.pdu_core.proofs.SvLaws.{sv_again, sv_wrong_again}
use Rattle.pdu_core.proofs.SvValues.{pdus_one}

module _ (o : List ℕ) (at : ℕ) where
  reading : Result (List (List (Option Item))) Fault
  reading = sv_at (zeros at ++ o) at (at + length o)

  spelled_reads : {A : Type 0} (p : SvPdu A) → SpellsSv p o → reading ≡ Ok (items_of_each p.asdus)
  unfolding reading
  spelled_reads p s = sv_again (zeros at ++ o) at (at + length o) (omega arith) (region_fits at o) p (subst (λ (x : List ℕ). SpellsSv p x) (sym (region_is at o)) s)

  fault_reads : (f : Fault) → SvFault f at o → reading ≡ Err f
  unfolding reading
  fault_reads f w = sv_wrong_again (zeros at ++ o) at (at + length o) (omega arith) (region_fits at o) f (subst (λ (x : List ℕ). SvFault f at x) (sym (region_is at o)) w)

pub sv_pdu_is_one : {A : Type 0} → SvPduIsOne A
sv_pdu_is_one o p q s t = pdus_one p q (ok_is (items_of_each p.asdus) (items_of_each q.asdus) (sym (spelled_reads o 0 p s) ∙ spelled_reads o 0 q t))

pub sv_pdu_or_fault : {A : Type 0} → SvPduOrFault A
sv_pdu_or_fault o at p f s w = let wrong = sym (spelled_reads o at p s) ∙ fault_reads o at f w in cc

pub sv_fault_is_one : SvFaultIsOne
sv_fault_is_one o at f g v w = err_is {A = List (List (Option Item))} g f (sym (fault_reads o at g w) ∙ fault_reads o at f v)

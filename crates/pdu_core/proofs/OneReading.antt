-- Reading is a function: so there is one APDU, or one fault, and never both.
use Rattle.std.proofs.Common.{◌≡◌, ℕ, zero, suc, ◌+◌, ◌-◌, ◌≤◌, Option, List, [], ◌∷◌, ◌++◌, length, take, drop, Result, Ok, Err, refl, sym, ap, subst, ◌∙◌, arith}
use Rattle.std.proofs.lemmas.List.{length-append, append-nil, drop_at, take_at}
use Rattle.std.specs.Prelude.{slice_range}
use Rattle.ber_core.specs.declared.fault.Fault.{Fault}
use Rattle.ber_core.proofs.FieldNested.{ok_is}
use Rattle.ber_core.proofs.FieldSound.{err_is}
use Rattle.pdu_core.specs.Contents.{Item}
use Rattle.pdu_core.specs.Goose.{goose_items, SpellsGoose, GooseFault}
use Rattle.pdu_core.specs.computed.GooseReading.{goose_at}
use Rattle.pdu_core.specs.Laws.{PduIsOne, PduOrFault, FaultIsOne}
use Rattle.pdu_core.specs.declared.goose.GoosePdu.{GoosePdu}
use Rattle.pdu_core.proofs.GooseLaws.{goose_again, goose_wrong_again, items_one}

-- so many octets, to stand before others
pub zeros : ℕ → List ℕ
zeros zero = []
zeros (suc n) = 0 ∷ zeros n

count_zeros : (n : ℕ) → length (zeros n) ≡ n
unfolding zeros
count_zeros zero = refl
count_zeros (suc n) = ap suc (count_zeros n)

-- octets that stand at a place
pub region_is : (at : ℕ) (o : List ℕ) → slice_range (zeros at ++ o) at (at + length o) ≡ o
region_is at o =
    let count : (at + length o) - at ≡ length o = omega arith in
    let front : drop at (zeros at ++ o) ≡ o = drop_at (zeros at) o at (count_zeros at) in
    rw (count, front) (ap (take (length o)) (sym (append-nil o)) ∙ take_at o [] (length o) refl)

pub region_fits : (at : ℕ) (o : List ℕ) → at + length o ≤ length (zeros at ++ o)
region_fits at o = omega (arith, length-append (zeros at) o, count_zeros at)

module _ (o : List ℕ) (at : ℕ) where
  reading : Result (List (Option Item)) Fault
  reading = goose_at (zeros at ++ o) at (at + length o)

  spelled_reads : {A : Type 0} (p : GoosePdu A) → SpellsGoose p o → reading ≡ Ok (goose_items p)
  unfolding reading
  spelled_reads p s = goose_again (zeros at ++ o) at (at + length o) (omega arith) (region_fits at o) p (subst (λ (x : List ℕ). SpellsGoose p x) (sym (region_is at o)) s)

  fault_reads : (f : Fault) → GooseFault f at o → reading ≡ Err f
  unfolding reading
  fault_reads f w = goose_wrong_again (zeros at ++ o) at (at + length o) (omega arith) (region_fits at o) f (subst (λ (x : List ℕ). GooseFault f at x) (sym (region_is at o)) w)

pub pdu_is_one : {A : Type 0} → PduIsOne A
pdu_is_one o p q s t = items_one p q (ok_is (goose_items p) (goose_items q) (sym (spelled_reads o 0 p s) ∙ spelled_reads o 0 q t))

pub pdu_or_fault : {A : Type 0} → PduOrFault A
pdu_or_fault o at p f s w = let wrong = sym (spelled_reads o at p s) ∙ fault_reads o at f w in cc

pub fault_is_one : FaultIsOne
fault_is_one o at f g v w = err_is {A = List (Option Item)} g f (sym (fault_reads o at g w) ∙ fault_reads o at f v)

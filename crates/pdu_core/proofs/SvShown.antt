-- What a call that gives what reading gives says of spellings and faults of a savPdu.
use Rattle.std.proofs.Common.{◌≡◌, ℕ, ◌≤◌, List, [], ◌∷◌, ◌++◌, append_assoc, length, Option, Result, Ok, Err, sym, ap, subst, ◌∙◌, arith}
use Rattle.std.proofs.lemmas.List.{append-nil, length-append}
use Rattle.std.specs.Prelude.{slice_range, IfOk, IfErr}
use Rattle.ber_core.specs.Fields.{SpellsFields}
use Rattle.ber_core.specs.computed.Reading.{Gives}
use Rattle.ber_core.specs.declared.fault.Fault.{Fault}
use Rattle.ber_core.proofs.Exact.{answer_fault, answer_fault_only}
use Rattle.ber_core.proofs.FieldNested.{ok_is}
use Rattle.ber_core.proofs.FieldSound.{err_is}
use Rattle.pdu_core.specs.Asdu.{asdu_items}
use Rattle.pdu_core.specs.Contents.{Item}
use Rattle.pdu_core.specs.Sampled.{items_of_each, sv_grammar, sv_fields, SpellsSv, SvFault}
use Rattle.pdu_core.specs.computed.SampledReading.{sv_at}
use Rattle.pdu_core.specs.SampledViews.{asdu_of, asdus_left, sv_of, ShowsSv}
use Rattle.pdu_core.specs.declared.sampled.asdu.Asdu.{Asdu}
use Rattle.pdu_core.specs.declared.sampled.asdu.SvPdu.{SvPdu}
use Rattle.pdu_core.specs.declared.sampled.view.AsduView.{AsduView}
use Rattle.pdu_core.specs.declared.sampled.view.Asdus.{Asdus}
use Rattle.pdu_core.specs.declared.sampled.view.SvView.{SvView}
use Rattle.pdu_core.proofs.SvLaws.{both_items, each_count, sv_found, sv_again, sv_wrong, sv_wrong_again}
use Rattle.pdu_core.proofs.SvValues.{asdus_one, items_in, pdus_one}

-- the values of the ASDUs that are left, whatever memory they are to be in
pub left_in : (A B : Type 0) (s : Asdus) → items_of_each (asdus_left {A = A} s) ≡ items_of_each (asdus_left {A = B} s)
left_in A B s = items_in A B _

-- so it is enough to know in one kind of memory which ASDU was left first, and that none was left
pub steps_in : (A B : Type 0) (s t : Asdus) (v : AsduView) → asdus_left {A = A} s ≡ asdu_of v ∷ asdus_left t → asdus_left {A = B} s ≡ asdu_of v ∷ asdus_left t
steps_in A B s t v is = asdus_one (asdus_left {A = B} s) (asdu_of v ∷ asdus_left t) (left_in B A s ∙ ap items_of_each is ∙ ap (λ x. asdu_items (asdu_of {A = B} v) ∷ x) (left_in A B t))

pub none_in : (A B : Type 0) (s : Asdus) → asdus_left {A = A} s ≡ [] → asdus_left {A = B} s ≡ []
none_in A B s is = asdus_one (asdus_left {A = B} s) [] (left_in B A s ∙ ap items_of_each is)

-- one more ASDU is owned, and then all of them
pub one_owned : {A : Type 0} (owned : List (Asdu A)) (start s t : Asdus) (v : AsduView) (a : Asdu A) → asdus_left {A = Unit {0}} s ≡ asdu_of v ∷ asdus_left t → a ≡ asdu_of v → owned ++ asdus_left s ≡ asdus_left start
    → (owned ++ a ∷ []) ++ asdus_left t ≡ asdus_left start
one_owned {A = A} owned start s t v a is made so_far =
    append_assoc owned (a ∷ []) (asdus_left t) ∙ ap (λ x. owned ++ x ∷ asdus_left t) made ∙ ap (λ x. owned ++ x) (sym (steps_in (Unit {0}) A s t v is)) ∙ so_far

pub all_owned : {A : Type 0} (owned : List (Asdu A)) (start s : Asdus) → asdus_left {A = Unit {0}} s ≡ [] → owned ++ asdus_left s ≡ asdus_left start → owned ≡ asdus_left start
all_owned {A = A} owned start s is so_far = sym (append-nil owned) ∙ ap (λ x. owned ++ x) (sym (none_in (Unit {0}) A s is)) ∙ so_far

-- where one more is left, there were some
pub some_left : {A : Type 0} (owned : List (Asdu A)) (start s t : Asdus) (v : AsduView) → asdus_left {A = Unit {0}} s ≡ asdu_of v ∷ asdus_left t → owned ++ asdus_left s ≡ asdus_left start → asdus_left {A = A} start ≡ [] → ⊥
some_left {A = A} owned start s t v is so_far none =
    let one = steps_in (Unit {0}) A s t v is in
    absurd (omega (arith, ap length so_far, ap length none, ap length one, length-append owned (asdus_left {A = A} s)))

-- and where there were none, so many are counted
pub none_counted : (A : Type 0) (s : Asdus) (count : ℕ) → asdus_left {A = A} s ≡ [] → count ≡ length (asdus_left {A = Unit {0}} s) → count ≡ 0
none_counted A s count none counted = omega (arith, counted, ap length (none_in A (Unit {0}) s none))

module _ (octets : List ℕ) (p e : ℕ) (order : p ≤ e) (within : e ≤ length octets) where
  -- the APDU whose values are read is spelled
  pub sv_spelled : {A : Type 0} (q : SvPdu A) → sv_at octets p e ≡ Ok (items_of_each q.asdus) → SpellsSv q (slice_range octets p e)
  sv_spelled q is =
      let s = sv_found octets p e order within (items_of_each q.asdus) is in
      (s.0, s.1, subst (λ (n : ℕ). SpellsFields sv_grammar sv_fields (both_items n (items_of_each q.asdus)) s.0) (each_count q.asdus) s.2)

  -- where reading gives values, no other APDU is spelled
  pub sv_only : {A : Type 0} (q s : SvPdu A) → sv_at octets p e ≡ Ok (items_of_each q.asdus) → SpellsSv s (slice_range octets p e) → q ≡ s
  sv_only q s is spelled = pdus_one q s (ok_is (items_of_each q.asdus) (items_of_each s.asdus) (sym is ∙ sv_again octets p e order within s spelled))

  -- where reading gives values, there is no fault
  pub sv_no_fault : (vss : List (List (Option Item))) (f : Fault) → sv_at octets p e ≡ Ok vss → SvFault f p (slice_range octets p e) → ⊥
  sv_no_fault vss f is wrong = let no = sym is ∙ sv_wrong_again octets p e order within f wrong in cc

  -- where reading gives a fault, nothing is spelled
  pub sv_refused : {A : Type 0} (f : Fault) (s : SvPdu A) → sv_at octets p e ≡ Err f → SpellsSv s (slice_range octets p e) → ⊥
  sv_refused f s is spelled = let no = sym is ∙ sv_again octets p e order within s spelled in cc

  -- where reading gives a fault, there is no other
  pub sv_fault_only : (f g : Fault) → sv_at octets p e ≡ Err f → SvFault g p (slice_range octets p e) → f ≡ g
  sv_fault_only f g is wrong = sym (err_is {A = List (List (Option Item))} f g (sym is ∙ sv_wrong_again octets p e order within g wrong))

  -- what a view says, where its values are those that are read
  module _ (A : Type 0) where
    pub sv_shown_found : (r : Result SvView Fault) → Gives (λ v. items_of_each (asdus_left {A = A} v.asdus)) r (sv_at octets p e) → IfOk r (λ v. SpellsSv (sv_of {A = A} v) (slice_range octets p e))
    sv_shown_found (Ok v) is = sv_spelled (sv_of {A = A} v) is
    sv_shown_found (Err f) is = tt

    pub sv_shown_only : (r : Result SvView Fault) → Gives (λ v. items_of_each (asdus_left {A = A} v.asdus)) r (sv_at octets p e) → (q : SvPdu A) → SpellsSv q (slice_range octets p e) → ShowsSv r q
    sv_shown_only (Ok v) is q s = sv_only (sv_of {A = A} v) q is s
    sv_shown_only (Err f) is q s = sv_refused f q is s

    pub sv_shown_fault : (r : Result SvView Fault) → Gives (λ v. items_of_each (asdus_left {A = A} v.asdus)) r (sv_at octets p e) → IfErr r (λ f. SvFault f p (slice_range octets p e))
    sv_shown_fault r is = answer_fault (λ v. items_of_each (asdus_left {A = A} v.asdus)) (sv_at octets p e) (λ f. SvFault f p (slice_range octets p e)) (sv_wrong octets p e order within) r is

    pub sv_shown_fault_only : (r : Result SvView Fault) → Gives (λ v. items_of_each (asdus_left {A = A} v.asdus)) r (sv_at octets p e) → (f : Fault) → SvFault f p (slice_range octets p e) → r ≡ Err f
    sv_shown_fault_only r is f w = answer_fault_only (λ v. items_of_each (asdus_left {A = A} v.asdus)) (sv_at octets p e) f (sv_wrong_again octets p e order within f w) r is

  -- what an APDU that was made from such a view says
  module _ {A : Type 0} (v : SvView) (q : SvPdu A) (is : sv_at octets p e ≡ Ok (items_of_each (asdus_left {A = Unit {0}} v.asdus))) (made : q ≡ sv_of v) where
    read_in : sv_at octets p e ≡ Ok (items_of_each q.asdus)
    read_in = is ∙ ap (λ x. Ok x) (left_in (Unit {0}) A v.asdus ∙ ap (λ (x : SvPdu A). items_of_each x.asdus) (sym made))

    pub sv_read_found : SpellsSv q (slice_range octets p e)
    sv_read_found = sv_spelled q read_in

    pub sv_read_only : (s : SvPdu A) → SpellsSv s (slice_range octets p e) → q ≡ s
    sv_read_only s spelled = sv_only q s read_in spelled

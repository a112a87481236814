-- What a call answers that gives what reading gives, in the words of the relations that laws tie reading to.
use Rattle.std.proofs.Common.{◌≡◌, Result, Ok, Err, refl, sym, ◌∙◌}
use Rattle.std.specs.Prelude.{IfOk, IfErr, IsOk}
use Rattle.ber_core.specs.computed.Reading.{Gives}
use Rattle.ber_core.specs.declared.fault.Fault.{Fault}

module _ {X : Type 0} (reading : Result X Fault) where
  -- a call that answers what reading gives, with no view between
  pub gives_same : (r : Result X Fault) → r ≡ reading → Gives (λ x. x) r reading
  gives_same (Ok x) is = sym is
  gives_same (Err f) is = sym is

module _ {X Y : Type 0} (view : Y → X) (reading : Result X Fault) where
  -- what is answered is spelled so
  pub answer_found : (Spells : X → Type 0) → ((x : X) → reading ≡ Ok x → Spells x) → (r : Result Y Fault) → Gives view r reading → IfOk r (λ y. Spells (view y))
  answer_found Spells found (Ok y) is = found (view y) is
  answer_found Spells found (Err f) is = tt

  -- what is spelled so is answered
  pub answer_ok : (x : X) → reading ≡ Ok x → (r : Result Y Fault) → Gives view r reading → IsOk r
  answer_ok x again (Ok y) is = refl
  answer_ok x again (Err f) is = absurd (let wrong = sym is ∙ again in cc)

  -- the fault that is answered is there
  pub answer_fault : (Wrong : Fault → Type 0) → ((f : Fault) → reading ≡ Err f → Wrong f) → (r : Result Y Fault) → Gives view r reading → IfErr r Wrong
  answer_fault Wrong wrong (Ok y) is = tt
  answer_fault Wrong wrong (Err f) is = wrong f is

  -- the fault that is there is answered
  pub answer_fault_only : (f : Fault) → reading ≡ Err f → (r : Result Y Fault) → Gives view r reading → r ≡ Err f
  answer_fault_only f again (Ok y) is = absurd (let wrong = sym is ∙ again in cc)
  answer_fault_only f again (Err g) is = let same : ◌≡◌ {A = Result X Fault} (Err g) (Err f) = sym is ∙ again in cc

-- Steps of reading, taken apart.
use Rattle.std.proofs.Common.{◌≡◌, Bool, true, false, cond, Result, Ok, Err, refl, sym, ap, inl, inr}
use Rattle.std.specs.Prelude.{◌⊎◌}
use Rattle.ber_core.specs.declared.fault.Fault.{Fault}
use Rattle.ber_core.specs.declared.fault.Cause.{Cause}
use Rattle.ber_core.specs.Faults.{fault_of}
use Rattle.ber_core.specs.computed.Reading.{◌>>=◌, refused}

-- which way a test went
pub chosen : {A : Type 0} (b : Bool) (x y z : A) → cond b x y ≡ z → ((b ≡ true) × (x ≡ z)) ⊎ ((b ≡ false) × (y ≡ z))
chosen true x y z e = inl (refl, e)
chosen false x y z e = inr (refl, e)

-- two steps that gave a value
pub bind_ok : {A B : Type 0} (r : Result A Fault) (f : A → Result B Fault) (y : B) → (r >>= f) ≡ Ok y → (x : A) × (r ≡ Ok x) × (f x ≡ Ok y)
bind_ok (Ok x) f y e = (x, refl, e)
bind_ok (Err g) f y e = absurd (cc)

-- two steps that gave a fault: the first did, or the second
pub bind_err : {A B : Type 0} (r : Result A Fault) (f : A → Result B Fault) (g : Fault) → (r >>= f) ≡ Err g → (r ≡ Err g) ⊎ ((x : A) × (r ≡ Ok x) × (f x ≡ Err g))
bind_err (Ok x) f g e = inr (x, refl, e)
bind_err {A = A} (Err h) f g e = inl (let same : h ≡ g = cc in let both : ◌≡◌ {A = Result A Fault} (Err h) (Err g) = cc in both)

-- the fault that a refusal answers
pub fault_is : {A : Type 0} (p : _) (why : Cause) (f : Fault) → refused {A = A} p why ≡ Err f → f ≡ fault_of p why
fault_is p why f e = cc

-- equal answers hold equal values, or equal faults
pub ok_is : {A : Type 0} (x y : A) → ◌≡◌ {A = Result A Fault} (Ok x) (Ok y) → x ≡ y
ok_is x y e = cc

pub err_is : {A : Type 0} (f g : Fault) → ◌≡◌ {A = Result A Fault} (Err f) (Err g) → g ≡ f
err_is f g e = cc

pub pair_is : {A B : Type 0} (a c : A) (b d : B) → ◌≡◌ {A = Result (A × B) Fault} (Ok (a, b)) (Ok (c, d)) → (c ≡ a) × (d ≡ b)
pair_is {A = A} {B = B} a c b d h = let same : ◌≡◌ {A = A × B} (a, b) (c, d) = cc in (sym (ap (λ x. x.0) same), sym (ap (λ x. x.1) same))

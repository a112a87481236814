-- Texts without control characters, so without a line feed.
use Rattle.std.proofs.Common.{ℕ, zero, suc, ◌^◌, ◌<◌, ◌≤◌, Bool, true, false, List, [], ◌∷◌, ◌++◌, sym, subst, arith}
use Rattle.std.specs.Prelude.{if◌then◌else◌}
use Rattle.std.specs.Char.{digit_value}
use Rattle.std.specs.Fmt.{decimal, sign_text}
use Rattle.std.specs.Str.Parse.{AllDigits}
use Rattle.std.specs.Float.Numeral.{exponent_text}
use Rattle.std.proofs.lemmas.Fmt.{decimal_is_IsNumeral}
use Rattle.ryu.specs.Plain.{IsPlainNumber}
use Rattle.list_core.specs.Cuts.{HasNo}
use Rattle.joint_laws.proofs.object_lemmas.PlainTexts.{ArePlain}

abbrev pub AreSigns : List ℕ → Type 0
AreSigns [] = Unit {0}
AreSigns (c ∷ cs) = (32 ≤ c) × AreSigns cs

pub signs_append : (a b : List ℕ) → AreSigns a → AreSigns b → AreSigns (a ++ b)
signs_append [] b p q = q
signs_append (c ∷ a) b p q = (p.0, signs_append a b p.1 q)

-- such a text stands in one line
pub no_feed : (text : List ℕ) → AreSigns text → HasNo 10 text
no_feed [] s k l e = omega arith
no_feed (c ∷ cs) s zero l e = omega (arith, s.0, e)
no_feed (c ∷ cs) s (suc k) l e = no_feed cs s.1 k (omega arith) e

pub plain_signs : (text : List ℕ) → ArePlain text → AreSigns text
plain_signs [] p = tt
plain_signs (c ∷ cs) p = (p.0.visible.0, plain_signs cs p.1)

-- ---- numbers

digit_sign : (d : ℕ) → digit_value d < 10 → 32 ≤ d
digit_sign d h = grind arith

digits_signs : (text : List ℕ) → AllDigits 10 text → AreSigns text
digits_signs [] h = tt
digits_signs (d ∷ ds) h = (digit_sign d h.0, digits_signs ds h.1)

pub decimal_signs : (n : ℕ) → n < 2 ^ 64 → AreSigns (decimal n)
decimal_signs n h = digits_signs (decimal n) (decimal_is_IsNumeral n h).0.1

sign_signs : (negative : Bool) → AreSigns (sign_text negative)
sign_signs true = (omega arith, tt)
sign_signs false = tt

fraction_signs : (point : Bool) (ds : List ℕ) → AllDigits 10 ds → AreSigns (if point then 46 ∷ ds else [])
fraction_signs true ds h = (omega arith, digits_signs ds h)
fraction_signs false ds h = tt

exponent_signs : (negative : Bool) (ds : List ℕ) → AllDigits 10 ds → AreSigns (exponent_text negative ds)
exponent_signs negative [] h = tt
exponent_signs negative (d ∷ ds) h = (omega arith, signs_append (sign_text negative) (d ∷ ds) (sign_signs negative) (digits_signs (d ∷ ds) h))

-- a number as a float is written
pub float_signs : (text : List ℕ) → IsPlainNumber text → AreSigns text
float_signs text h =
    let form = h.3.well_formed in
    let rest = signs_append _ (exponent_text h.1.exponent_negative h.1.exponent) (fraction_signs h.1.point h.1.fraction form.fraction_digits) (exponent_signs h.1.exponent_negative h.1.exponent form.exponent_digits) in
    subst AreSigns (sym h.2) (signs_append (sign_text h.0) _ (sign_signs h.0) (signs_append h.1.whole _ (digits_signs h.1.whole form.whole_digits) rest))

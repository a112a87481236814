-- Texts of visible octets.
use Rattle.std.proofs.Common.{◌≡◌, ℕ, zero, suc, ◌^◌, ◌<◌, true, List, [], ◌∷◌, ◌++◌, Option, Some, None, arith}
use Rattle.std.specs.Prelude.{◌||◌, ◌==◌, IfSome, flat_map}
use Rattle.std.specs.Char.{digit_value}
use Rattle.std.specs.Fmt.{decimal}
use Rattle.std.specs.Str.Parse.{AllDigits}
use Rattle.std.proofs.lemmas.Bool.{cond_both}
use Rattle.std.proofs.lemmas.Fmt.{decimal_is_IsNumeral}
use Rattle.ber_core.specs.Contents.{AreVisible, IsVisible}
use Rattle.list_core.specs.Cuts.{HasNo}
use Rattle.text_core.specs.Pieces.{escaped, four_digits, quoted, quoted_or_dash, two_octets}
use Rattle.joint_laws.proofs.object_lemmas.PlainTexts.{are_plain, by_test, hexadecimal_plain, plain_visible}
use Rattle.joint_laws.proofs.line_lemmas.Optional.{two_are_octets}

pub visible_both : (a b : List ℕ) → AreVisible a → AreVisible b → AreVisible (a ++ b)
visible_both [] b p q = q
visible_both (c ∷ a) b p q = (p.0, visible_both a b p.1 q)

digit_visible : (d : ℕ) → digit_value d < 10 → IsVisible d
digit_visible d h = (grind arith, grind arith)

digits_visible : (text : List ℕ) → AllDigits 10 text → AreVisible text
digits_visible [] h = tt
digits_visible (d ∷ ds) h = (digit_visible d h.0, digits_visible ds h.1)

pub decimal_visible : (n : ℕ) → n < 2 ^ 64 → AreVisible (decimal n)
decimal_visible n h = digits_visible (decimal n) (decimal_is_IsNumeral n h).0.1

escaped_visible : (x : ℕ) → IsVisible x → AreVisible (escaped x)
escaped_visible x h = cond_both (x == 34 || x == 92) (92 ∷ x ∷ []) (x ∷ []) AreVisible (λ marked. ((omega arith, omega arith), (h, tt))) (λ plain. (h, tt))

all_escaped : (text : List ℕ) → AreVisible text → AreVisible (flat_map escaped text)
all_escaped [] h = tt
all_escaped (x ∷ text) h = visible_both (escaped x) (flat_map escaped text) (escaped_visible x h.0) (all_escaped text h.1)

mark : AreVisible (34 ∷ [])
mark = ((omega arith, omega arith), tt)

pub quoted_visible : (text : List ℕ) → AreVisible text → AreVisible (quoted text)
quoted_visible text h = ((omega arith, omega arith), visible_both (flat_map escaped text) (34 ∷ []) (all_escaped text h) mark)

pub quoted_or_dash_visible : (text : Option (List ℕ)) → IfSome text AreVisible → AreVisible (quoted_or_dash text)
quoted_or_dash_visible None h = ((omega arith, omega arith), tt)
quoted_or_dash_visible (Some text) h = quoted_visible text h

pub four_visible : (n : ℕ) → n < 65536 → AreVisible (four_digits n)
four_visible n h = plain_visible (four_digits n) (hexadecimal_plain (two_octets n) (two_are_octets n h))

-- by a test
pub all_visible : (text : List ℕ) → are_plain text ≡ true → AreVisible text
all_visible text h = plain_visible text (by_test text h)

-- no LF stands in them
pub visible_unbroken : (text : List ℕ) → AreVisible text → HasNo 10 text
visible_unbroken [] h k l e = absurd (omega arith)
visible_unbroken (c ∷ text) h zero l e = omega (arith, h.0.0, e)
visible_unbroken (c ∷ text) h (suc k) l e = visible_unbroken text h.1 k (omega arith) e

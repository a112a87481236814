-- Texts that are one value of JSON.
use Rattle.std.proofs.Common.{◌≡◌, ℕ, ℤ, pos, negsuc, suc, ◌^◌, ◌<◌, ◌≤◌, Bool, true, false, List, [], ◌∷◌, ◌++◌, ap, refl, sym, ◌∙◌, append-nil, arith, Some}
use Rattle.std.specs.Fmt.{decimal, signed_decimal}
use Rattle.ryu.specs.Plain.{IsPlainNumber}
use Rattle.json.specs.Json.{Json, null, boolean, number, string, document}
use Rattle.json.specs.Print.{IsNumber, print, print_from}
use Rattle.json.specs.Strict.{HasUniqueKeys}
use Rattle.json.specs.Tree.{HasNumbers, depth, json_tokens}
use Rattle.json.proofs.Printed.Decimals.{IsNumber-decimal, IsNumber-signed_decimal}
use Rattle.json.proofs.Printed.Floats.{IsNumber-plain}
use Rattle.json.proofs.Printed.Trees.{document-print}
use Rattle.text_core.specs.Pieces.{boolean_text}
use Rattle.object_core.specs.Objects.{in_quotes}
use Rattle.object_core.specs.Objects as objects
use Rattle.joint_laws.proofs.object_lemmas.PlainTexts.{ArePlain, escape_plain}
use Rattle.joint_laws.proofs.object_lemmas.Signs.{AreSigns, decimal_signs, float_signs, plain_signs, signs_append}

-- the text is what the kit's writer gives for this value, in which names are unique and which nests at most n deep
pub record IsTextOf (n : ℕ) (json : Json) (text : List ℕ) : Type 0 where
  pub printed : print (json_tokens json) ≡ text
  pub numbers : HasNumbers json
  pub unique : HasUniqueKeys json
  pub nests : depth json ≤ n
  pub signs : AreSigns text

-- such a text is read back
pub read_back : (json : Json) (text : List ℕ) → IsTextOf 128 json text → document text ≡ Some json
read_back json text v = ap document (sym v.printed) ∙ document-print json v.numbers v.nests

pub deeper : (n m : ℕ) (json : Json) (text : List ℕ) → n ≤ m → IsTextOf n json text → IsTextOf m json text
deeper n m json text h v = record { printed = v.printed; numbers = v.numbers; unique = v.unique; nests = omega (arith, v.nests); signs = v.signs }

pub boolean_is : (n : ℕ) (b : Bool) → IsTextOf n (boolean b) (boolean_text b)
unfolding print_from
boolean_is n true = record { printed = refl; numbers = tt; unique = tt; nests = omega arith; signs = (omega arith, (omega arith, (omega arith, (omega arith, tt)))) }
boolean_is n false = record { printed = refl; numbers = tt; unique = tt; nests = omega arith; signs = (omega arith, (omega arith, (omega arith, (omega arith, (omega arith, tt))))) }

pub null_is : (n : ℕ) → IsTextOf n null objects.null
unfolding print_from
null_is n = record { printed = refl; numbers = tt; unique = tt; nests = omega arith; signs = (omega arith, (omega arith, (omega arith, (omega arith, tt)))) }

number_is : (n : ℕ) (text : List ℕ) → IsNumber text → AreSigns text → IsTextOf n (number text) text
unfolding print_from
number_is n text h s = record { printed = append-nil text; numbers = h; unique = tt; nests = omega arith; signs = s }

pub decimal_is : (n m : ℕ) → m < 2 ^ 64 → IsTextOf n (number (decimal m)) (decimal m)
decimal_is n m h = number_is n (decimal m) (IsNumber-decimal m h) (decimal_signs m h)

pub float_is : (n : ℕ) (text : List ℕ) → IsPlainNumber text → IsTextOf n (number text) text
float_is n text h = number_is n text (IsNumber-plain text h) (float_signs text h)

pub plain_is : (n : ℕ) (text : List ℕ) → ArePlain text → IsTextOf n (string text) (in_quotes text)
unfolding print_from
plain_is n text h = record {
  printed = append-nil _ ∙ ap (λ (l : List ℕ). 34 ∷ (l ++ 34 ∷ [])) (escape_plain text h);
  numbers = tt;
  unique = tt;
  nests = omega arith;
  signs = (omega arith, signs_append text (34 ∷ []) (plain_signs text h) (omega arith, tt));
}

-- a number of at most 64 bits, and below zero of 63
abbrev pub IsShort : ℤ → Type 0
IsShort (pos m) = m < 2 ^ 64
IsShort (negsuc m) = m < 2 ^ 63

pub signed_is : (n : ℕ) (z : ℤ) → IsShort z → IsTextOf n (number (signed_decimal z)) (signed_decimal z)
signed_is n (pos m) h = decimal_is n m h
signed_is n (negsuc m) h = number_is n (45 ∷ decimal (suc m)) (IsNumber-signed_decimal (negsuc m) h) (omega arith, decimal_signs (suc m) (omega arith))

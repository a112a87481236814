-- A BLOCK that is listed says the control block of its frame.
use Rattle.std.proofs.Common.{◌≡◌, ℕ, zero, suc, ◌<◌, ◌≤◌, Bool, true, ltb, leb, List, [], ◌∷◌, ◌++◌, length, Some, ap, sym, ◌∙◌, refl, arith}
use Rattle.std.specs.Prelude.{if◌then◌else◌}
use Rattle.std.specs.List.{concat, list_all}
use Rattle.std.specs.Char.{is_ascii_digit}
use Rattle.std.specs.Fmt.{decimal}
use Rattle.std.specs.Str.Parse.{AllDigits, digits_value}
use Rattle.std.proofs.lemmas.Bool.{and_parts}
use Rattle.std.proofs.lemmas.Bool.Decides.{nat_tests}
use Rattle.std.proofs.lemmas.Fmt.{decimal_is_IsNumeral, decimal_nonempty, length-decimal-le}
use Rattle.std.proofs.lemmas.List.{append-nil}
use Rattle.std.proofs.lemmas.List.Elements.{All-get_or}
use Rattle.std.proofs.lemmas.Str.Parse.{digit_at}
use Rattle.hex.specs.Hex.{IsBytes, encode_lower, is_hex_digit}
use Rattle.hex.proofs.HexLemmas.{decode_of-encode_lower, decode_of-ok, decode_sized-encode_lower}
use Rattle.ber_core.specs.Contents.{is_visible}
use Rattle.list_core.specs.Cuts.{HasNo, cut_at}
use Rattle.list_core.specs.EventLine.{decoded}
use Rattle.list_core.proofs.Cuts.{cut-part, cut-rest}
use Rattle.list_core.proofs.MomentDigits.{digits_test}
use Rattle.block_core.specs.BlockText.{block_in, block_of}
use Rattle.block_core.specs.Commas.{comma_fields, is_field, is_field_octet, number_by, octets_in, text_in, word_in}
use Rattle.text_core.specs.Pieces.{four_digits, two_octets}
use Rattle.inventory_engine.specs.Configuration.{configuration_of}
use Rattle.inventory_engine.specs.Sightings.{block_parts, has_fields, named_parts, text_or_none}
use Rattle.inventory_engine.specs.Laws.{BlocksReadBack}

-- ---- a number in four hexadecimal digits

pub two_are_bytes : (n : ℕ) → n < 65536 → IsBytes (two_octets n)
two_are_bytes n h zero = omega arith
two_are_bytes n h (suc zero) = omega arith
two_are_bytes n h (suc (suc i)) = omega arith

word_back : (n : ℕ) → n < 65536 → word_in (four_digits n) ≡ Some n
word_back n h =
    let octets : octets_in 2 (four_digits n) ≡ Some (two_octets n) = ap decoded (decode_sized-encode_lower (two_octets n) 2 refl (two_are_bytes n h)) in
    rw octets (ap Some (omega arith))

no_digit : (c : ℕ) → is_hex_digit c ≡ true → c ≡ 44 → ⊥
no_digit c h e = let none : is_hex_digit 44 ≡ true = ap is_hex_digit (sym e) ∙ h in cc

word_no_comma : (n : ℕ) → n < 65536 → HasNo 44 (four_digits n)
word_no_comma n h k l e =
    let digits = (decode_of-ok (encode_lower (two_octets n)) (two_octets n) (decode_of-encode_lower (two_octets n) (two_are_bytes n h))).1 in
    no_digit _ (All-get_or (λ x. is_hex_digit x ≡ true) (encode_lower (two_octets n)) k 0 l digits) e

-- ---- a number in decimal

all_digits : (n : ℕ) → n < 4294967296 → AllDigits 10 (decimal n)
all_digits n h = (decimal_is_IsNumeral n (omega arith)).0.1

decimal_no_comma : (n : ℕ) → n < 4294967296 → HasNo 44 (decimal n)
decimal_no_comma n h k l e = let r = digit_at (decimal n) k (all_digits n h) l in omega (arith, r.0)

number_back : (n : ℕ) → n < 4294967296 → number_by (decimal n) ≡ Some n
number_back n h =
    let digits : list_all is_ascii_digit (decimal n) ≡ true = digits_test.from (decimal n) (all_digits n h) in
    let some : 0 < length (decimal n) = decimal_nonempty n (omega arith) in
    let short : length (decimal n) ≤ 10 = length-decimal-le 10 n (omega arith) (omega arith) (omega arith) in
    let first : ltb 0 (length (decimal n)) ≡ true = grind (arith, nat_tests) in
    let second : leb (length (decimal n)) 10 ≡ true = grind (arith, nat_tests) in
    let value : digits_value 10 (decimal n) ≡ n = (decimal_is_IsNumeral n (omega arith)).1 in
    let most : leb n 4294967295 ≡ true = grind (arith, nat_tests) in
    rw (first, second, digits, value, most) refl

-- ---- texts

visible_if : (c : ℕ) → is_field_octet c ≡ true → is_visible c ≡ true
visible_if c h = (and_parts _ _ h).0

no_comma_if : (c : ℕ) → is_field_octet c ≡ true → c ≡ 44 → ⊥
no_comma_if c h e = let none : is_field_octet 44 ≡ true = ap is_field_octet (sym e) ∙ h in cc

all_visible : (xs : List ℕ) → is_field xs ≡ true → list_all is_visible xs ≡ true
all_visible [] h = refl
all_visible (x ∷ xs) h =
    let first : is_visible x ≡ true = visible_if x (and_parts _ _ h).0 in
    let others : list_all is_visible xs ≡ true = all_visible xs (and_parts _ _ h).1 in
    rw (first, others) refl

field_no_comma : (xs : List ℕ) → is_field xs ≡ true → HasNo 44 xs
field_no_comma [] h k l e = absurd (omega arith)
field_no_comma (x ∷ xs) h zero l e = no_comma_if x (and_parts _ _ h).0 e
field_no_comma (x ∷ xs) h (suc k) l e = field_no_comma xs (and_parts _ _ h).1 k (omega arith) e

text_back : (xs : List ℕ) → is_field xs ≡ true → text_in xs ≡ Some xs
text_back xs h = rw (all_visible xs h) refl

-- ---- six fields

six_cut : (a b c d e f : List ℕ) → HasNo 44 a → HasNo 44 b → HasNo 44 c → HasNo 44 d → HasNo 44 e → HasNo 44 f
    → cut_at 44 (a ++ 44 ∷ (b ++ 44 ∷ (c ++ 44 ∷ (d ++ 44 ∷ (e ++ 44 ∷ (f ++ [])))))) ≡ a ∷ b ∷ c ∷ d ∷ e ∷ f ∷ []
six_cut a b c d e f p q r s t u =
    let six : cut_at 44 (f ++ []) ≡ f ∷ [] = ap (cut_at 44) (append-nil f) ∙ cut-rest 44 f u in
    let five = cut-part 44 e (f ++ []) t ∙ ap (λ (l : List (List ℕ)). e ∷ l) six in
    let four = cut-part 44 d (e ++ 44 ∷ (f ++ [])) s ∙ ap (λ (l : List (List ℕ)). d ∷ l) five in
    let three = cut-part 44 c (d ++ 44 ∷ (e ++ 44 ∷ (f ++ []))) r ∙ ap (λ (l : List (List ℕ)). c ∷ l) four in
    let two = cut-part 44 b (c ++ 44 ∷ (d ++ 44 ∷ (e ++ 44 ∷ (f ++ [])))) q ∙ ap (λ (l : List (List ℕ)). b ∷ l) three in
    cut-part 44 a (b ++ 44 ∷ (c ++ 44 ∷ (d ++ 44 ∷ (e ++ 44 ∷ (f ++ []))))) p ∙ ap (λ (l : List (List ℕ)). a ∷ l) two

chosen : (b : Bool) (x y : List ℕ) → b ≡ true → (if b then x else y) ≡ x
chosen b x y e = rw e refl

pub blocks_back : {A : Type 0} → BlocksReadBack A
blocks_back {A} app_id p small spelled has =
    let b = configuration_of app_id p in
    let id = text_or_none p.go_id in
    let both = and_parts _ _ has in
    let texts = and_parts _ _ both.0 in
    let n = length p.members in
    let rev : p.conf_rev < 4294967296 = omega (arith, spelled.conf_rev) in
    let few : n < 4294967296 = omega (arith, spelled.entries) in
    let cut : comma_fields (concat (block_parts b)) ≡ four_digits app_id ∷ p.gocb_ref ∷ p.dat_set ∷ id ∷ decimal p.conf_rev ∷ decimal n ∷ [] =
    six_cut (four_digits app_id) p.gocb_ref p.dat_set id (decimal p.conf_rev) (decimal n)
    (word_no_comma app_id small) (field_no_comma p.gocb_ref texts.0) (field_no_comma p.dat_set texts.1) (field_no_comma id both.1) (decimal_no_comma p.conf_rev rev) (decimal_no_comma n few) in
    ap (λ (t : List ℕ). block_in {A = A} t) (chosen (has_fields b) (concat (block_parts b)) (concat (named_parts b)) has)
    ∙ ap (block_of {A = A}) cut
    ∙ rw (word_back app_id small, text_back p.gocb_ref texts.0, text_back p.dat_set texts.1, text_back id both.1, number_back p.conf_rev rev, number_back n few) refl

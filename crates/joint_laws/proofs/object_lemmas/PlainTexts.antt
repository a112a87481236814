-- Texts of which JSON escapes nothing.
use Rattle.std.proofs.Common.{◌≡◌, ℕ, zero, suc, ◌+◌, ◌/◌, ◌%◌, ◌<◌, Bool, true, ◌&&◌, List, [], ◌∷◌, ◌++◌, length, take, get_or, ap, refl, sym, ◌∙◌, true≢false, arith}
use Rattle.std.specs.Prelude.{flat_map, nat_le, not, ◌==◌}
use Rattle.std.proofs.lemmas.Bool.{and_parts, eq-eqb, leb-true}
use Rattle.hex.specs.Hex.{encode_lower, encode_with, lower_digits}
use Rattle.ber_core.specs.Contents.{AreVisible, IsVisible}
use Rattle.ber_core.specs.Length.{AreOctets}
use Rattle.json.specs.Print.{escape}
use Rattle.json.proofs.Printed.Strings.{escape_byte_plain}
use Rattle.text_core.specs.Pieces.{bits_text, octet_bits}

-- an octet that stands as it is
pub record IsPlain (c : ℕ) : Type 0 where
  pub visible : IsVisible c
  pub no_quote : c ≡ 34 → ⊥
  pub no_backslash : c ≡ 92 → ⊥

abbrev pub ArePlain : List ℕ → Type 0
ArePlain [] = Unit {0}
ArePlain (c ∷ cs) = IsPlain c × ArePlain cs

pub escape_plain : (text : List ℕ) → ArePlain text → escape text ≡ text
escape_plain [] plain = refl
escape_plain (c ∷ text) plain =
    ap (λ (l : List ℕ). l ++ escape text) (escape_byte_plain c plain.0.no_quote plain.0.no_backslash plain.0.visible.0) ∙ ap (λ (l : List ℕ). c ∷ l) (escape_plain text plain.1)

pub plain_visible : (text : List ℕ) → ArePlain text → AreVisible text
plain_visible [] plain = tt
plain_visible (c ∷ text) plain = (plain.0.visible, plain_visible text plain.1)

pub take_plain : (n : ℕ) (text : List ℕ) → ArePlain text → ArePlain (take n text)
take_plain (suc n) (c ∷ text) p = (p.0, take_plain n text p.1)
take_plain _ _ _ = tt

at_plain : (text : List ℕ) (k : ℕ) → ArePlain text → k < length text → IsPlain (get_or text k 0)
at_plain [] k p h = absurd (omega arith)
at_plain (c ∷ text) zero p h = p.0
at_plain (c ∷ text) (suc k) p h = at_plain text k p.1 (omega arith)

-- digits
pub digit_plain : (d : ℕ) → d < 10 → IsPlain (48 + d)
digit_plain d h = record { visible = (omega arith, omega arith); no_quote = λ e. omega (arith, e); no_backslash = λ e. omega (arith, e) }

-- whether octets stand as they are, as a test
abbrev pub are_plain : List ℕ → Bool
are_plain [] = true
are_plain (c ∷ cs) = (nat_le 32 c && nat_le c 126) && (not (c == 34) && not (c == 92)) && are_plain cs

is_other : (a b : ℕ) → not (a == b) ≡ true → a ≡ b → ⊥
is_other a b other same = true≢false (sym other ∙ ap not (eq-eqb a b same))

pub by_test : (text : List ℕ) → are_plain text ≡ true → ArePlain text
by_test [] h = tt
by_test (c ∷ text) h =
    let parts = and_parts _ _ h in
    let first = and_parts _ _ parts.0 in
    let range = and_parts _ _ first.0 in
    let signs = and_parts _ _ first.1 in
    (record { visible = (leb-true 32 c range.0, leb-true c 126 range.1); no_quote = is_other c 34 signs.0; no_backslash = is_other c 92 signs.1 }, by_test text parts.1)

-- octets in hexadecimal
pub hexadecimal_plain : (octets : List ℕ) → AreOctets octets → ArePlain (encode_lower octets)
unfolding encode_with
hexadecimal_plain [] small = tt
hexadecimal_plain (x ∷ octets) small =
    let octet : x < 256 = small 0 in
    let digits = by_test lower_digits refl in
    (at_plain lower_digits (x / 16) digits (omega arith), (at_plain lower_digits (x % 16) digits (omega arith), hexadecimal_plain octets (λ i. small (suc i))))

-- bits
bits_plain : (octets : List ℕ) → ArePlain (flat_map octet_bits octets)
bits_plain [] = tt
bits_plain (x ∷ octets) =
    let bit = λ (n : ℕ). digit_plain (n % 2) (omega arith) in
    (bit (x / 128), (bit (x / 64), (bit (x / 32), (bit (x / 16), (bit (x / 8), (bit (x / 4), (bit (x / 2), (bit x, bits_plain octets))))))))

pub bits_text_plain : (unused : ℕ) (octets : List ℕ) → ArePlain (bits_text unused octets)
bits_text_plain unused octets = take_plain _ _ (bits_plain octets)

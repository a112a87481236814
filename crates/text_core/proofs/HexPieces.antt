-- Hexadecimal digits of octets in pieces.
use Rattle.std.proofs.Common.{◌≡◌, ℕ, ◌*◌, ◌/◌, ◌%◌, List, [], ◌∷◌, ◌++◌, length, take, drop, ap, sym, refl, ◌∙◌, append_assoc, arith}
use Rattle.std.specs.Prelude.{slice_index}
use Rattle.std.proofs.lemmas.List.{append-nil, take-append-drop, take-append-le, take_all}
use Rattle.hex.specs.Hex.{encode_lower, encode_with, lower_digits}
use Rattle.hex.proofs.HexLemmas.{length-encode_with}

encode-append : (xs ys : List ℕ) → encode_lower (xs ++ ys) ≡ encode_lower xs ++ encode_lower ys
unfolding encode_with
encode-append [] ys = refl
encode-append (x ∷ xs) ys = ap (λ (l : List ℕ). slice_index lower_digits (x / 16) ∷ slice_index lower_digits (x % 16) ∷ l) (encode-append xs ys)

-- the digits of the octets in front stand in front
pub front_digits : (digits front xs rest : List ℕ) → digits ≡ encode_lower (front ++ rest) → front ≡ xs → take (2 * length xs) digits ≡ encode_lower xs
front_digits digits front xs rest all same =
    let size = length-encode_with lower_digits xs in
    ap (take (2 * length xs)) (all ∙ ap (λ (l : List ℕ). encode_lower (l ++ rest)) same ∙ encode-append xs rest)
    ∙ take-append-le (2 * length xs) (encode_lower xs) (encode_lower rest) (omega (arith, size)) ∙ take_all (2 * length xs) (encode_lower xs) (omega (arith, size))

-- an octet or more was written
pub digits_written : (n : ℕ) (old new xs piece rest digits : List ℕ) → new ≡ old ++ digits → digits ≡ encode_lower piece → piece ≡ take n xs → rest ≡ drop n xs
    → new ++ encode_lower rest ≡ old ++ encode_lower xs
digits_written n old new xs piece rest digits p q front back =
    ap (λ (l : List ℕ). l ++ encode_lower rest) (p ∙ ap (λ (l : List ℕ). old ++ l) (q ∙ ap encode_lower front))
    ∙ ap (λ (l : List ℕ). (old ++ encode_lower (take n xs)) ++ encode_lower l) back ∙ append_assoc old (encode_lower (take n xs)) (encode_lower (drop n xs))
    ∙ ap (λ (l : List ℕ). old ++ l) (sym (encode-append (take n xs) (drop n xs)) ∙ ap encode_lower (take-append-drop n xs))

-- nothing is left to write
pub all_written : (new all xs : List ℕ) → length xs ≡ 0 → new ++ encode_lower xs ≡ all → new ≡ all
unfolding encode_with
all_written new all [] none e = sym (append-nil new) ∙ e
all_written new all (x ∷ xs) none e = absurd (omega arith)

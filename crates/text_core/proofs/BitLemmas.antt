-- Bits without the unused ones do not hang on what these are.
use Rattle.std.proofs.Common.{◌≡◌, ℕ, zero, suc, ◌+◌, ◌-◌, ◌*◌, ◌/◌, ◌%◌, ◌^◌, ◌<◌, ◌≤◌, List, [], ◌∷◌, ◌++◌, length, get_or, take, ap, refl, sym, ◌∙◌, arith, length-append}
use Rattle.std.specs.List.{flat_map}
use Rattle.std.proofs.Math.Nat.{div-add-mod, div-div-eq-div-mul, mul-div_cancel_left}
use Rattle.std.proofs.Math.Seq.{take-append-add}
use Rattle.mms_data.specs.Contents.{cleared}
use Rattle.text_core.specs.Pieces.{octet_bits, bits_text}

size : (octets : List ℕ) → length (flat_map octet_bits octets) ≡ 8 * length octets
size [] = refl
size (x ∷ xs) = omega (arith, size xs)

size_cleared : (unused : ℕ) (octets : List ℕ) → length (flat_map octet_bits (cleared unused octets)) ≡ length (flat_map octet_bits octets)
size_cleared unused [] = refl
size_cleared unused (x ∷ []) = refl
size_cleared unused (x ∷ y ∷ ys) = omega (arith, size_cleared unused (y ∷ ys))

-- without what is left of a part, the number of greater parts is the same
parts_kept : (x m d : ℕ) → 0 < m → (x - x % m) / (m * d) ≡ x / (m * d)
parts_kept x m d h =
    let whole : x - x % m ≡ m * (x / m) = omega (arith, div-add-mod x m) in
    sym (div-div-eq-div-mul (x - x % m) m d) ∙ ap (λ n. n / m / d) whole ∙ ap (λ n. n / d) (mul-div_cancel_left (x / m) h) ∙ div-div-eq-div-mul x m d

-- the last octet
last_bits : (unused x : ℕ) → unused ≤ 7 → take (8 - unused) (octet_bits (x - x % 2 ^ unused)) ≡ take (8 - unused) (octet_bits x)
last_bits zero x h = let e : x - x % 1 ≡ x = omega arith in ap (λ n. take 8 (octet_bits n)) e
last_bits (suc zero) x h = let e = λ (d : ℕ). parts_kept x 2 d (omega arith) in cc (e 64, e 32, e 16, e 8, e 4, e 2, e 1)
last_bits (suc (suc zero)) x h = let e = λ (d : ℕ). parts_kept x 4 d (omega arith) in cc (e 32, e 16, e 8, e 4, e 2, e 1)
last_bits (suc (suc (suc zero))) x h = let e = λ (d : ℕ). parts_kept x 8 d (omega arith) in cc (e 16, e 8, e 4, e 2, e 1)
last_bits (suc (suc (suc (suc zero)))) x h = let e = λ (d : ℕ). parts_kept x 16 d (omega arith) in cc (e 8, e 4, e 2, e 1)
last_bits (suc (suc (suc (suc (suc zero))))) x h = let e = λ (d : ℕ). parts_kept x 32 d (omega arith) in cc (e 4, e 2, e 1)
last_bits (suc (suc (suc (suc (suc (suc zero)))))) x h = let e = λ (d : ℕ). parts_kept x 64 d (omega arith) in cc (e 2, e 1)
last_bits (suc (suc (suc (suc (suc (suc (suc zero))))))) x h = let e = λ (d : ℕ). parts_kept x 128 d (omega arith) in cc (e 1)
last_bits (suc (suc (suc (suc (suc (suc (suc (suc unused)))))))) x h = absurd (omega arith)

-- bits behind whole octets
behind : (unused : ℕ) (a b : List ℕ) → unused ≤ length b → take (length (a ++ b) - unused) (a ++ b) ≡ a ++ take (length b - unused) b
behind unused a b h =
    let e : length a + (length b - unused) ≡ length (a ++ b) - unused = omega (arith, length-append a b) in
    ap (λ n. take n (a ++ b)) (sym e) ∙ take-append-add a b (length b - unused)

pub bits_cleared : (unused : ℕ) (octets : List ℕ) → unused ≤ 7 → bits_text unused (cleared unused octets) ≡ bits_text unused octets
bits_cleared unused [] h = refl
bits_cleared unused (x ∷ []) h = last_bits unused x h
bits_cleared unused (x ∷ y ∷ ys) h =
    let many : unused ≤ length (flat_map octet_bits (y ∷ ys)) = omega (arith, size (y ∷ ys)) in
    let many_cleared : unused ≤ length (flat_map octet_bits (cleared unused (y ∷ ys))) = omega (arith, many, size_cleared unused (y ∷ ys)) in
    behind unused (octet_bits x) (flat_map octet_bits (cleared unused (y ∷ ys))) many_cleared
    ∙ ap (λ (l : List ℕ). octet_bits x ++ l) (bits_cleared unused (y ∷ ys) h)
    ∙ sym (behind unused (octet_bits x) (flat_map octet_bits (y ∷ ys)) many)

-- two octets
pub these_two : (octets : List ℕ) → length octets ≡ 2 → octets ≡ get_or octets 0 0 ∷ get_or octets 1 0 ∷ []
these_two [] h = absurd (omega arith)
these_two (x ∷ []) h = absurd (omega arith)
these_two (x ∷ y ∷ []) h = refl
these_two (x ∷ y ∷ z ∷ zs) h = absurd (omega arith)

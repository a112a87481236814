-- How many octets a written element has.
use Rattle.std.proofs.Common.{◌≡◌, ℕ, ◌+◌, ◌++◌, List, [], ◌∷◌, length, refl, ap, arith}
use Rattle.std.proofs.lemmas.List.{length-append}
use Rattle.ber_core.specs.Written.{short_length, written_element}
use Rattle.mms_data.specs.Contents.{cleared}

-- an element has its contents, its length octets, and one octet of identifier
pub element_size : (id : ℕ) (c : List ℕ) → length (written_element id c) ≡ length c + length (short_length (length c)) + 1
unfolding written_element
element_size id c = omega (arith, length-append (short_length (length c)) c)

-- the octets of bits stay as many when the unused ones are cleared
pub cleared_size : (unused : ℕ) (o : List ℕ) → length (cleared unused o) ≡ length o
cleared_size unused [] = refl
cleared_size unused (x ∷ []) = refl
cleared_size unused (x ∷ y ∷ ys) = omega (arith, cleared_size unused (y ∷ ys))

-- an element of bits: its header, then one octet more than the bits have
pub bits_size : (id unused : ℕ) (o : List ℕ) → length (written_element id (unused ∷ cleared unused o)) ≡ 1 + length (short_length (length o + 1)) + (length o + 1)
bits_size id unused o =
    let same : length (unused ∷ cleared unused o) ≡ length o + 1 = omega (arith, cleared_size unused o) in
    rw (element_size id (unused ∷ cleared unused o), same) (omega arith)

pub bits_parts : (id unused : ℕ) (o : List ℕ) → written_element id (unused ∷ cleared unused o) ≡ (id ∷ short_length (length o + 1)) ++ (unused ∷ cleared unused o)
unfolding written_element
bits_parts id unused o =
    let same : length (unused ∷ cleared unused o) ≡ length o + 1 = omega (arith, cleared_size unused o) in
    ap (λ (n : ℕ). (id ∷ short_length n) ++ (unused ∷ cleared unused o)) same

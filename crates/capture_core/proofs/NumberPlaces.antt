-- Numbers that stand in the front of octets, or behind other octets.
use Rattle.std.proofs.Common.{◌≡◌, ℕ, ◌+◌, ◌≤◌, List, ◌++◌, length, drop, ap, ◌∙◌, arith}
use Rattle.std.proofs.lemmas.List.{drop-append-le, length-drop}
use Rattle.std.proofs.Math.Seq.{drop-append-add}
use Rattle.byteorder.specs.Endian.{big_from, little_from}
use Rattle.byteorder.specs.Numbers.{big_from-append, little_from-append}
use Rattle.capture_core.specs.Numbers.{number_at}
use Rattle.capture_core.specs.declared.form.OctetOrder.{OctetOrder}
use Rattle.capture_core.specs.declared.form.OctetOrder.TheVariants.{BigEndian, LittleEndian}

-- a number in the front
pub number_front : (order : OctetOrder) (n : ℕ) (xs ys : List ℕ) (p : ℕ) → p + n ≤ length xs → number_at order n (xs ++ ys) p ≡ number_at order n xs p
unfolding number_at
number_front BigEndian n xs ys p h =
    let room : n ≤ length (drop p xs) = simp length-drop (omega (arith, h)) in
    ap (big_from 0 n) (drop-append-le p xs ys (omega (arith, h))) ∙ big_from-append n (drop p xs) ys room
number_front LittleEndian n xs ys p h =
    let room : n ≤ length (drop p xs) = simp length-drop (omega (arith, h)) in
    ap (little_from 0 n) (drop-append-le p xs ys (omega (arith, h))) ∙ little_from-append n (drop p xs) ys room

-- a number behind other octets
pub number_behind : (order : OctetOrder) (n : ℕ) (xs ys : List ℕ) (k p : ℕ) → k ≡ length xs + p → number_at order n (xs ++ ys) k ≡ number_at order n ys p
unfolding number_at
number_behind BigEndian n xs ys k p e = ap (λ (j : ℕ). big_from 0 n (drop j (xs ++ ys))) e ∙ ap (big_from 0 n) (drop-append-add xs ys p)
number_behind LittleEndian n xs ys k p e = ap (λ (j : ℕ). little_from 0 n (drop j (xs ++ ys))) e ∙ ap (little_from 0 n) (drop-append-add xs ys p)

-- An integer whose first nine bits are not all alike has the fewest octets.
use Rattle.std.proofs.Common.{◌≡◌, ◌≤◌, ◌<◌, ◌+◌, ◌-◌, ◌*◌, ◌^◌, ℕ, ℤ, pos, negsuc, zero, suc, List, [], ◌∷◌, length, sym, ap, subst, ◌∙◌, arith, inl, inr, mul-le-mul_right, mul_assoc}
use Rattle.std.specs.Prelude.{◌⊎◌, ◌≤ℤ◌, ◌<ℤ◌, nat_lt, slice_index_or, if◌then◌else◌}
use Rattle.std.proofs.lemmas.Bool.{cases_lt, le-ltb, lt-ltb}
use Rattle.std.proofs.lemmas.Int.{ints}
use Rattle.std.proofs.lemmas.Nat.{pow-add}
use Rattle.std.proofs.Math.Nat.{pow-suc, pow-le-pow_right}
use Rattle.byteorder.specs.Numbers.{big_from-cons}
use Rattle.ber_core.specs.Integer.{Int}
use Rattle.ber_core.specs.Length.{AreOctets, number}
use Rattle.ber_core.specs.Written.{integer_size, short_integer, signed_size}
use Rattle.ber_core.proofs.OneSize.{short_one}
use Rattle.ber_core.proofs.Shortest.{integer_shortest, number_small, pow256, twice, twos_low, twos_high}
use Rattle.ber_core.proofs.WrittenLemmas.{integer_size_bounds, length-short_integer}

-- the octet that says no more of a number than the octet b behind it does
abbrev pub sign_octet : ℕ → ℕ
sign_octet b = if nat_lt b 128 then 0 else 255

-- a number over the greatest of k + 1 octets has more
over : (x k : ℕ) → k ≤ 7 → 2 ^ (8 * k + 7) ≤ x → k + 2 ≤ signed_size x
over x zero few big = grind arith
over x (suc zero) few big = grind arith
over x (suc (suc zero)) few big = grind arith
over x (suc (suc (suc zero))) few big = grind arith
over x (suc (suc (suc (suc zero)))) few big = grind arith
over x (suc (suc (suc (suc (suc zero))))) few big = grind arith
over x (suc (suc (suc (suc (suc (suc zero)))))) few big = grind arith
over x (suc (suc (suc (suc (suc (suc (suc zero))))))) few big = grind arith
over x (suc (suc (suc (suc (suc (suc (suc (suc k)))))))) few big = absurd (omega (arith, few))

-- the first octet of a number apart, and the second
head : (x : ℕ) (o : List ℕ) → number (x ∷ o) ≡ x * 256 ^ length o + number o
head x o = ap (λ (m : ℕ). x * 256 ^ length o + m) (big_from-cons 0 (length o) x o)

two : (a b : ℕ) (r : List ℕ) → number (a ∷ b ∷ r) ≡ 256 * (a * 256 ^ length r) + (b * 256 ^ length r + number r)
two a b r =
    let p = 256 ^ length r in
    let grown : a * 256 ^ suc (length r) ≡ a * p * 256 = ap (λ (m : ℕ). a * m) (pow-suc 256 (length r)) ∙ sym (mul_assoc a p 256) in
    omega (arith, head a (b ∷ r), head b r, grown)

-- a number of two octets and more, in terms of the power for the octets behind them
module _ (a b p r n : ℕ) (first : a < 256) (second : b < 256) (rest : r < p) (apart : ¬ (a ≡ sign_octet b)) (is : n ≡ 256 * (a * p) + (b * p + r)) where
  not_zero : b < 128 → 1 ≤ a
  not_zero small = let t = lt-ltb b 128 small in let more : ¬ (a ≡ 0) = λ e. apart (rw t e) in omega (arith, more)

  not_full : 128 ≤ b → a ≤ 254
  not_full big = let t = le-ltb b 128 big in let more : ¬ (a ≡ 255) = λ e. apart (rw t e) in omega (arith, more, first)

  above : p * 128 ≤ n
  above = elim (cases_lt b 128) [
    | inl small ↦ let grown : 1 * p ≤ a * p = mul-le-mul_right p (not_zero small) in omega (arith, grown, is)
    | inr big ↦ let grown : 128 * p ≤ b * p = mul-le-mul_right p big in omega (arith, grown, is)
  ]

  below : n + p * 128 < p * 65536
  below = elim (cases_lt b 128) [
    | inl small ↦
        let one : a * p ≤ 255 * p = mul-le-mul_right p (omega (arith, first)) in
        let other : b * p ≤ 127 * p = mul-le-mul_right p (omega (arith, small)) in
        omega (arith, one, other, is, rest)
    | inr big ↦
        let one : a * p ≤ 254 * p = mul-le-mul_right p (not_full big) in
        let other : b * p ≤ 255 * p = mul-le-mul_right p (omega (arith, second)) in
        omega (arith, one, other, is, rest)
  ]

-- the sign of what octets spell
record Plus (c : List ℕ) (n : ℤ) : Type 0 where
  pub low : number c < 2 ^ (8 * length c - 1)
  pub is : n ≡ pos (number c)

record Minus (c : List ℕ) (n : ℤ) : Type 0 where
  pub short : ℕ
  pub few : short < 2 ^ (8 * length c - 1)
  pub all : number c + suc short ≡ 2 ^ (8 * length c)
  pub is : n ≡ negsuc short

signed : (c : List ℕ) → AreOctets c → (n : ℤ) → Int n c → Plus c n ⊎ Minus c n
signed c small n spelled =
    let size = length c in
    let held : number c < 2 ^ (8 * size) = subst (λ (m : ℕ). number c < m) (pow256 size) (number_small c small) in
    elim (cases_lt (number c) (2 ^ (8 * size - 1))) [
      | inl below ↦ inl (record { low = below; is = sym spelled.2 ∙ twos_low size (number c) below })
      | inr above ↦
          let k = 2 ^ (8 * size) - suc (number c) in
          let both = twice size spelled.0 in
          inr (record { short = k; few = omega (arith, both, above); all = omega arith; is = sym spelled.2 ∙ twos_high size (number c) k above (omega arith) })
    ]

-- the powers for k octets and more
power : (k m : ℕ) → 2 ^ (8 * k + m) ≡ 256 ^ k * 2 ^ m
power k m = pow-add 2 (8 * k) m ∙ ap (λ (x : ℕ). x * 2 ^ m) (sym (pow256 k))

-- so that as many octets are its size
size_is : (c : List ℕ) → AreOctets c → (2 ≤ length c → ¬ (slice_index_or c 0 0 ≡ sign_octet (slice_index_or c 1 0))) → (n : ℤ) → Int n c → length c ≤ integer_size n
unfolding integer_size
size_is [] small apart n spelled = omega arith
size_is (a ∷ []) small apart n spelled = (integer_size_bounds n).0
size_is (a ∷ b ∷ r) small apart n spelled =
    let k = length r in
    let p = 256 ^ k in
    let few : k ≤ 7 = omega (arith, spelled.1) in
    let differs : ¬ (a ≡ sign_octet b) = apart (omega arith) in
    let rest : number r < p = number_small r (λ i. small (suc (suc i))) in
    let seven : 2 ^ (8 * k + 7) ≡ p * 128 = power k 7 in
    let sixteen : 2 ^ (8 * suc (suc k)) ≡ p * 65536 = ap (λ (e : ℕ). 2 ^ e) (let e : 8 * suc (suc k) ≡ 8 * k + 16 = omega arith in e) ∙ power k 16 in
    elim (signed (a ∷ b ∷ r) small n spelled) [
      | inl s ↦
          let big = above a b p (number r) (number (a ∷ b ∷ r)) (small 0) (small 1) rest differs (two a b r) in
          rw s.is (omega (arith, over (number (a ∷ b ∷ r)) k few (omega (arith, seven, big))))
      | inr s ↦
          let less = below a b p (number r) (number (a ∷ b ∷ r)) (small 0) (small 1) rest differs (two a b r) in
          rw s.is (omega (arith, over s.short k few (omega (arith, seven, sixteen, less, s.all))))
    ]

-- what octets spell lies in the range of the written form
in_range : (c : List ℕ) → AreOctets c → (n : ℤ) → Int n c → (negsuc (2 ^ 71 - 1) ≤ℤ n) × (n <ℤ pos (2 ^ 71))
in_range c small n spelled =
    let fewer : 8 * length c - 1 ≤ 71 = omega (arith, spelled.1) in
    let most : 2 ^ (8 * length c - 1) ≤ 2 ^ 71 = pow-le-pow_right (let some : 0 < 2 = omega arith in some) fewer in
    elim (signed c small n spelled) [
      | inl s ↦ rw s.is (omega (arith, ints), omega (arith, ints, s.low, most))
      | inr s ↦ rw s.is (omega (arith, ints, s.few, most), omega (arith, ints))
    ]

-- they are the written form
pub short_is : (c : List ℕ) → AreOctets c → (2 ≤ length c → ¬ (slice_index_or c 0 0 ≡ sign_octet (slice_index_or c 1 0))) → (n : ℤ) → Int n c → c ≡ short_integer n
short_is c small apart n spelled =
    let range = in_range c small n spelled in
    let least = (integer_shortest n range.0 range.1).fewest c small spelled in
    let size : length c ≡ integer_size n = omega (arith, least, length-short_integer n, size_is c small apart n spelled) in
    sym (short_one n c range.0 range.1 small spelled size)

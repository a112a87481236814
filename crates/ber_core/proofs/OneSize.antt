-- Of one number, octets of one count are one spelling.
use Rattle.std.proofs.Common.{◌≡◌, ◌≤◌, ◌<◌, ◌+◌, ◌-◌, ◌*◌, ◌/◌, ◌%◌, ◌^◌, ℕ, ℤ, pos, negsuc, suc, List, [], ◌∷◌, length, refl, sym, ap, ap₂, subst, ◌∙◌, arith, inl, inr}
use Rattle.std.specs.Prelude.{◌≤ℤ◌, ◌<ℤ◌}
use Rattle.std.proofs.lemmas.Bool.{cases_lt}
use Rattle.std.proofs.Math.Nat.{mod-eq_of_lt, mul-add-mod_self_right, mul-div_cancel, pow-le-pow_right}
use Rattle.byteorder.specs.Endian.{twos_complement}
use Rattle.byteorder.specs.Numbers.{big_from-cons}
use Rattle.ber_core.specs.Length.{AreOctets, Len, number}
use Rattle.ber_core.specs.Integer.{Int}
use Rattle.ber_core.specs.Written.{integer_size, short_integer}
use Rattle.ber_core.proofs.Shortest.{integer_shortest, number_small, pow256, twos_low, twos_high}
use Rattle.ber_core.proofs.WrittenLemmas.{length-short_integer}

-- what stands before a number below P, and the number
digits_one : (P x y a b : ℕ) → a < P → b < P → x * P + a ≡ y * P + b → (x ≡ y) × (a ≡ b)
digits_one P x y a b low high e =
    let rest : a ≡ b = sym (mul-add-mod_self_right x P a ∙ mod-eq_of_lt low) ∙ ap (λ (z : ℕ). z % P) e ∙ (mul-add-mod_self_right y P b ∙ mod-eq_of_lt high) in
    let tops : x * P ≡ y * P = omega (arith, e, rest) in
    let some : 0 < P = omega (arith, low) in
    (sym (mul-div_cancel x some) ∙ ap (λ (z : ℕ). z / P) tops ∙ mul-div_cancel y some, rest)

pub number_one : (a b : List ℕ) → AreOctets a → AreOctets b → length a ≡ length b → number a ≡ number b → a ≡ b
number_one [] [] p q size e = refl
number_one [] (y ∷ b) p q size e = absurd (omega (arith, size))
number_one (x ∷ a) [] p q size e = absurd (omega (arith, size))
number_one (x ∷ a) (y ∷ b) p q size e =
    let same : length a ≡ length b = omega (arith, size) in
    let first : number (x ∷ a) ≡ x * 256 ^ length a + number a = ap (λ (m : ℕ). x * 256 ^ length a + m) (big_from-cons 0 (length a) x a) in
    let other : number (y ∷ b) ≡ y * 256 ^ length b + number b = ap (λ (m : ℕ). y * 256 ^ length b + m) (big_from-cons 0 (length b) y b) in
    let both : x * 256 ^ length a + number a ≡ y * 256 ^ length a + number b = sym first ∙ e ∙ other ∙ ap (λ (m : ℕ). y * 256 ^ m + number b) (sym same) in
    let small : number b < 256 ^ length a = subst (λ (m : ℕ). number b < 256 ^ m) (sym same) (number_small b (λ i. q (suc i))) in
    let parts = digits_one (256 ^ length a) x y (number a) (number b) (number_small a (λ i. p (suc i))) small both in
    ap₂ (λ (z : ℕ) (zs : List ℕ). z ∷ zs) parts.0 (number_one a b (λ i. p (suc i)) (λ i. q (suc i)) same parts.1)

-- numbers of s octets with one value in two's complement
twos_one : (s x y : ℕ) → 1 ≤ s → x < 2 ^ (8 * s) → y < 2 ^ (8 * s) → twos_complement s x ≡ twos_complement s y → x ≡ y
twos_one s x y some low high e = elim (cases_lt x (2 ^ (8 * s - 1))) [
  | inl a ↦ elim (cases_lt y (2 ^ (8 * s - 1))) [
    | inl b ↦ let is : pos x ≡ pos y = sym (twos_low s x a) ∙ e ∙ twos_low s y b in cc
    | inr b ↦ absurd (let k = 2 ^ (8 * s) - suc y in let is : pos x ≡ negsuc k = sym (twos_low s x a) ∙ e ∙ twos_high s y k b (omega arith) in cc)
  ]
  | inr a ↦
      let j = 2 ^ (8 * s) - suc x in
      let left = twos_high s x j a (omega arith) in
      elim (cases_lt y (2 ^ (8 * s - 1))) [
        | inl b ↦ absurd (let is : negsuc j ≡ pos y = sym left ∙ e ∙ twos_low s y b in cc)
        | inr b ↦
            let k = 2 ^ (8 * s) - suc y in
            let is : negsuc j ≡ negsuc k = sym left ∙ e ∙ twos_high s y k b (omega arith) in
            let same : j ≡ k = cc in
            omega (arith, same)
      ]
]

pub Int_one : (n : ℤ) (a b : List ℕ) → AreOctets a → AreOctets b → Int n a → Int n b → length a ≡ length b → a ≡ b
Int_one n a b p q s t size =
    let low : number a < 2 ^ (8 * length a) = subst (λ (m : ℕ). number a < m) (pow256 (length a)) (number_small a p) in
    let high : number b < 2 ^ (8 * length a) = subst (λ (m : ℕ). number b < 2 ^ (8 * m)) (sym size) (subst (λ (m : ℕ). number b < m) (pow256 (length b)) (number_small b q)) in
    let one : twos_complement (length a) (number a) ≡ twos_complement (length a) (number b) = s.2 ∙ sym t.2 ∙ ap (λ (m : ℕ). twos_complement m (number b)) (sym size) in
    number_one a b p q size (twos_one (length a) (number a) (number b) s.0 low high one)

-- a spelling of as few octets as the written form is the written form
pub short_one : (n : ℤ) (c : List ℕ) → negsuc (2 ^ 71 - 1) ≤ℤ n → n <ℤ pos (2 ^ 71) → AreOctets c → Int n c → length c ≡ integer_size n → short_integer n ≡ c
short_one n c low high octets spelled size =
    let w = integer_shortest n low high in
    Int_one n (short_integer n) c w.octets octets w.spells spelled (length-short_integer n ∙ sym size)

-- the number of the octets of a length
pub Len_small : (n : ℕ) (o : List ℕ) → AreOctets o → Len n o → n < 2 ^ 32
Len_small n [] small h = absurd h
Len_small n (first ∷ more) small (inl h) = omega (arith, h.2)
Len_small n (first ∷ more) small (inr h) =
    let below : n < 256 ^ length more = subst (λ (m : ℕ). m < 256 ^ length more) h.3 (number_small more (λ i. small (suc i))) in
    let most : 256 ^ length more ≤ 256 ^ 4 = pow-le-pow_right {n = 256} (omega arith) h.2 in
    omega (arith, below, most)

pub Len_one : (n : ℕ) (a b : List ℕ) → AreOctets a → AreOctets b → Len n a → Len n b → length a ≡ length b → a ≡ b
Len_one n [] b p q s t size = absurd s
Len_one n (x ∷ a) [] p q s t size = absurd t
Len_one n (x ∷ a) (y ∷ b) p q (inl s) (inl t) size = rw (s.0, s.1, t.0, t.1) refl
Len_one n (x ∷ a) (y ∷ b) p q (inl s) (inr t) size = absurd (let none = ap length s.0 in omega (arith, none, t.1, size))
Len_one n (x ∷ a) (y ∷ b) p q (inr s) (inl t) size = absurd (let none = ap length t.0 in omega (arith, none, s.1, size))
Len_one n (x ∷ a) (y ∷ b) p q (inr s) (inr t) size =
    let same : length a ≡ length b = omega (arith, size) in
    let firsts : x ≡ y = omega (arith, s.0, t.0, same) in
    ap₂ (λ (z : ℕ) (zs : List ℕ). z ∷ zs) firsts (number_one a b (λ i. p (suc i)) (λ i. q (suc i)) same (s.3 ∙ sym t.3))

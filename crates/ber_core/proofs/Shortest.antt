-- The written forms are the shortest spellings.
use Rattle.std.proofs.Common.{◌≡◌, ◌≤◌, ◌<◌, ◌+◌, ◌-◌, ◌*◌, ◌/◌, ◌%◌, ◌^◌, ℕ, ℤ, pos, negsuc, zero, suc, List, [], ◌∷◌, length, refl, sym, ap, subst, ◌∙◌, arith, inl, inr}
use Rattle.std.specs.Prelude.{◌≤ℤ◌, ◌<ℤ◌}
use Rattle.std.proofs.lemmas.Bool.{cases_lt}
use Rattle.std.proofs.lemmas.Int.{ints}
use Rattle.std.proofs.lemmas.List.{append-nil}
use Rattle.std.proofs.lemmas.Nat.{pow-add}
use Rattle.std.proofs.Math.Nat.{pow-suc, pow-succ', one-le-pow, mod-lt, mod-eq_of_lt, mul-add-mod_self_right}
use Rattle.std.specs.Int.{w128, byte_at}
use Rattle.byteorder.specs.Endian.{big_bytes, big_number, low_bytes, twos_complement}
use Rattle.byteorder.specs.Numbers.{big_from-lt, big_number-reads_back, length-bytes_high_first}
use Rattle.ber_core.specs.Length.{AreOctets, Len, number}
use Rattle.ber_core.specs.Integer.{Int}
use Rattle.ber_core.specs.Written.{IsShortest, integer_size, number_size, short_integer, short_length, signed_size}
use Rattle.ber_core.proofs.WrittenLemmas.{integer_size_bounds, signed_size_bounds, length-short_integer, short_length-small}

-- two ways to write how many numbers n octets spell
pub pow256 : (n : ℕ) → 256 ^ n ≡ 2 ^ (8 * n)
pow256 zero = refl
pow256 (suc n) =
    let e : 8 * suc n ≡ 8 * n + 8 = omega arith in
    rw (pow-suc 256 n, pow256 n, e, pow-add 2 (8 * n) 8) refl

-- the octets of a number are below 256
byte_at_small : (i n : ℕ) → byte_at i n < 256
byte_at_small zero n = mod-lt n (omega arith)
byte_at_small (suc i) n = mod-lt (n / 256 ^ suc i) (omega arith)

pub big_bytes_octets : (k n : ℕ) → AreOctets (big_bytes k n)
big_bytes_octets zero n i = omega arith
big_bytes_octets (suc k) n zero = byte_at_small k n
big_bytes_octets (suc k) n (suc i) = big_bytes_octets k n i

-- the octets of a number that fits them spell it
pub number-big_bytes : (k n : ℕ) → n < 256 ^ k → number (big_bytes k n) ≡ n
number-big_bytes k n fits =
    ap (λ (j : ℕ). big_number j (big_bytes k n)) (length-bytes_high_first k n)
    ∙ ap (big_number k) (sym (append-nil (big_bytes k n)))
    ∙ big_number-reads_back k n [] fits

-- what octets spell is below the power for their count
pub number_small : (o : List ℕ) → AreOctets o → number o < 256 ^ length o
number_small o small = big_from-lt 0 (length o) o small

-- a number below 2 ^ 32 fits its size, which is 1 to 4
number_size_fits : (n : ℕ) → n < 2 ^ 32 → n < 256 ^ number_size n
number_size_fits n small = grind arith

number_size_bounds : (n : ℕ) → (1 ≤ number_size n) × (number_size n ≤ 4)
number_size_bounds n = grind arith

-- and no fewer octets hold it
number_size_least : (n m : ℕ) → 1 ≤ m → n < 256 ^ m → number_size n ≤ m
number_size_least n zero low fits = absurd (omega arith)
number_size_least n (suc zero) low fits = grind arith
number_size_least n (suc (suc zero)) low fits = grind arith
number_size_least n (suc (suc (suc zero))) low fits = grind arith
number_size_least n (suc (suc (suc (suc m)))) low fits = omega (arith, number_size_bounds n)

short_length-large : (n : ℕ) → 128 ≤ n → short_length n ≡ (128 + number_size n) ∷ big_bytes (number_size n) n
unfolding short_length
short_length-large n large = grind arith

-- a length spelled in octets has at least one, and more than its size where it is over 127
Len_fewest : (n : ℕ) (o : List ℕ) → AreOctets o → Len n o → (1 ≤ length o) × (128 ≤ n → 1 + number_size n ≤ length o)
Len_fewest n [] small p = absurd p
Len_fewest n (b ∷ o) small (inl p) = (omega arith, λ large. absurd (omega (arith, large, p.2)))
Len_fewest n (b ∷ o) small (inr p) =
    let held : number o < 256 ^ length o = number_small o (λ i. small (suc i)) in
    let fits : n < 256 ^ length o = subst (λ (m : ℕ). m < 256 ^ length o) p.3 held in
    (omega arith, λ large. omega (arith, number_size_least n (length o) p.1 fits))

one_octet : (n : ℕ) → n < 128 → AreOctets (n ∷ [])
one_octet n short zero = let small : n < 256 = omega arith in small
one_octet n short (suc i) = let small : 0 < 256 = omega arith in small

more_octets : (n : ℕ) → AreOctets ((128 + number_size n) ∷ big_bytes (number_size n) n)
more_octets n zero = let small : 128 + number_size n < 256 = omega (arith, number_size_bounds n) in small
more_octets n (suc i) = big_bytes_octets (number_size n) n i

-- the written form of a length is its shortest spelling
pub length_shortest : (n : ℕ) → n < 2 ^ 32 → IsShortest (Len n) (short_length n)
length_shortest n small = elim (cases_lt n 128) [
  | inl short ↦ subst (IsShortest (Len n)) (sym (short_length-small n short)) (record {
    octets = one_octet n short;
    spells = inl (refl, refl, omega arith);
    fewest = λ other octets spelled. (Len_fewest n other octets spelled).0;
  })
  | inr large ↦
      let k = number_size n in
      let long = length-bytes_high_first k n in
      let bounds = number_size_bounds n in
      subst (IsShortest (Len n)) (sym (short_length-large n large)) (record {
        octets = more_octets n;
        spells = inr (omega (arith, long), omega (arith, long), omega (arith, long), number-big_bytes k n (number_size_fits n small));
        fewest = λ other octets spelled. omega (arith, long, (Len_fewest n other octets spelled).1 large);
      })
]

-- a number below 2 ^ 71 fits its size with a sign bit
signed_size_fits : (n : ℕ) → n < 2 ^ 71 → n < 2 ^ (8 * signed_size n - 1)
signed_size_fits n small = grind arith

-- and no fewer octets hold it so
signed_size_least : (n m : ℕ) → 1 ≤ m → n < 2 ^ (8 * m - 1) → signed_size n ≤ m
signed_size_least n zero low fits = absurd (omega arith)
signed_size_least n (suc zero) low fits = grind arith
signed_size_least n (suc (suc zero)) low fits = grind arith
signed_size_least n (suc (suc (suc zero))) low fits = grind arith
signed_size_least n (suc (suc (suc (suc zero)))) low fits = grind arith
signed_size_least n (suc (suc (suc (suc (suc zero))))) low fits = grind arith
signed_size_least n (suc (suc (suc (suc (suc (suc zero)))))) low fits = grind arith
signed_size_least n (suc (suc (suc (suc (suc (suc (suc zero))))))) low fits = grind arith
signed_size_least n (suc (suc (suc (suc (suc (suc (suc (suc zero)))))))) low fits = grind arith
signed_size_least n (suc (suc (suc (suc (suc (suc (suc (suc (suc m))))))))) low fits = omega (arith, signed_size_bounds n)

-- 256 ^ s is twice the place of the sign
pub twice : (s : ℕ) → 1 ≤ s → 2 ^ (8 * s) ≡ 2 * 2 ^ (8 * s - 1)
twice s low = ap (λ (e : ℕ). 2 ^ e) (omega arith) ∙ pow-succ' 2 (8 * s - 1)

-- two's complement below the sign, and above it
pub twos_low : (s x : ℕ) → x < 2 ^ (8 * s - 1) → twos_complement s x ≡ pos x
twos_low s x small = grind arith

pub twos_high : (s x k : ℕ) → 2 ^ (8 * s - 1) ≤ x → x + suc k ≡ 2 ^ (8 * s) → twos_complement s x ≡ negsuc k
twos_high s x k large sum = grind (arith, ints)

-- what is left of a number that falls short of a multiple
mod-short : (m q k : ℕ) → 0 < q → suc k ≤ m → (q * m - suc k) % m ≡ m - suc k
mod-short m zero k some fits = absurd (omega arith)
mod-short m (suc q) k some fits =
    let e : suc q * m - suc k ≡ q * m + (m - suc k) = omega arith in
    ap (λ (x : ℕ). x % m) e ∙ mul-add-mod_self_right q m (m - suc k) ∙ mod-eq_of_lt (omega arith)

-- the low octets of an integer that fits them are it in two's complement
low_bytes_back : (n : ℤ) → negsuc (2 ^ 71 - 1) ≤ℤ n → n <ℤ pos (2 ^ 71)
    → (low_bytes w128 (integer_size n) n < 256 ^ integer_size n) × (twos_complement (integer_size n) (low_bytes w128 (integer_size n) n) ≡ n)
unfolding integer_size
low_bytes_back (pos n) low high =
    let small : n < 2 ^ 71 = omega (arith, ints) in
    let fits = signed_size_fits n small in
    let bounds = signed_size_bounds n in
    let two = twice (signed_size n) bounds.0 in
    let same : n % 2 ^ (8 * signed_size n) ≡ n = mod-eq_of_lt (omega arith) in
    (rw (same, pow256 (signed_size n)) (omega arith), rw same (twos_low (signed_size n) n fits))
low_bytes_back (negsuc n) low high =
    let small : n < 2 ^ 71 = omega (arith, ints) in
    let fits = signed_size_fits n small in
    let bounds = signed_size_bounds n in
    let s = signed_size n in
    let two = twice s bounds.0 in
    let whole : 2 ^ 128 ≡ 2 ^ (128 - 8 * s) * 2 ^ (8 * s) =
    ap (λ (e : ℕ). 2 ^ e) (let e : 128 ≡ 128 - 8 * s + 8 * s = omega arith in e) ∙ pow-add 2 (128 - 8 * s) (8 * s) in
    let same : (2 ^ 128 - suc n) % 2 ^ (8 * s) ≡ 2 ^ (8 * s) - suc n =
    ap (λ (w : ℕ). (w - suc n) % 2 ^ (8 * s)) whole ∙ mod-short (2 ^ (8 * s)) (2 ^ (128 - 8 * s)) n (one-le-pow (128 - 8 * s) 2 (omega arith)) (omega arith) in
    (rw (same, pow256 s) (omega arith), rw same (twos_high s (2 ^ (8 * s) - suc n) n (omega arith) (omega arith)))

-- an integer is spelled in no fewer octets than its size
Int_fewest : (n : ℤ) (o : List ℕ) → AreOctets o → Int n o → integer_size n ≤ length o
unfolding integer_size
Int_fewest n o small p =
    let size = length o in
    let held : number o < 2 ^ (8 * size) = subst (λ (m : ℕ). number o < m) (pow256 size) (number_small o small) in
    let two = twice size p.0 in
    elim (cases_lt (number o) (2 ^ (8 * size - 1))) [
      | inl below ↦
          let is : n ≡ pos (number o) = sym p.2 ∙ twos_low size (number o) below in
          rw is (signed_size_least (number o) size p.0 below)
      | inr above ↦
          let k = 2 ^ (8 * size) - suc (number o) in
          let is : n ≡ negsuc k = sym p.2 ∙ twos_high size (number o) k above (omega arith) in
          rw is (signed_size_least k size p.0 (omega arith))
    ]

-- the written form of an integer is its shortest spelling
pub integer_shortest : (n : ℤ) → negsuc (2 ^ 71 - 1) ≤ℤ n → n <ℤ pos (2 ^ 71) → IsShortest (Int n) (short_integer n)
unfolding short_integer
integer_shortest n low high =
    let size = integer_size n in
    let bits = low_bytes w128 size n in
    let bounds = integer_size_bounds n in
    let long = length-short_integer n in
    let back = low_bytes_back n low high in
    let spelled : number (short_integer n) ≡ bits = number-big_bytes size bits back.0 in
    record {
      octets = big_bytes_octets size bits;
      spells = (omega arith, omega arith, rw (spelled, long) back.1);
      fewest = λ other octets spells. rw long (Int_fewest n other octets spells);
    }

-- Members that are known to be good.
use Rattle.std.proofs.Common.{◌≡◌, ℕ, ℤ, pos, negsuc, suc, ◌-◌, ◌*◌, ◌^◌, ◌<◌, true, false, eqb, List, [], ◌∷◌, length, get_or, Result, Ok, Err, refl, sym, ap, subst, ◌∙◌, arith, inl, inr}
use Rattle.std.specs.Prelude.{◌≤ℤ◌, ◌==◌, Bool, not, slice_range, IsOk}
use Rattle.std.proofs.lemmas.Bool.{cases_lt, eqb-true}
use Rattle.std.proofs.lemmas.Int.{ints}
use Rattle.std.proofs.lemmas.List.{take_all}
use Rattle.ber_core.specs.declared.element.Header.{Header}
use Rattle.ber_core.specs.declared.fault.Fault.{Fault}
use Rattle.byteorder.specs.Endian.{big_number, twos_complement}
use Rattle.ber_core.specs.Length.{AreOctets, number}
use Rattle.ber_core.specs.computed.ContentsReading.{boolean_at, integer_at, natural}
use Rattle.ber_core.specs.computed.Reading.{◌>>=◌}
use Rattle.ber_core.proofs.ContentsLaws.{integer_found}
use Rattle.ber_core.proofs.Shortest.{number_small, pow256, twos_low, twos_high}
use Rattle.ber_core.proofs.Steps.{bind_ok, chosen}
use Rattle.mms_data.specs.Contents.{cleared, least_signed, most_signed, most_unsigned}
use Rattle.mms_data.specs.Data.{Data, simple, Simple, boolean, bits, integer, unsigned, floating, binary_time, utc}
use Rattle.mms_data.specs.Utc.{utc_of}
use Rattle.mms_data.specs.computed.ContentsReading.{bits_at, counted_if, is_few_octets, is_time_count, simple_at, unsigned_at}
use Rattle.mms_data.specs.computed.Reading.{simple_data_at}
use Rattle.mms_data.specs.computed.UtcReading.{utc_at}
use Rattle.mms_data.specs.declared.kinds.SimpleKind.TheVariants as kinds
use Rattle.mms_data.specs.declared.time.UtcTime.{UtcTime}

-- ---- headers

-- octets from the first to the last
pub whole : (o : List ℕ) → slice_range o 0 (length o) ≡ o
whole o = take_all (length o - 0) o (omega arith)

pub is_known : (r : Result Header Fault) (h : Header) → r ≡ Ok h → IsOk r
is_known r h e = rw e refl

-- ---- kinds

-- ---- contents

-- what was read of contents that are known to be good
pub step_known : {A : Type 0} (r : Result A Fault) (make : A → Simple) (d : Data) → ((r >>= λ x. Ok (make x)) >>= λ v. Ok (simple v)) ≡ Ok d → (x : A) × (r ≡ Ok x)
step_known (Ok x) make d e = (x, refl)
step_known (Err f) make d e = absurd (cc)

pub boolean_known : (p s : ℕ) (c : List ℕ) (d : Data) → simple_data_at kinds.Boolean p s c ≡ Ok d → (b : Bool) × (boolean_at p c ≡ Ok b)
unfolding simple_at
boolean_known p s c d e = step_known (boolean_at p c) boolean d e

pub bits_known : (p s : ℕ) (c : List ℕ) (d : Data) → simple_data_at kinds.BitString p s c ≡ Ok d → (x : ℕ × List ℕ) × (bits_at s c ≡ Ok x)
unfolding simple_at
bits_known p s c d e = step_known (bits_at s c) (λ x. bits x.0 (cleared x.0 x.1)) d e

pub signed_known : (p s : ℕ) (c : List ℕ) (d : Data) → simple_data_at kinds.Integer p s c ≡ Ok d → (n : ℤ) × (integer_at least_signed most_signed p s c ≡ Ok n)
unfolding simple_at
signed_known p s c d e = step_known (integer_at least_signed most_signed p s c) integer d e

pub unsigned_known : (p s : ℕ) (c : List ℕ) (d : Data) → simple_data_at kinds.Unsigned p s c ≡ Ok d → (n : ℕ) × (unsigned_at p s c ≡ Ok n)
unfolding simple_at
unsigned_known p s c d e = step_known (unsigned_at p s c) unsigned d e

pub time_known : (p s : ℕ) (c : List ℕ) (d : Data) → simple_data_at kinds.UtcTime p s c ≡ Ok d → (t : UtcTime) × (utc_at p c ≡ Ok t)
unfolding simple_at
time_known p s c d e = step_known (utc_at p c) utc d e

-- contents that are kept as they are
kept : (b : Bool) (p : ℕ) (c : List ℕ) (make : List ℕ → Simple) (d : Data) → ((counted_if b p c >>= λ o. Ok (make o)) >>= λ v. Ok (simple v)) ≡ Ok d
    → ((counted_if b p c >>= λ o. Ok (make o)) >>= λ v. Ok (simple v)) ≡ Ok (simple (make c))
kept true p c make d e = refl
kept false p c make d e = absurd (cc)

pub floating_kept : (p s : ℕ) (c : List ℕ) (d : Data) → simple_data_at kinds.FloatingPoint p s c ≡ Ok d → simple_data_at kinds.FloatingPoint p s c ≡ Ok (simple (floating c))
unfolding simple_at
floating_kept p s c d e = kept (is_few_octets (length c)) p c floating d e

pub binary_time_kept : (p s : ℕ) (c : List ℕ) (d : Data) → simple_data_at kinds.BinaryTime p s c ≡ Ok d → simple_data_at kinds.BinaryTime p s c ≡ Ok (simple (binary_time c))
unfolding simple_at
binary_time_kept p s c d e = kept (is_time_count (length c)) p c binary_time d e

-- a boolean is its one octet
pub one_octet : (p : ℕ) (c : List ℕ) (b : Bool) → boolean_at p c ≡ Ok b → (0 < length c) × (boolean_at p c ≡ Ok (not (get_or c 0 0 == 0)))
unfolding boolean_at
one_octet p [] b e = absurd (cc)
one_octet p (n ∷ []) b e = (omega arith, refl)
one_octet p (n ∷ m ∷ more) b e = absurd (cc)

-- a time has eight octets
pub eight_known : (p : ℕ) (c : List ℕ) (t : UtcTime) → utc_at p c ≡ Ok t → (length c ≡ 8) × (utc_at p c ≡ Ok (utc_of c))
unfolding utc_at
eight_known p c t e = elim (chosen (eqb (length c) 8) _ _ _ e) [
  | inl x ↦ let test : eqb (length c) 8 ≡ true = x.0 in (eqb-true (length c) 8 test, rw test refl)
  | inr x ↦ absurd (let wrong = x.1 in cc)
]

-- an integer is what its octets are in two's complement
pub signed_is : (k p s : ℕ) (c : List ℕ) (n x : ℤ) → integer_at least_signed most_signed p s c ≡ Ok n → length c ≡ k → x ≡ twos_complement k (big_number k c)
    → integer_at least_signed most_signed p s c ≡ Ok x
signed_is k p s c n x e size is =
    let spelled = integer_found least_signed most_signed p s c n e in
    let value : twos_complement (length c) (number c) ≡ n = spelled.2.2 in
    e ∙ ap (λ (z : ℤ). Ok z) (sym value ∙ ap (λ (m : ℕ). twos_complement m (big_number m c)) size ∙ sym is)

-- one that is not negative is their number
not_negative : (c : List ℕ) (n : ℤ) → AreOctets c → pos 0 ≤ℤ n → twos_complement (length c) (number c) ≡ n → n ≡ pos (number c)
not_negative c n small low value =
    let held : number c < 2 ^ (8 * length c) = subst (λ (m : ℕ). number c < m) (pow256 (length c)) (number_small c small) in
    elim (cases_lt (number c) (2 ^ (8 * length c - 1))) [
      | inl below ↦ sym value ∙ twos_low (length c) (number c) below
      | inr above ↦
          let k = 2 ^ (8 * length c) - suc (number c) in
          let is : n ≡ negsuc k = sym value ∙ twos_high (length c) (number c) k above (omega arith) in
          absurd (omega (arith, ints, low, is))
    ]

pub unsigned_is : (k p s : ℕ) (c : List ℕ) (n x : ℕ) → AreOctets c → unsigned_at p s c ≡ Ok n → length c ≡ k → x ≡ big_number k c → unsigned_at p s c ≡ Ok x
unsigned_is k p s c n x small e size is =
    let y = bind_ok (integer_at (pos 0) most_unsigned p s c) _ n e in
    let spelled = integer_found (pos 0) most_unsigned p s c y.0 y.1 in
    let value : y.0 ≡ pos (number c) = not_negative c y.0 small spelled.0 spelled.2.2 in
    let same : number c ≡ x = ap (λ (m : ℕ). big_number m c) size ∙ sym is in
    ap (λ (r : Result ℤ Fault). r >>= λ z. Ok (natural z)) y.1 ∙ ap (λ (z : ℤ). Ok (natural z)) value ∙ ap (λ (m : ℕ). Ok m) same

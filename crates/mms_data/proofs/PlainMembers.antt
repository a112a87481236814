-- Simple values whose first three octets tell that they are good.
use Rattle.std.proofs.Common.{◌≡◌, ◌≤◌, ◌<◌, ◌+◌, ◌-◌, ◌*◌, ◌^◌, ℕ, ℤ, zero, suc, pos, negsuc, List, [], ◌∷◌, ◌++◌, length, take, drop, get_or, slice_index, Result, Ok, refl, sym, ap, ap₂, subst, ◌∙◌, arith, inl, inr}
use Rattle.std.specs.Prelude.{◌≤ℤ◌, ◌==◌, not, slice_range}
use Rattle.std.proofs.lemmas.Bool.{cases_lt, lt-ltb}
use Rattle.std.proofs.lemmas.Int.{ints}
use Rattle.std.proofs.lemmas.List.{length-take-le, take-take}
use Rattle.std.proofs.lemmas.Nat.{pow-add}
use Rattle.std.proofs.Math.Nat.{pow-le-pow_right}
use Rattle.byteorder.specs.Numbers.{big_from-cons}
use Rattle.ber_core.specs.declared.fault.Fault.{Fault}
use Rattle.ber_core.specs.Integer.{Int}
use Rattle.ber_core.specs.Length.{AreOctets, number}
use Rattle.ber_core.specs.Written.{short_length, written_element}
use Rattle.ber_core.specs.computed.Reading.{◌>>=◌}
use Rattle.ber_core.proofs.Regions.{region-length, region-split}
use Rattle.ber_core.proofs.Shortest.{number_small, pow256, twice, twos_low, twos_high}
use Rattle.ber_core.proofs.Steps.{bind_ok, ok_is, pair_is}
use Rattle.mms_data.specs.Contents.{SpellsSimple, cleared, least_signed, most_signed, most_unsigned}
use Rattle.mms_data.specs.Data.{Data, simple, Simple, boolean, bits, integer, unsigned, floating, octets, mms_text, utc}
use Rattle.mms_data.specs.Kinds.{simple_identifier, simple_kind}
use Rattle.mms_data.specs.Utc.{utc_of}
use Rattle.mms_data.specs.Written.{simple_contents, written}
use Rattle.mms_data.specs.computed.ContentsReading.{simple_at}
use Rattle.mms_data.specs.computed.Left.{less}
use Rattle.mms_data.specs.computed.Plain.{IsPlain, IsPlainMember}
use Rattle.mms_data.specs.computed.Reading.{member_at, simple_data_at}
use Rattle.mms_data.specs.declared.kinds.Kind.TheVariants.{Simple as of_kind}
use Rattle.mms_data.specs.declared.kinds.SimpleKind.{SimpleKind}
use Rattle.mms_data.specs.declared.kinds.SimpleKind.TheVariants as kinds
use Rattle.mms_data.proofs.Again.{member_is}
use Rattle.mms_data.proofs.AsWritten.{slice_octets}
use Rattle.mms_data.proofs.ContentsLaws.{simple_again, simple_found}
use Rattle.mms_data.proofs.UtcLaws.{eight_spell}

-- ---- integers of at most eight octets

places : (c : List ℕ) → length c ≤ 8 → 2 ^ (8 * length c - 1) ≤ 2 ^ 63
places c few =
    let less : 8 * length c - 1 ≤ 63 = omega (arith, few) in
    let held : 2 ^ (8 * length c - 1) ≤ 2 ^ 63 = pow-le-pow_right (let some : 0 < 2 = omega arith in some) less in
    held

below : (c : List ℕ) → AreOctets c → number c < 2 ^ (8 * length c)
below c small = subst (λ (m : ℕ). number c < m) (pow256 (length c)) (number_small c small)

-- they spell a signed number of 64 bits
signed_there : (c : List ℕ) → AreOctets c → 1 ≤ length c → length c ≤ 8 → (n : ℤ) × ((least_signed ≤ℤ n) × (n ≤ℤ most_signed) × Int n c)
signed_there c small some few =
    let half = 2 ^ (8 * length c - 1) in
    let most : half ≤ 2 ^ 63 = places c few in
    let held = below c small in
    let whole : 2 ^ (8 * length c) ≡ 2 * half = twice (length c) some in
    elim (cases_lt (number c) half) [
      | inl low ↦ (pos (number c), (omega (arith, ints), omega (arith, ints, low, most), (some, omega (arith, few), twos_low (length c) (number c) low)))
      | inr high ↦
          let k = 2 ^ (8 * length c) - suc (number c) in
          (negsuc k, (omega (arith, ints, high, most, held, whole), omega (arith, ints), (some, omega (arith, few), twos_high (length c) (number c) k high (omega (arith, held)))))
    ]

-- and one that is not negative where the first octet is below 128
unsigned_there : (first : ℕ) (others : List ℕ) → AreOctets (first ∷ others) → length others + 1 ≤ 8 → first < 128 → (n : ℕ) × ((pos 0 ≤ℤ pos n) × (pos n ≤ℤ most_unsigned) × Int (pos n) (first ∷ others))
unsigned_there first others small few low =
    let c = first ∷ others in
    let rest : number others < 256 ^ length others = number_small others (λ i. small (suc i)) in
    let is : number c ≡ first * 256 ^ length others + number others = ap (λ (m : ℕ). first * 256 ^ length others + m) (big_from-cons 0 (length others) first others) in
    let step : number c < 128 * 256 ^ length others = grind (arith, is, rest, low) in
    let half : 128 * 256 ^ length others ≡ 2 ^ (8 * length c - 1) = top (length others) in
    let under : number c < 2 ^ (8 * length c - 1) = subst (λ (m : ℕ). number c < m) half step in
    let most : 2 ^ (8 * length c - 1) ≤ 2 ^ 63 = places c (omega (arith, few)) in
    (number c, (omega (arith, ints), omega (arith, ints, under, most), (omega arith, omega (arith, few), twos_low (length c) (number c) under)))
  where
    top : (n : ℕ) → 128 * 256 ^ n ≡ 2 ^ (8 * suc n - 1)
    top n =
        let sum : 8 * suc n - 1 ≡ 7 + 8 * n = omega arith in
        ap (λ (m : ℕ). 128 * m) (pow256 n) ∙ sym (ap (λ (e : ℕ). 2 ^ e) sum ∙ pow-add 2 7 (8 * n))

-- ---- plain contents spell a value

plain_spells : (k : SimpleKind) (first : ℕ) (others : List ℕ) → AreOctets (first ∷ others) → IsPlain k (length others + 1) first → (v : Simple) × (simple_kind v ≡ k) × SpellsSimple v (first ∷ others)
plain_spells kinds.Boolean first [] small plain = (boolean (not (first == 0)), refl, (first, refl, refl))
plain_spells kinds.Boolean first (x ∷ xs) small plain = absurd (omega (arith, plain))
plain_spells kinds.BitString first [] small plain = absurd (omega (arith, plain.0))
plain_spells kinds.BitString first (x ∷ xs) small plain = (bits first (cleared first (x ∷ xs)), refl, (refl, plain.1, refl))
plain_spells kinds.Integer first others small plain = let n = signed_there (first ∷ others) small (omega arith) (omega (arith, plain)) in (integer n.0, refl, n.1)
plain_spells kinds.Unsigned first others small plain = let n = unsigned_there first others small plain.0 plain.1 in (unsigned n.0, refl, n.1)
plain_spells kinds.FloatingPoint first others small plain = (floating (first ∷ others), refl, (refl, (omega arith, omega (arith, plain))))
plain_spells kinds.OctetString first others small plain = (octets (first ∷ others), refl, refl)
plain_spells kinds.VisibleString first others small plain = absurd plain
plain_spells kinds.BinaryTime first others small plain = absurd plain
plain_spells kinds.MmsString first others small plain = (mms_text (first ∷ others), refl, refl)
plain_spells kinds.UtcTime first others small plain = (utc (utc_of (first ∷ others)), refl, eight_spell (first ∷ others) (omega (arith, plain)))

plain_value : (k : SimpleKind) (p s first : ℕ) (others : List ℕ) → AreOctets (first ∷ others) → IsPlain k (length others + 1) first → (v : Simple) × (simple_at k p s (first ∷ others) ≡ Ok v)
plain_value k p s first others small plain =
    let x = plain_spells k first others small plain in
    (x.0, ap (λ (j : SimpleKind). simple_at j p s (first ∷ others)) (sym x.1) ∙ simple_again x.0 p s (first ∷ others) x.2)

-- ---- the member

short_element : (id : ℕ) (c : List ℕ) → length c ≤ 127 → id ∷ length c ∷ c ≡ written_element id c
unfolding written_element short_length
short_element id c few = rw (lt-ltb (length c) 128 (omega (arith, few))) refl

module _ (k : SimpleKind) (first : ℕ) (others rest : List ℕ) (few : length others + 1 ≤ 127) where
  abbrev c : List ℕ
  c = first ∷ others

  abbrev n : ℕ
  n = length others + 1

  member_by : (depth p : ℕ) → member_at (suc depth) p (simple_identifier k ∷ n ∷ first ∷ (others ++ rest)) ≡ (simple_data_at k p (p + 1 + 1) c >>= λ d. Ok (d, p + 1 + 1 + length c))
  member_by depth p = member_is depth p (of_kind k) (n ∷ []) c rest (inl (refl, omega arith, omega (arith, few)))

  -- such a member is read
  pub plain_read : (depth p : ℕ) → AreOctets c → IsPlain k n first → (v : Simple) × (member_at (suc depth) p (simple_identifier k ∷ n ∷ first ∷ (others ++ rest)) ≡ Ok (simple v, p + 1 + 1 + length c))
  plain_read depth p small plain =
      let x = plain_value k p (p + 1 + 1) first others small plain in
      (x.0, member_by depth p ∙ rw x.1 refl)

  -- and stands in its written form, where its contents do
  pub plain_stands : (depth p : ℕ) (d : Data) (next : ℕ) → ((v : Simple) → simple_kind v ≡ k → SpellsSimple v c → c ≡ simple_contents v)
      → member_at depth p (simple_identifier k ∷ n ∷ first ∷ (others ++ rest)) ≡ Ok (d, next) → simple_identifier k ∷ n ∷ first ∷ others ≡ written d
  unfolding member_at
  plain_stands zero p d next stands read = absurd (cc)
  plain_stands (suc depth) p d next stands read =
      let x = bind_ok (simple_data_at k p (p + 1 + 1) c) _ (d, next) (sym (member_by depth p) ∙ read) in
      let y = bind_ok (simple_at k p (p + 1 + 1) c) _ x.0 x.1 in
      let is = simple_found k p (p + 1 + 1) c y.0 y.1 in
      let same : d ≡ x.0 = (pair_is x.0 d (p + 1 + 1 + length c) next x.2).0 in
      let value : x.0 ≡ simple y.0 = sym (ok_is (simple y.0) x.0 y.2) in
      let size : n ≡ length c = omega arith in
      ap (λ (m : ℕ). simple_identifier k ∷ m ∷ c) size ∙ short_element (simple_identifier k) c (omega (arith, few))
      ∙ ap₂ (λ (j : SimpleKind) (o : List ℕ). written_element (simple_identifier j) o) (sym is.kind) (stands y.0 is.kind is.spelled)
      ∙ ap written (sym (same ∙ value))

-- ---- where it stands

-- the first three octets of a region, and what stands behind them up to a place
pub front_three : (r : List ℕ) (m : ℕ) → 3 ≤ length r → 1 ≤ m → 2 + m ≤ length r → (others : List ℕ) × (take (2 + m) r ≡ get_or r 0 0 ∷ get_or r 1 0 ∷ get_or r 2 0 ∷ others) × (length others + 1 ≡ m)
front_three [] m three some fits = absurd (omega (arith, three))
front_three (a ∷ []) m three some fits = absurd (omega (arith, three))
front_three (a ∷ b ∷ []) m three some fits = absurd (omega (arith, three))
front_three (a ∷ b ∷ x ∷ more) zero three some fits = absurd (omega (arith, some))
front_three (a ∷ b ∷ x ∷ more) (suc m) three some fits =
    let count : 2 + suc m ≡ suc (suc (suc m)) = omega arith in
    (take m more, ap (λ (k : ℕ). take k (a ∷ b ∷ x ∷ more)) count, omega (arith, length-take-le m more (omega (arith, fits))))

-- a region up to an earlier place
pub region_front : (all : List ℕ) (at next end : ℕ) → next ≤ end → slice_range all at next ≡ take (next - at) (slice_range all at end)
region_front all at next end low = sym (take-take (next - at) (end - at) (drop at all) (omega (arith, low)))

module _ (depth at next end : ℕ) (all : List ℕ) (some : 0 < depth) (small : AreOctets all) (order : at ≤ next) (low : next ≤ end) (inside : end ≤ length all)
    (is : IsPlainMember (slice_range all at next)) where
  region_is : slice_range all at end ≡ simple_identifier is.announced.kind ∷ (length is.others + 1) ∷ is.first ∷ (is.others ++ slice_range all next end)
  region_is =
      region-split all at next end order low ∙ ap (λ (o : List ℕ). o ++ slice_range all next end) is.parts
      ∙ ap (λ (i : ℕ). i ∷ (length is.others + 1) ∷ is.first ∷ (is.others ++ slice_range all next end)) is.announced.identifier

  level : depth ≡ suc (depth - 1)
  level = omega (arith, some)

  contents_small : AreOctets (is.first ∷ is.others)
  contents_small = λ i. subst (λ (o : List ℕ). slice_index o (suc (suc i)) < 256) is.parts (slice_octets all at next small (suc (suc i)))

  -- the place after it
  pub plain_passed : Ok next ≡ less (λ (x : Data × ℕ). x.1) (member_at depth at (slice_range all at end))
  plain_passed =
      let x = plain_read is.announced.kind is.first is.others (slice_range all next end) is.announced.few (depth - 1) at contents_small is.announced.plain in
      let size : next - at ≡ length is.others + 3 = omega (arith, ap length is.parts, region-length all at next (omega (arith, low, inside))) in
      let place : at + 1 + 1 + length (is.first ∷ is.others) ≡ next = omega (arith, size, order) in
      let read : member_at depth at (slice_range all at end) ≡ Ok (simple x.0, next) = ap₂ (λ (m : ℕ) (o : List ℕ). member_at m at o) level region_is ∙ x.1 ∙ ap (λ (q : ℕ). Ok (simple x.0, q)) place in
      sym (ap (λ (r : Result (Data × ℕ) Fault). less (λ (x : Data × ℕ). x.1) r) read)

-- Fields of objects, by the kinds of their values.
use Rattle.std.proofs.Common.{◌≡◌, ℕ, ℤ, suc, pos, ◌+◌, ◌/◌, ◌%◌, ◌^◌, ◌<◌, ◌≤◌, ◌==◌, zero, Bool, true, List, [], ◌∷◌, ◌++◌, append-nil, ap, ap₂, refl, sym, subst, ◌∙◌, arith, Some, None, inl, inr}
use Rattle.std.specs.Prelude.{◌⊎◌, Option, codes, flat_map, ◌||◌}
use Rattle.std.specs.Fmt.{decimal, signed_decimal}
use Rattle.std.proofs.lemmas.Bool.{cases_eq, cases_lt, cond_both, ne_eqb}
use Rattle.jiff_core.proofs.SignedLemmas.{signed_arith}
use Rattle.jiff_core.proofs.CalendarLemmas.{days_in_month_bounds}
use Rattle.date_core.specs.DateText.{date_text, moment_text}
use Rattle.date_core.proofs.Dates.{moments_have_dates, text_behind}
use Rattle.hex.specs.Hex.{encode_lower}
use Rattle.ber_core.specs.Length.{AreOctets}
use Rattle.ber_core.specs.Contents.{AreVisible}
use Rattle.mms_data.specs.declared.time.UtcTime.{UtcTime}
use Rattle.mms_data.specs.Written.{written_time}
use Rattle.json.specs.Json.{Json, null, boolean, number, string, object, no_members, member}
use Rattle.json.specs.Print.{escape, escape_byte, print_from}
use Rattle.json.proofs.Printed.Strings.{escape_byte_plain}
use Rattle.text_core.specs.Pieces.{boolean_text, escaped, quoted}
use Rattle.text_core.specs.ValueText.{time_text}
use Rattle.object_core.specs.Objects.{date_value, in_quotes, in_quotes_or_null, octets_value}
use Rattle.object_core.specs.Times.{flag, moment_of, quality_value}
use Rattle.joint_laws.proofs.object_lemmas.PlainTexts.{ArePlain, IsPlain, are_plain, by_test, digit_plain, hexadecimal_plain}
use Rattle.joint_laws.proofs.object_lemmas.Signs.{AreSigns, signs_append}
use Rattle.joint_laws.proofs.object_lemmas.Values.{IsShort, IsTextOf, boolean_is, decimal_is, null_is, plain_is, signed_is}
use Rattle.joint_laws.proofs.object_lemmas.Containers.{Named, object_is}
use Rattle.joint_laws.proofs.object_lemmas.Names.{are_distinct}

-- a field of this value
abbrev pub by : (n : ℕ) (name text : List ℕ) (json : Json) → are_plain name ≡ true → IsTextOf n json text → Named n
by n name text json plain is = record { name = name; text = text; json = json; is_plain = by_test name plain; is_text = is }

-- ---- texts

-- of a visible text the kit's writer escapes what is escaped here
escaped_same : (x : ℕ) → 32 ≤ x → escape_byte x ≡ escaped x
unfolding escape_byte
escaped_same x h = go (cases_eq x 34) (cases_eq x 92)
  where
    go : (x ≡ 34) ⊎ (x ≡ 34 → ⊥) → (x ≡ 92) ⊎ (x ≡ 92 → ⊥) → escape_byte x ≡ escaped x
    go (inl e) b = subst (λ (n : ℕ). escape_byte n ≡ escaped n) (sym e) refl
    go (inr q) (inl e) = subst (λ (n : ℕ). escape_byte n ≡ escaped n) (sym e) refl
    go (inr q) (inr b) = escape_byte_plain x q b h ∙ sym (rw (ne_eqb x 34 q, ne_eqb x 92 b) refl)

escape_visible : (text : List ℕ) → AreVisible text → escape text ≡ flat_map escaped text
escape_visible [] v = refl
escape_visible (x ∷ text) v = ap₂ (λ (a b : List ℕ). a ++ b) (escaped_same x v.0.0) (escape_visible text v.1)

escaped_signs : (x : ℕ) → 32 ≤ x → AreSigns (escaped x)
escaped_signs x h = cond_both (x == 34 || x == 92) (92 ∷ x ∷ []) (x ∷ []) AreSigns (λ marked. (omega arith, (h, tt))) (λ plain. (h, tt))

visible_signs : (text : List ℕ) → AreVisible text → AreSigns (flat_map escaped text)
visible_signs [] v = tt
visible_signs (x ∷ text) v = signs_append (escaped x) (flat_map escaped text) (escaped_signs x v.0.0) (visible_signs text v.1)

pub visible_is : (n : ℕ) (text : List ℕ) → AreVisible text → IsTextOf n (string text) (quoted text)
unfolding print_from
visible_is n text v = record {
  printed = append-nil _ ∙ ap (λ (l : List ℕ). 34 ∷ (l ++ 34 ∷ [])) (escape_visible text v);
  numbers = tt;
  unique = tt;
  nests = omega arith;
  signs = (omega arith, signs_append (flat_map escaped text) (34 ∷ []) (visible_signs text v) (omega arith, tt));
}

pub octets_are : (n : ℕ) (os : List ℕ) → AreOctets os → IsTextOf n (string (encode_lower os)) (octets_value os)
octets_are n os small = plain_is n (encode_lower os) (hexadecimal_plain os small)

-- ---- dates

two : {P : Type 0} (n : ℕ) → n < 100 → P → IsPlain (48 + n / 10) × (IsPlain (48 + n % 10) × P)
two n h p = (digit_plain (n / 10) (omega arith), (digit_plain (n % 10) (omega arith), p))

sign : {P : Type 0} (c : ℕ) → are_plain (c ∷ []) ≡ true → P → IsPlain c × P
sign c h p = ((by_test (c ∷ []) h).0, p)

moment_plain : (year month day time : ℕ) → year < 10000 → month < 100 → day < 100 → time < 86400000000 → ArePlain (moment_text year month day time)
moment_plain year month day time y m d t =
    two (year / 100) (omega arith) (two (year % 100) (omega arith) (sign 45 refl (two month m (sign 45 refl (two day d (sign 84 refl (
    two (time / 1000000 / 3600) (omega arith) (sign 58 refl (two (time / 1000000 / 60 % 60) (omega arith) (sign 58 refl (two (time / 1000000 % 60) (omega arith) (sign 46 refl (
    two (time % 1000000 / 100 / 100) (omega arith) (two (time % 1000000 / 100 % 100) (omega arith) (two (time % 1000000 % 100) (omega arith) (sign 90 refl tt))))))))))))))))

-- a text, or null
abbrev pub string_or_null : Option (List ℕ) → Json
string_or_null None = null
string_or_null (Some text) = string text

-- a date, or null
pub date_is : (n moment : ℕ) → IsTextOf n (string_or_null (date_text moment)) (date_value moment)
date_is n moment = elim (cases_lt moment 253402300800000000) [
  | inr late ↦ subst (λ o. IsTextOf n (string_or_null o) (in_quotes_or_null o)) (sym (text_behind moment late)) (null_is n)
  | inl before ↦
      let date = moments_have_dates moment before in
      let civil = date.4.civil in
      let days = days_in_month_bounds (pos date.0) date.1 in
      let plain = moment_plain date.0 date.1 date.2 date.3 (omega (arith, signed_arith, civil.0)) (omega (arith, civil.1)) (omega (arith, civil.2, days)) date.4.within_day in
      subst (λ o. IsTextOf n (string_or_null o) (in_quotes_or_null o)) (sym date.5) (plain_is n (moment_text date.0 date.1 date.2 date.3) plain)
]

-- ---- times

-- whether a flag of a quality octet is set
abbrev pub is_set : ℕ → ℕ → Bool
is_set quality weight = quality / weight % 2 == 1

abbrev pub quality_json : ℕ → Json
quality_json q =
    object (member (codes "leapSecondsKnown") (boolean (is_set q 0x80)) (member (codes "clockFailure") (boolean (is_set q 0x40))
    (member (codes "clockNotSynchronized") (boolean (is_set q 0x20)) (member (codes "timeAccuracy") (number (decimal (q % 32))) no_members))))

pub quality_is : (n q : ℕ) → IsTextOf (suc n) (quality_json q) (quality_value q)
unfolding quality_value
quality_is n q =
    object_is n (by n (codes "leapSecondsKnown") (flag q 0x80) (boolean (is_set q 0x80)) refl (boolean_is n (is_set q 0x80)))
    (by n (codes "clockFailure") (flag q 0x40) (boolean (is_set q 0x40)) refl (boolean_is n (is_set q 0x40))
    ∷ by n (codes "clockNotSynchronized") (flag q 0x20) (boolean (is_set q 0x20)) refl (boolean_is n (is_set q 0x20))
    ∷ by n (codes "timeAccuracy") (decimal (q % 32)) (number (decimal (q % 32))) refl (decimal_is n (q % 32) (omega arith)) ∷ [])
    (are_distinct (codes "leapSecondsKnown" ∷ codes "clockFailure" ∷ codes "clockNotSynchronized" ∷ codes "timeAccuracy" ∷ []) refl)

pub written_octets : (t : UtcTime) → t.quality < 256 → AreOctets (written_time t)
written_octets t q (suc (suc (suc (suc (suc (suc (suc zero))))))) = q
written_octets t q _ = omega arith

-- ---- fields

abbrev pub decimal_field : (n : ℕ) (name : List ℕ) (m : ℕ) → are_plain name ≡ true → m < 2 ^ 64 → Named n
decimal_field n name m plain small = by n name (decimal m) (number (decimal m)) plain (decimal_is n m small)

abbrev pub signed_field : (n : ℕ) (name : List ℕ) (z : ℤ) → are_plain name ≡ true → IsShort z → Named n
signed_field n name z plain short = by n name (signed_decimal z) (number (signed_decimal z)) plain (signed_is n z short)

abbrev pub boolean_field : (n : ℕ) (name : List ℕ) (b : Bool) → are_plain name ≡ true → Named n
boolean_field n name b plain = by n name (boolean_text b) (boolean b) plain (boolean_is n b)

abbrev pub word_field : (n : ℕ) (name word : List ℕ) → are_plain name ≡ true → ArePlain word → Named n
word_field n name word plain plain_too = by n name (in_quotes word) (string word) plain (plain_is n word plain_too)

abbrev pub text_field : (n : ℕ) (name text : List ℕ) → are_plain name ≡ true → AreVisible text → Named n
text_field n name text plain visible = by n name (quoted text) (string text) plain (visible_is n text visible)

abbrev pub octets_field : (n : ℕ) (name octets : List ℕ) → are_plain name ≡ true → AreOctets octets → Named n
octets_field n name octets plain small = by n name (octets_value octets) (string (encode_lower octets)) plain (octets_are n octets small)

-- the octets, the date and the quality of a moment, and more fields
abbrev pub time_then : (n : ℕ) (first date quality : List ℕ) (t : UtcTime) → are_plain first ≡ true → are_plain date ≡ true → are_plain quality ≡ true → t.quality < 256 → List (Named (suc n)) → List (Named (suc n))
time_then n first date quality t p₁ p₂ p₃ small fs =
    by (suc n) first (in_quotes (time_text t)) (string (time_text t)) p₁ (octets_are (suc n) (written_time t) (written_octets t small))
    ∷ by (suc n) date (date_value (moment_of t)) (string_or_null (date_text (moment_of t))) p₂ (date_is (suc n) (moment_of t))
    ∷ by (suc n) quality (quality_value t.quality) (quality_json t.quality) p₃ (quality_is n t.quality)
    ∷ fs

-- Headers of the classic form, by what stands in them, and what is read of them.
use Rattle.std.proofs.Common.{◌≡◌, ◌⊎◌, ℕ, ◌+◌, ◌*◌, ◌<◌, ◌≤◌, Bool, true, false, eqb, ◌&&◌, inl, inr, List, [], ◌∷◌, length, take, Option, Some, None, ap, sym, ◌∙◌, refl, subst, arith}
use Rattle.std.specs.Prelude.{◌%◌, if◌then◌else◌}
use Rattle.std.proofs.lemmas.Bool.{eqb-true}
use Rattle.std.proofs.lemmas.List.{length-take-le}
use Rattle.capture_core.specs.Numbers.{number_at}
use Rattle.capture_core.specs.Header.{first_of_two, form_in, form_of, form_with, header_of, is_read_in, read_in, unit_of}
use Rattle.capture_core.specs.FirstFault.{HasMagic, IsClassicHeader, magic_of}
use Rattle.capture_core.specs.declared.form.CaptureForm.{CaptureForm}
use Rattle.capture_core.specs.declared.form.FractionUnit.{FractionUnit}
use Rattle.capture_core.specs.declared.form.FractionUnit.TheVariants.{Microseconds, Nanoseconds}
use Rattle.capture_core.specs.declared.form.OctetOrder.{OctetOrder}
use Rattle.capture_core.specs.declared.form.OctetOrder.TheVariants.{BigEndian, LittleEndian}
use Rattle.capture_core.proofs.BlocksSpelled.{number_taken}

-- ---- what a magic number tells

unit_told : (u : FractionUnit) → unit_of (magic_of u) ≡ Some u
unit_told Microseconds = refl
unit_told Nanoseconds = refl

unit_by : (x y : Bool) (m : ℕ) (u : FractionUnit) → eqb m 0xa1b2c3d4 ≡ x → eqb m 0xa1b23c4d ≡ y → (if x then Some Microseconds else (if y then Some Nanoseconds else None)) ≡ Some u → m ≡ magic_of u
unit_by true y m u e f h = let is : Microseconds ≡ u = cc in subst (λ (k : FractionUnit). m ≡ magic_of k) is (eqb-true m 0xa1b2c3d4 e)
unit_by false true m u e f h = let is : Nanoseconds ≡ u = cc in subst (λ (k : FractionUnit). m ≡ magic_of k) is (eqb-true m 0xa1b23c4d f)
unit_by false false m u e f h = cc

unit_is : (m : ℕ) (u : FractionUnit) → unit_of m ≡ Some u → m ≡ magic_of u
unit_is m u h = unit_by (eqb m 0xa1b2c3d4) (eqb m 0xa1b23c4d) m u refl refl h

-- ---- a magic number stands in one order at most

-- the first of four octets that make a number, and the last
first_octet : (a b c d m : ℕ) → a * 16777216 + (b * 65536 + (c * 256 + (d * 1 + 0))) ≡ m → m < 2717908992 → a ≤ 161
first_octet a b c d m e h = omega arith

last_octet : (a b c d m : ℕ) → a + 256 * (b + 256 * (c + 256 * (d + 0))) ≡ m → m < 2717908992 → d ≤ 161
last_octet a b c d m e h = omega arith

no_microseconds : (a k : ℕ) → a ≤ 161 → a + 256 * k ≡ 2712847316 → ⊥
no_microseconds a k h e = omega arith

is_nanoseconds : (a k : ℕ) → a ≤ 161 → a + 256 * k ≡ 2712812621 → a ≡ 77
is_nanoseconds a k h e = omega arith

-- 77 first and last, and the same two octets between them in both orders
middle_octets : (b c : ℕ) → b * 65536 + c * 256 ≡ 1420966912 → b * 256 + c * 65536 ≡ 1420966912 → ⊥
middle_octets b c e f =
    let same : b ≡ c = omega (arith, e, f) in
    omega (arith, e, same)

big_front : (a b c d m : ℕ) → a * 16777216 + (b * 65536 + (c * 256 + (d * 1 + 0))) ≡ m → d + 256 * (c + 256 * (b + 256 * a)) ≡ m
big_front a b c d m e = omega arith

both_orders : (a b c d : ℕ) (u v : FractionUnit) → a + 256 * (b + 256 * (c + 256 * (d + 0))) ≡ magic_of u → a * 16777216 + (b * 65536 + (c * 256 + (d * 1 + 0))) ≡ magic_of v → ⊥
both_orders a b c d Microseconds Microseconds e f = no_microseconds a (b + 256 * (c + 256 * (d + 0))) (first_octet a b c d 2712847316 f (omega arith)) e
both_orders a b c d Microseconds Nanoseconds e f = no_microseconds a (b + 256 * (c + 256 * (d + 0))) (first_octet a b c d 2712812621 f (omega arith)) e
both_orders a b c d Nanoseconds Microseconds e f = no_microseconds d (c + 256 * (b + 256 * a)) (last_octet a b c d 2712812621 e (omega arith)) (big_front a b c d 2712847316 f)
both_orders a b c d Nanoseconds Nanoseconds e f =
    let first : a ≡ 77 = is_nanoseconds a (b + 256 * (c + 256 * (d + 0))) (first_octet a b c d 2712812621 f (omega arith)) e in
    let last : d ≡ 77 = is_nanoseconds d (c + 256 * (b + 256 * a)) (last_octet a b c d 2712812621 e (omega arith)) (big_front a b c d 2712812621 f) in
    middle_octets b c (omega (arith, first, last, f)) (omega (arith, first, last, e))

unit_or : (m : ℕ) (found : Option FractionUnit) → unit_of m ≡ found → ((u : FractionUnit) → m ≡ magic_of u → ⊥) → found ≡ None
unit_or m None e n = refl
unit_or m (Some u) e n = absurd (n u (unit_is m u e))

four_in_little : (a b c d : ℕ) (u : FractionUnit) → number_at LittleEndian 4 (a ∷ b ∷ c ∷ d ∷ []) 0 ≡ magic_of u → unit_of (number_at BigEndian 4 (a ∷ b ∷ c ∷ d ∷ []) 0) ≡ None
unfolding number_at
four_in_little a b c d u e =
    let m = a * 16777216 + (b * 65536 + (c * 256 + (d * 1 + 0))) in
    unit_or m (unit_of m) refl (λ v f. both_orders a b c d u v e f)

in_little : (o : List ℕ) (u : FractionUnit) → 4 ≤ length o → number_at LittleEndian 4 o 0 ≡ magic_of u → unit_of (number_at BigEndian 4 o 0) ≡ None
in_little [] u h e = absurd (omega (arith, h))
in_little (a ∷ []) u h e = absurd (omega (arith, h))
in_little (a ∷ b ∷ []) u h e = absurd (omega (arith, h))
in_little (a ∷ b ∷ c ∷ []) u h e = absurd (omega (arith, h))
in_little (a ∷ b ∷ c ∷ d ∷ o) u h e =
    let all = a ∷ b ∷ c ∷ d ∷ o in
    ap unit_of (sym (number_taken BigEndian 4 0 4 all (omega arith) h)) ∙ four_in_little a b c d u (number_taken LittleEndian 4 0 4 all (omega arith) h ∙ e)

-- ---- the form that a magic number tells

form_with_is : (order : OctetOrder) (found : Option FractionUnit) (form : CaptureForm) → form_with order found ≡ Some form → (order ≡ form.order) × (found ≡ Some form.unit)
form_with_is order None form e = cc
form_with_is order (Some u) form e =
    let is : ◌≡◌ {A = CaptureForm} (record { order = order; unit = u }) form = cc in
    (ap (λ (k : CaptureForm). k.order) is, ap (λ (k : CaptureForm). Some k.unit) is)

form_in_is : (order : OctetOrder) (o : List ℕ) (form : CaptureForm) → form_in order o ≡ Some form → HasMagic form o
form_in_is order o form e =
    let t = form_with_is order (unit_of (number_at order 4 o 0)) form e in
    subst (λ (k : OctetOrder). number_at k 4 o 0 ≡ magic_of form.unit) t.0 (unit_is (number_at order 4 o 0) form.unit t.1)

first_two_is : (x y : Option CaptureForm) (form : CaptureForm) → first_of_two x y ≡ Some form → (x ≡ Some form) ⊎ (y ≡ Some form)
first_two_is None y form e = inr e
first_two_is (Some f) y form e = inl e

-- the form that is read has its magic number
pub magic_is : (o : List ℕ) (form : CaptureForm) → form_of o ≡ Some form → HasMagic form o
magic_is o form e = elim (first_two_is (form_in BigEndian o) (form_in LittleEndian o) form e) [
  | inl f ↦ form_in_is BigEndian o form f
  | inr f ↦ form_in_is LittleEndian o form f
]

-- octets with a magic number are read as of its form
magic_by : (order : OctetOrder) (u : FractionUnit) (o : List ℕ) → 4 ≤ length o → number_at order 4 o 0 ≡ magic_of u → form_of o ≡ Some (record { order = order; unit = u })
magic_by BigEndian u o h e = rw (e, unit_told u) refl
magic_by LittleEndian u o h e = rw (in_little o u h e, e, unit_told u) refl

pub magic_told : (o : List ℕ) (form : CaptureForm) → 4 ≤ length o → HasMagic form o → form_of o ≡ Some form
magic_told o form h e = magic_by form.order form.unit o h e

-- the same of the first octets alone
pub magic_taken : (o : List ℕ) (form : CaptureForm) (k : ℕ) → 4 ≤ k → k ≤ length o → HasMagic form o → HasMagic form (take k o)
magic_taken o form k h l e = number_taken form.order 4 0 k o (omega (arith, h)) l ∙ e

pub magic_given : (o : List ℕ) (form : CaptureForm) (k : ℕ) → 4 ≤ k → k ≤ length o → HasMagic form (take k o) → HasMagic form o
magic_given o form k h l e = sym (number_taken form.order 4 0 k o (omega (arith, h)) l) ∙ e

-- ---- headers

and_three : (a b c : Bool) → ((a && b) && c) ≡ true → (a ≡ true) × (b ≡ true) × (c ≡ true)
and_three true true true e = (refl, refl, refl)
and_three true true false e = cc
and_three true false c e = cc
and_three false true c e = cc
and_three false false c e = cc

read_in_is : (header : List ℕ) (found : Option CaptureForm) (form : CaptureForm) → read_in header found ≡ Some form → (found ≡ Some form) × (is_read_in form.order header ≡ true)
read_in_is header None form e = cc
read_in_is header (Some f) form e =
    let t = some_if (is_read_in f.order header) f form e in
    (ap Some t.1, subst (λ (k : CaptureForm). is_read_in k.order header ≡ true) t.1 t.0)
  where
    some_if : (b : Bool) (f g : CaptureForm) → (if b then Some f else None) ≡ Some g → (b ≡ true) × (f ≡ g)
    some_if true f g e = (refl, cc)
    some_if false f g e = cc

-- a header that is read is one
pub header_is : (header : List ℕ) (form : CaptureForm) → length header ≡ 24 → header_of header ≡ Some form → IsClassicHeader form header
header_is header form w e =
    let t = read_in_is header (form_of header) form e in
    let p = and_three (eqb (number_at form.order 2 header 4) 2) (eqb (number_at form.order 2 header 6) 4) (eqb (number_at form.order 4 header 20 % 65536) 1) t.1 in
    record {
      size = w;
      magic = magic_is header form t.0;
      major = eqb-true (number_at form.order 2 header 4) 2 p.0;
      minor = eqb-true (number_at form.order 2 header 6) 4 p.1;
      link_type = eqb-true (number_at form.order 4 header 20 % 65536) 1 p.2;
    }

-- a header is read
pub header_told : (header : List ℕ) (form : CaptureForm) → IsClassicHeader form header → header_of header ≡ Some form
header_told header form h =
    let w = h.size in
    let magic = magic_told header form (omega (arith, w)) h.magic in
    rw (magic, h.major, h.minor, h.link_type) refl

-- a header of this form that is none is not read
pub header_refused : (o : List ℕ) (form : CaptureForm) (found : Option CaptureForm) → 24 ≤ length o → HasMagic form o → ¬ IsClassicHeader form (take 24 o) → header_of (take 24 o) ≡ found → found ≡ None
header_refused o form None h m n e = refl
header_refused o form (Some g) h m n e =
    let w : length (take 24 o) ≡ 24 = length-take-le 24 o h in
    let other = header_is (take 24 o) g w e in
    let mine = magic_told (take 24 o) form (omega (arith, w)) (magic_taken o form 24 (omega arith) h m) in
    let theirs = magic_told (take 24 o) g (omega (arith, w)) other.magic in
    let same : g ≡ form = some_same g form (sym theirs ∙ mine) in
    absurd (n (subst (λ (k : CaptureForm). IsClassicHeader k (take 24 o)) same other))
  where
    some_same : (f g : CaptureForm) → ◌≡◌ {A = Option CaptureForm} (Some f) (Some g) → f ≡ g
    some_same f g e = cc

-- A length that is read is the length of contents that stand behind it, and the other way round; and the same
-- of a length at fault.
use Rattle.std.proofs.Common.{◌≡◌, ℕ, suc, ◌+◌, ◌-◌, ◌%◌, ◌≤◌, ◌<◌, false, ltb, eqb, List, [], ◌∷◌, ◌++◌, length, take, drop, get_or, length-drop, Result, Ok, Err, refl, sym, ap, ◌∙◌, arith, inl, inr}
use Rattle.std.proofs.lemmas.List.{length-append, take-append-drop, length-take, length-take-le, drop_at}
use Rattle.std.proofs.lemmas.Bool.{ltb-true, ltb-false, le-ltb, lt-ltb, eqb-true, eqb-false, ne_eqb}
use Rattle.std.specs.Prelude.{IsOk}
use Rattle.byteorder.specs.Endian.{big_number}
use Rattle.byteorder.specs.Numbers.{big_from-take, big_from-append}
use Rattle.ber_core.specs.declared.fault.Fault.{Fault}
use Rattle.ber_core.specs.declared.fault.Cause.TheVariants as causes
use Rattle.ber_core.specs.declared.element.Header.{Header}
use Rattle.ber_core.specs.Length.{Len, number}
use Rattle.ber_core.specs.Faults.{LengthFault, absent, cut, indefinite, form, past_end, fault_of}
use Rattle.ber_core.specs.computed.Reading.{sized_at, counted_length_at, length_at, header_at}
use Rattle.ber_core.proofs.Steps.{chosen, fault_is}

-- the header of an element at p whose length has size octets, and whose contents have n
abbrev pub header_for : ℕ → ℕ → ℕ → ℕ → Header
header_for p id size n = record { at = p; identifier = id; contents_from = p + 1 + size; contents_to = p + 1 + size + n }

-- ---- what has a good length is read

sized_again : (p id from size n : ℕ) (c rest : List ℕ) → from ≡ p + 1 + size → n ≡ length c → sized_at p id from n (c ++ rest) ≡ Ok (header_for p id size (length c))
sized_again p id from size n c rest e1 e2 = rw (e1, e2, le-ltb (length (c ++ rest)) (length c) (omega (arith, length-append c rest))) refl

-- the number at the front of octets is that of the front alone
number_front : (a b : List ℕ) → big_number (length a) (a ++ b) ≡ number a
number_front a b = big_from-append (length a) a b (omega arith)

counted_again : (p id : ℕ) (more c rest : List ℕ) → number more ≡ length c → counted_length_at p id (length more) (more ++ (c ++ rest)) ≡ Ok (header_for p id (suc (length more)) (length c))
unfolding counted_length_at
counted_again p id more c rest e =
    rw (le-ltb (length (more ++ (c ++ rest))) (length more) (omega (arith, length-append more (c ++ rest))), number_front more (c ++ rest), drop_at more (c ++ rest) (length more) refl)
    (sized_again p id (p + 2 + length more) (suc (length more)) (number more) c rest (omega arith) e)

pub length_again : (p id : ℕ) (size c rest : List ℕ) → Len (length c) size → length_at p id (size ++ (c ++ rest)) ≡ Ok (header_for p id (length size) (length c))
unfolding length_at
length_again p id [] c rest h = absurd h
length_again p id (first ∷ more) c rest (inl h) =
    rw (h.0, lt-ltb first 128 (omega (arith, h.1, h.2))) (sized_again p id (p + 2) 1 first c rest (omega arith) h.1)
length_again p id (first ∷ more) c rest (inr h) =
    let big : 128 < first = omega (arith, h.0, h.1) in
    let count : first - 128 ≡ length more = omega (arith, h.0) in
    rw (le-ltb first 128 (omega arith), ne_eqb first 128 (λ e. omega arith), le-ltb 132 first (omega (arith, h.0, h.2)), count)
    (counted_again p id more c rest h.3)

-- ---- what is read has a good length

-- what stands behind an identifier, where its length is read
pub record Parts (p id : ℕ) (o : List ℕ) (h : Header) : Type 0 where
  pub size : List ℕ
  pub contents : List ℕ
  pub rest : List ℕ
  pub parts : o ≡ size ++ (contents ++ rest)
  pub sized : Len (length contents) size
  pub header : h ≡ header_for p id (length size) (length contents)

sized_inv : (p id from n : ℕ) (o : List ℕ) (h : Header) → sized_at p id from n o ≡ Ok h
    → (n ≤ length o) × (h ≡ record { at = p; identifier = id; contents_from = from; contents_to = from + n })
sized_inv p id from n o h e = elim (chosen (ltb (length o) n) _ _ _ e) [
  | inl t ↦ absurd (let wrong = t.1 in cc)
  | inr t ↦ (ltb-false _ _ t.0, let is = t.1 in cc)
]

parts_of : (p id from n : ℕ) (size o all : List ℕ) (h : Header) → from ≡ p + 1 + length size → Len n size → all ≡ size ++ o → sized_at p id from n o ≡ Ok h → Parts p id all h
parts_of p id from n size o all h at len is e =
    let s = sized_inv p id from n o h e in
    let count : length (take n o) ≡ n = omega (arith, length-take n o, s.0) in
    record {
      size = size;
      contents = take n o;
      rest = drop n o;
      parts = is ∙ ap (λ (x : List ℕ). size ++ x) (sym (take-append-drop n o));
      sized = rw count len;
      header = s.1 ∙ rw (at, count) refl;
    }

-- a first octet of 128 and a count, and so many octets behind it, are a length
counted_Len : (first count : ℕ) (more : List ℕ) → first ≡ 128 + count → 1 ≤ count → count ≤ 4 → count ≤ length more → Len (big_number count more) (first ∷ take count more)
counted_Len first count more is low high room =
    let long : length (take count more) ≡ count = length-take-le count more room in
    let same : number (take count more) ≡ big_number count more = ap (λ (k : ℕ). big_number k (take count more)) long ∙ big_from-take 0 count count more (omega arith) in
    inr (omega arith, omega arith, omega arith, same)

counted_inv : (p id first count : ℕ) (more : List ℕ) (h : Header) → first ≡ 128 + count → 1 ≤ count → count ≤ 4 → counted_length_at p id count more ≡ Ok h → Parts p id (first ∷ more) h
unfolding counted_length_at
counted_inv p id first count more h is low high e = elim (chosen (ltb (length more) count) _ _ _ e) [
  | inl t ↦ absurd (let wrong = t.1 in cc)
  | inr t ↦
      let room : count ≤ length more = ltb-false _ _ t.0 in
      let long : length (take count more) ≡ count = length-take-le count more room in
      parts_of p id (p + 2 + count) (big_number count more) (first ∷ take count more) (drop count more) (first ∷ more) h (omega arith) (counted_Len first count more is low high room)
      (ap (λ (x : List ℕ). first ∷ x) (sym (take-append-drop count more))) t.1
]

pub length_inv : (p id : ℕ) (o : List ℕ) (h : Header) → length_at p id o ≡ Ok h → Parts p id o h
unfolding length_at
length_inv p id [] h e = absurd (cc)
length_inv p id (first ∷ more) h e = elim (chosen (ltb first 128) _ _ _ e) [
  | inl t ↦ parts_of p id (p + 2) first (first ∷ []) more (first ∷ more) h (omega arith) (inl (refl, refl, omega (arith, ltb-true _ _ t.0))) refl t.1
  | inr t ↦ elim (chosen (eqb first 128) _ _ _ t.1) [
    | inl u ↦ absurd (let wrong = u.1 in cc)
    | inr u ↦ elim (chosen (ltb 132 first) _ _ _ u.1) [
      | inl v ↦ absurd (let wrong = v.1 in cc)
      | inr v ↦
          let low : 128 < first = omega (arith, ltb-false _ _ t.0, eqb-false _ _ u.0) in
          let high : first ≤ 132 = ltb-false _ _ v.0 in
          counted_inv p id first (first - 128) more h (omega arith) (omega arith) (omega arith) v.1
    ]
  ]
]

-- the same behind an identifier of one octet
pub low_found : (p id : ℕ) (o : List ℕ) (h : Header) → eqb (id % 32) 31 ≡ false → header_at p (id ∷ o) ≡ Ok h → Parts p id o h
unfolding header_at
low_found p id o h low e = length_inv p id o h (sym (rw low refl) ∙ e)

-- ---- what is refused has a length at fault

sized_wrong : (p id from n : ℕ) (o : List ℕ) (f : Fault) → sized_at p id from n o ≡ Err f → (length o < n) × (f ≡ fault_of (p + 1) causes.LengthPastEnd)
sized_wrong p id from n o f e = elim (chosen (ltb (length o) n) _ _ _ e) [
  | inl t ↦ (ltb-true _ _ t.0, fault_is {A = Header} _ _ f t.1)
  | inr t ↦ absurd (let wrong = t.1 in cc)
]

counted_wrong : (p id first count : ℕ) (more : List ℕ) (f : Fault) → first ≡ 128 + count → 1 ≤ count → count ≤ 4 → counted_length_at p id count more ≡ Err f → LengthFault f p (first ∷ more)
unfolding counted_length_at
counted_wrong p id first count more f is low high e = elim (chosen (ltb (length more) count) _ _ _ e) [
  | inl t ↦ cut (omega arith) (omega arith) (omega (arith, ltb-true _ _ t.0)) (fault_is {A = Header} _ _ f t.1)
  | inr t ↦
      let s = sized_wrong p id (p + 2 + count) (big_number count more) (drop count more) f t.1 in
      let room : count ≤ length more = ltb-false _ _ t.0 in
      past_end (big_number count more) (first ∷ take count more) (drop count more) (counted_Len first count more is low high room)
      (ap (λ (x : List ℕ). first ∷ x) (sym (take-append-drop count more))) s.0 s.1
]

pub length_wrong : (p id : ℕ) (o : List ℕ) (f : Fault) → length_at p id o ≡ Err f → LengthFault f p o
unfolding length_at
length_wrong p id [] f e = absent (fault_is {A = Header} _ _ f e)
length_wrong p id (first ∷ more) f e = elim (chosen (ltb first 128) _ _ _ e) [
  | inl t ↦
      let s = sized_wrong p id (p + 2) first more f t.1 in
      past_end first (first ∷ []) more (inl (refl, refl, omega (arith, ltb-true _ _ t.0))) refl s.0 s.1
  | inr t ↦ elim (chosen (eqb first 128) _ _ _ t.1) [
    | inl u ↦ indefinite (eqb-true _ _ u.0) (fault_is {A = Header} _ _ f u.1)
    | inr u ↦ elim (chosen (ltb 132 first) _ _ _ u.1) [
      | inl v ↦ form (ltb-true _ _ v.0) (fault_is {A = Header} _ _ f v.1)
      | inr v ↦
          let low : 128 < first = omega (arith, ltb-false _ _ t.0, eqb-false _ _ u.0) in
          let high : first ≤ 132 = ltb-false _ _ v.0 in
          counted_wrong p id first (first - 128) more f (omega arith) (omega arith) (omega arith) v.1
    ]
  ]
]

-- ---- a length at fault is refused

sized_past : (f : Fault) (p id from n : ℕ) (o : List ℕ) → length o < n → f ≡ fault_of (p + 1) causes.LengthPastEnd → sized_at p id from n o ≡ Err f
sized_past f p id from n o lt is = rw (lt-ltb (length o) n lt, is) refl

past_again : (f : Fault) (p id n : ℕ) (size rest : List ℕ) → Len n size → length rest < n → f ≡ fault_of (p + 1) causes.LengthPastEnd → length_at p id (size ++ rest) ≡ Err f
unfolding length_at counted_length_at
past_again f p id n [] rest h lt is = absurd h
past_again f p id n (first ∷ more) rest (inl h) lt is =
    rw (h.0, lt-ltb first 128 (omega (arith, h.1, h.2))) (sized_past f p id (p + 2) first rest (omega (arith, h.1)) is)
past_again f p id n (first ∷ more) rest (inr h) lt is =
    let big : 128 < first = omega (arith, h.0, h.1) in
    let count : first - 128 ≡ length more = omega (arith, h.0) in
    rw (
      le-ltb first 128 (omega arith),
      ne_eqb first 128 (λ e. omega arith),
      le-ltb 132 first (omega (arith, h.0, h.2)),
      count,
      le-ltb (length (more ++ rest)) (length more) (omega (arith, length-append more rest)),
      number_front more rest,
      drop_at more rest (length more) refl,
    )
    (sized_past f p id (p + 2 + length more) (number more) rest (omega (arith, h.3)) is)

pub length_wrong_again : (f : Fault) (p id : ℕ) (o : List ℕ) → LengthFault f p o → length_at p id o ≡ Err f
unfolding length_at counted_length_at
length_wrong_again f p id o (absent is) = rw is refl
length_wrong_again f p id (first ∷ more) (cut low high short is) =
    let few : length more < first - 128 = omega arith in
    rw (le-ltb first 128 (omega arith), ne_eqb first 128 (λ e. omega arith), le-ltb 132 first high, lt-ltb (length more) (first - 128) few, is) refl
length_wrong_again f p id o (indefinite first-is is) = rw (first-is, is) refl
length_wrong_again f p id (first ∷ more) (form large is) =
    rw (le-ltb first 128 (omega arith), ne_eqb first 128 (λ e. omega arith), lt-ltb 132 first (omega arith), is) refl
length_wrong_again f p id o (past_end n size rest len parts lt is) = rw parts (past_again f p id n size rest len lt is)

-- ---- what is known to be read

no_header : (p : ℕ) (h : Header) → header_at p [] ≡ Ok h → ⊥
unfolding header_at
no_header p h e = cc

no_length : (p id : ℕ) (h : Header) → length_at p id [] ≡ Ok h → ⊥
unfolding length_at
no_length p id h e = cc

behind_identifier : (p id : ℕ) (o : List ℕ) (h : Header) → header_at p (id ∷ o) ≡ Ok h → length_at p id o ≡ Ok h
unfolding header_at
behind_identifier p id o h e = elim (chosen (eqb (id % 32) 31) _ _ _ e) [
  | inl t ↦ absurd (let wrong = t.1 in cc)
  | inr t ↦ t.1
]

short_is : (p id first : ℕ) (rest : List ℕ) (h : Header) → first < 128 → length_at p id (first ∷ rest) ≡ Ok h
    → (first ≤ length rest) × (h ≡ record { at = p; identifier = id; contents_from = p + 2; contents_to = p + 2 + first })
unfolding length_at
short_is p id first rest h low e = elim (chosen (ltb first 128) _ _ _ e) [
  | inl t ↦ sized_inv p id (p + 2) first rest h t.1
  | inr t ↦ absurd (omega (arith, ltb-false _ _ t.0))
]

-- a header whose length is one octet
short_header : (p : ℕ) (o : List ℕ) (h : Header) → header_at p o ≡ Ok h → get_or o 1 0 < 128
    → (get_or o 1 0 + 2 ≤ length o) × (h ≡ record { at = p; identifier = get_or o 0 0; contents_from = p + 2; contents_to = p + 2 + get_or o 1 0 })
short_header p [] h e low = absurd (no_header p h e)
short_header p (id ∷ []) h e low = absurd (no_length p id h (behind_identifier p id [] h e))
short_header p (id ∷ first ∷ rest) h e low = let s = short_is p id first rest h low (behind_identifier p id (first ∷ rest) h e) in (omega (arith, s.0), s.1)

-- a header has two octets at least
header_room : (p : ℕ) (o : List ℕ) (h : Header) → header_at p o ≡ Ok h → 2 ≤ length o
header_room p [] h e = absurd (no_header p h e)
header_room p (id ∷ []) h e = absurd (no_length p id h (behind_identifier p id [] h e))
header_room p (id ∷ first ∷ rest) h e = omega arith

-- what is known of a header whose length stands in several octets
pub record IsLong (p : ℕ) (o : List ℕ) (h : Header) (count : ℕ) : Type 0 where
  pub some : 1 ≤ count
  pub few : count ≤ 4
  pub room : 2 + count + big_number count (drop 2 o) ≤ length o
  pub is : h ≡ record { at = p; identifier = get_or o 0 0; contents_from = p + 2 + count; contents_to = p + 2 + count + big_number count (drop 2 o) }

counted_is : (p id first count : ℕ) (rest : List ℕ) (h : Header) → 1 ≤ count → count ≤ 4 → counted_length_at p id count rest ≡ Ok h → IsLong p (id ∷ first ∷ rest) h count
unfolding counted_length_at
counted_is p id first count rest h some few e = elim (chosen (ltb (length rest) count) _ _ _ e) [
  | inl t ↦ absurd (let wrong = t.1 in cc)
  | inr t ↦
      let s = sized_inv p id (p + 2 + count) (big_number count rest) (drop count rest) h t.1 in
      record { some = some; few = few; room = omega (arith, s.0, ltb-false _ _ t.0, length-drop count rest); is = s.1 }
]

long_is : (p id first : ℕ) (rest : List ℕ) (h : Header) → 128 ≤ first → length_at p id (first ∷ rest) ≡ Ok h → IsLong p (id ∷ first ∷ rest) h (first - 128)
unfolding length_at
long_is p id first rest h high e = elim (chosen (ltb first 128) _ _ _ e) [
  | inl t ↦ absurd (omega (arith, ltb-true _ _ t.0))
  | inr t ↦ elim (chosen (eqb first 128) _ _ _ t.1) [
    | inl u ↦ absurd (let wrong = u.1 in cc)
    | inr u ↦ elim (chosen (ltb 132 first) _ _ _ u.1) [
      | inl v ↦ absurd (let wrong = v.1 in cc)
      | inr v ↦ counted_is p id first (first - 128) rest h (omega (arith, high, eqb-false _ _ u.0)) (omega (arith, ltb-false _ _ v.0)) v.1
    ]
  ]
]

long_header : (p : ℕ) (o : List ℕ) (h : Header) → header_at p o ≡ Ok h → 128 ≤ get_or o 1 0 → IsLong p o h (get_or o 1 0 - 128)
long_header p [] h e high = absurd (no_header p h e)
long_header p (id ∷ []) h e high = absurd (no_length p id h (behind_identifier p id [] h e))
long_header p (id ∷ first ∷ rest) h e high = long_is p id first rest h high (behind_identifier p id (first ∷ rest) h e)

-- the same where it is known that there is a header
known : (r : Result Header Fault) → IsOk r → (h : Header) × (r ≡ Ok h)
known (Ok h) k = (h, refl)
known (Err f) k = absurd (cc)

pub known_room : (p : ℕ) (o : List ℕ) → IsOk (header_at p o) → 2 ≤ length o
known_room p o k = let h = known (header_at p o) k in header_room p o h.0 h.1

pub known_short : (p : ℕ) (o : List ℕ) → IsOk (header_at p o) → get_or o 1 0 < 128
    → (get_or o 1 0 + 2 ≤ length o) × (header_at p o ≡ Ok (record { at = p; identifier = get_or o 0 0; contents_from = p + 2; contents_to = p + 2 + get_or o 1 0 }))
known_short p o k low =
    let h = known (header_at p o) k in
    let s = short_header p o h.0 h.1 low in
    (s.0, h.1 ∙ ap (λ (x : Header). Ok x) s.1)

pub known_long : (p : ℕ) (o : List ℕ) → IsOk (header_at p o) → 128 ≤ get_or o 1 0 → (h : Header) × (header_at p o ≡ Ok h) × IsLong p o h (get_or o 1 0 - 128)
known_long p o k high = let h = known (header_at p o) k in (h.0, h.1, long_header p o h.0 h.1 high)

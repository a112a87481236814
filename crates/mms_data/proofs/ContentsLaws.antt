-- Contents of the kinds without members: what is read is spelled so, what is spelled so is read; and the same of
-- faults.
use Rattle.std.proofs.Common.{◌≡◌, ℕ, ◌+◌, Bool, true, false, cond, List, [], ◌∷◌, length, Result, Ok, Err, refl, sym, ap, ap₂, subst, ◌∙◌, inl, inr}
use Rattle.std.proofs.lemmas.Bool.{leb-true, le-leb, eqb-true, and_parts, or_cases}
use Rattle.std.specs.Prelude.{ℤ, pos}
use Rattle.ber_core.specs.Contents.{SpellsInteger}
use Rattle.ber_core.specs.computed.ContentsReading.{boolean_at, integer_at, natural, visible_at}
use Rattle.ber_core.specs.Faults.{fault_of}
use Rattle.ber_core.specs.computed.Reading.{◌>>=◌, refused}
use Rattle.ber_core.specs.declared.fault.Fault.{Fault}
use Rattle.ber_core.specs.declared.fault.Cause.{Cause}
use Rattle.ber_core.specs.declared.fault.Cause.TheVariants as causes
use Rattle.ber_core.proofs.ContentsLaws.{boolean_found, boolean_again, boolean_wrong, boolean_wrong_again, integer_found, integer_again, integer_wrong, integer_wrong_again, natural_is, visible_found, visible_again, visible_wrong, visible_wrong_again}
use Rattle.ber_core.proofs.Steps.{chosen, bind_ok, bind_err, fault_is}
use Rattle.mms_data.specs.Data.{Simple, boolean, bits, integer, unsigned, floating, octets, visible, binary_time, mms_text, utc}
use Rattle.mms_data.specs.Kinds.{simple_kind}
use Rattle.mms_data.specs.Contents.{IsFewOctets, IsTimeCount, cleared, IsUnused, SpellsBits, SpellsSimple, BitsFault, SimpleFault, least_signed, most_signed, most_unsigned}
use Rattle.mms_data.specs.computed.ContentsReading.{unsigned_at, counted_if, is_few_octets, is_time_count, is_unused, bits_at, simple_at}
use Rattle.mms_data.specs.declared.kinds.SimpleKind.{SimpleKind}
use Rattle.mms_data.specs.declared.kinds.SimpleKind.TheVariants as kinds
use Rattle.mms_data.specs.computed.UtcReading.{utc_at}
use Rattle.mms_data.proofs.UtcLaws.{utc_found, utc_again, utc_wrong, utc_wrong_again}

-- a test that lets a value through
tested_ok : {A : Type 0} (b : Bool) (x y : A) (p : ℕ) (why : Cause) → cond b (Ok x) (refused p why) ≡ Ok y → (b ≡ true) × (x ≡ y)
tested_ok true x y p why e = (refl, (cc))
tested_ok false x y p why e = absurd (cc)

tested_err : {A : Type 0} (b : Bool) (x : A) (f : Fault) (p : ℕ) (why : Cause) → cond b (Ok x) (refused p why) ≡ Err f → (b ≡ false) × (f ≡ fault_of p why)
tested_err true x f p why e = absurd (cc)
tested_err {A = A} false x f p why e = (refl, fault_is {A = A} p why f e)

value_is : {A B : Type 0} (r : Result A Fault) (make : A → B) (y : B) → (r >>= λ x. Ok (make x)) ≡ Ok y → (x : A) × (r ≡ Ok x) × (y ≡ make x)
value_is r make y e = let x = bind_ok r _ y e in (x.0, x.1, let is = x.2 in cc)

fault_of_first : {A B : Type 0} (r : Result A Fault) (make : A → B) (f : Fault) → (r >>= λ x. Ok (make x)) ≡ Err f → r ≡ Err f
fault_of_first r make f e = elim (bind_err r _ f e) [ inl h ↦ h | inr x ↦ absurd (let wrong = x.2 in cc) ]

-- ---- counts

pub floating_true : (n : ℕ) → IsFewOctets n → is_few_octets n ≡ true
floating_true n h = rw (le-leb 1 n h.0, le-leb n 16 h.1) refl

pub floating_is : (n : ℕ) → is_few_octets n ≡ true → IsFewOctets n
floating_is n e = let b = and_parts _ _ e in (leb-true _ _ b.0, leb-true _ _ b.1)

pub time_true : (n : ℕ) → IsTimeCount n → is_time_count n ≡ true
time_true n (inl h) = rw h refl
time_true n (inr h) = rw h refl

pub time_is : (n : ℕ) → is_time_count n ≡ true → IsTimeCount n
time_is n e = elim (or_cases _ _ e) [ inl a ↦ inl (eqb-true _ _ a) | inr b ↦ inr (eqb-true _ _ b) ]

counted_wrong : (b : Bool) (IsGood : Type 0) (p : ℕ) (c : List ℕ) (f : Fault) → (IsGood → b ≡ true) → counted_if b p c ≡ Err f → (f ≡ fault_of (p + 1) causes.FixedLength) × ¬ IsGood
counted_wrong b IsGood p c f law e = let t = tested_err b c f (p + 1) causes.FixedLength e in (t.1, λ g. let yes = law g in let wrong = t.0 in cc)

counted_refused : (b : Bool) (IsGood : Type 0) (p : ℕ) (c : List ℕ) → (b ≡ true → IsGood) → (¬ IsGood) → counted_if b p c ≡ refused (p + 1) causes.FixedLength
counted_refused true IsGood p c law h = absurd (h (law refl))
counted_refused false IsGood p c law h = refl

-- ---- bits

pub unused_true : (n : ℕ) (ns : List ℕ) → IsUnused n ns → is_unused n ns ≡ true
unused_true n [] h = rw h refl
unused_true n (m ∷ ns) h = le-leb n 7 h

pub unused_is : (n : ℕ) (ns : List ℕ) → is_unused n ns ≡ true → IsUnused n ns
unused_is n [] e = eqb-true _ _ e
unused_is n (m ∷ ns) e = leb-true _ _ e

bits_again : (s : ℕ) (unused : ℕ) (ns c : List ℕ) → SpellsBits unused ns c → (bits_at s c >>= λ x. Ok (bits x.0 (cleared x.0 x.1))) ≡ Ok (bits unused ns)
bits_again s unused ns [] h = absurd h
bits_again s unused ns (n ∷ more) h = rw (unused_true n more h.1) (ap₂ (λ x y. Ok (bits x y)) h.0 (sym h.2))

bits_found : (s : ℕ) (c : List ℕ) (x : ℕ × List ℕ) → bits_at s c ≡ Ok x → SpellsBits x.0 (cleared x.0 x.1) c
bits_found s [] x e = absurd (cc)
bits_found s (n ∷ more) x e =
    let t = tested_ok (is_unused n more) (n, more) x s causes.BitUnused e in
    subst (λ (y : ℕ × List ℕ). SpellsBits y.0 (cleared y.0 y.1) (n ∷ more)) t.1 (refl, unused_is n more t.0, refl)

bits_wrong : (s : ℕ) (c : List ℕ) (f : Fault) → bits_at s c ≡ Err f → BitsFault f s c
bits_wrong s [] f e = fault_is {A = ℕ × List ℕ} _ _ f e
bits_wrong s (n ∷ more) f e =
    let t = tested_err (is_unused n more) (n, more) f s causes.BitUnused e in
    (t.1, λ h. let yes = unused_true n more h in let wrong = t.0 in cc)

bits_refused : (s : ℕ) (c : List ℕ) (f : Fault) → BitsFault f s c → bits_at s c ≡ Err f
bits_refused s [] f is = rw is refl
bits_refused s (n ∷ more) f h = elim (chosen (is_unused n more) true false _ refl) [
  | inl t ↦ absurd (h.1 (unused_is n more t.0))
  | inr t ↦ let no : is_unused n more ≡ false = t.0 in rw (no, h.0) refl
]

-- ---- all kinds

-- what contents spell is read
pub simple_again : (v : Simple) (p s : ℕ) (c : List ℕ) → SpellsSimple v c → simple_at (simple_kind v) p s c ≡ Ok v
unfolding simple_at
simple_again (boolean b) p s c h = rw (boolean_again p c b h) refl
simple_again (bits unused ns) p s c h = bits_again s unused ns c h
simple_again (integer n) p s c h = rw (integer_again least_signed most_signed p s c n h) refl
simple_again (unsigned n) p s c h = rw (integer_again (pos 0) most_unsigned p s c (pos n) h) refl
simple_again (floating ns) p s c h = rw (h.0, floating_true (length ns) h.1) refl
simple_again (octets ns) p s c h = rw h refl
simple_again (visible ns) p s c h = rw (visible_again s c ns h) refl
simple_again (binary_time ns) p s c h = rw (h.0, time_true (length ns) h.1) refl
simple_again (mms_text ns) p s c h = rw h refl
simple_again (utc t) p s c h = rw (utc_again p c t h) refl

-- a value of this kind, which c spells
pub record Holds (k : SimpleKind) (c : List ℕ) (v : Simple) : Type 0 where
  pub kind : simple_kind v ≡ k
  pub spelled : SpellsSimple v c

-- what is read is spelled
pub simple_found : (k : SimpleKind) (p s : ℕ) (c : List ℕ) (v : Simple) → simple_at k p s c ≡ Ok v → Holds k c v
unfolding simple_at
simple_found kinds.Boolean p s c v e = let x = value_is (boolean_at p c) boolean v e in rw x.2 (record { kind = refl; spelled = boolean_found p c x.0 x.1 })
simple_found kinds.BitString p s c v e =
    let x = bind_ok (bits_at s c) _ v e in
    let is : v ≡ bits x.0.0 (cleared x.0.0 x.0.1) = (let same = x.2 in cc) in
    rw is (record { kind = refl; spelled = bits_found s c x.0 x.1 })
simple_found kinds.Integer p s c v e =
    let x = value_is (integer_at least_signed most_signed p s c) integer v e in
    rw x.2 (record { kind = refl; spelled = integer_found least_signed most_signed p s c x.0 x.1 })
simple_found kinds.Unsigned p s c v e =
    let x = value_is (unsigned_at p s c) unsigned v e in
    let y = value_is (integer_at (pos 0) most_unsigned p s c) natural x.0 x.1 in
    let z = integer_found (pos 0) most_unsigned p s c y.0 y.1 in
    let same : y.0 ≡ pos x.0 = natural_is y.0 z.0 ∙ ap pos (sym y.2) in
    rw x.2 (record { kind = refl; spelled = subst (λ (n : ℤ). SpellsInteger (pos 0) most_unsigned n c) same z })
simple_found kinds.FloatingPoint p s c v e =
    let x = value_is (counted_if (is_few_octets (length c)) p c) floating v e in
    let t = tested_ok (is_few_octets (length c)) c x.0 (p + 1) causes.FixedLength x.1 in
    rw (x.2, ← t.1) (record { kind = refl; spelled = (refl, floating_is (length c) t.0) })
simple_found kinds.OctetString p s c v e = let is : v ≡ octets c = cc in rw is (record { kind = refl; spelled = refl })
simple_found kinds.VisibleString p s c v e =
    let x = value_is (visible_at s c) visible v e in
    rw x.2 (record { kind = refl; spelled = visible_found s c x.0 x.1 })
simple_found kinds.BinaryTime p s c v e =
    let x = value_is (counted_if (is_time_count (length c)) p c) binary_time v e in
    let t = tested_ok (is_time_count (length c)) c x.0 (p + 1) causes.FixedLength x.1 in
    rw (x.2, ← t.1) (record { kind = refl; spelled = (refl, time_is (length c) t.0) })
simple_found kinds.MmsString p s c v e = let is : v ≡ mms_text c = cc in rw is (record { kind = refl; spelled = refl })
simple_found kinds.UtcTime p s c v e = let x = value_is (utc_at p c) utc v e in rw x.2 (record { kind = refl; spelled = utc_found p c x.0 x.1 })

-- where reading stops there is that fault
pub simple_wrong : (k : SimpleKind) (p s : ℕ) (c : List ℕ) (f : Fault) → simple_at k p s c ≡ Err f → SimpleFault f k p s c
unfolding simple_at
simple_wrong kinds.Boolean p s c f e = boolean_wrong f p c (fault_of_first (boolean_at p c) boolean f e)
simple_wrong kinds.BitString p s c f e = bits_wrong s c f (fault_of_first (bits_at s c) (λ x. bits x.0 (cleared x.0 x.1)) f e)
simple_wrong kinds.Integer p s c f e = integer_wrong least_signed most_signed p s c f (fault_of_first (integer_at least_signed most_signed p s c) integer f e)
simple_wrong kinds.Unsigned p s c f e =
    integer_wrong (pos 0) most_unsigned p s c f (fault_of_first (integer_at (pos 0) most_unsigned p s c) natural f (fault_of_first (unsigned_at p s c) unsigned f e))
simple_wrong kinds.FloatingPoint p s c f e =
    counted_wrong (is_few_octets (length c)) (IsFewOctets (length c)) p c f (floating_true (length c)) (fault_of_first (counted_if (is_few_octets (length c)) p c) floating f e)
simple_wrong kinds.OctetString p s c f e = let wrong : ⊥ = cc in wrong
simple_wrong kinds.VisibleString p s c f e = visible_wrong f s c (fault_of_first (visible_at s c) visible f e)
simple_wrong kinds.BinaryTime p s c f e =
    counted_wrong (is_time_count (length c)) (IsTimeCount (length c)) p c f (time_true (length c)) (fault_of_first (counted_if (is_time_count (length c)) p c) binary_time f e)
simple_wrong kinds.MmsString p s c f e = let wrong : ⊥ = cc in wrong
simple_wrong kinds.UtcTime p s c f e = utc_wrong p c f (fault_of_first (utc_at p c) utc f e)

-- and where there is a fault reading stops with it
pub simple_refused : (k : SimpleKind) (p s : ℕ) (c : List ℕ) (f : Fault) → SimpleFault f k p s c → simple_at k p s c ≡ Err f
unfolding simple_at
simple_refused kinds.Boolean p s c f h = rw (boolean_wrong_again f p c h) refl
simple_refused kinds.BitString p s c f h = rw (bits_refused s c f h) refl
simple_refused kinds.Integer p s c f h = rw (integer_wrong_again least_signed most_signed p s c f h) refl
simple_refused kinds.Unsigned p s c f h = rw (integer_wrong_again (pos 0) most_unsigned p s c f h) refl
simple_refused kinds.FloatingPoint p s c f h = rw (counted_refused (is_few_octets (length c)) (IsFewOctets (length c)) p c (floating_is (length c)) h.1, h.0) refl
simple_refused kinds.OctetString p s c f h = absurd h
simple_refused kinds.VisibleString p s c f h = rw (visible_wrong_again f s c h) refl
simple_refused kinds.BinaryTime p s c f h = rw (counted_refused (is_time_count (length c)) (IsTimeCount (length c)) p c (time_is (length c)) h.1, h.0) refl
simple_refused kinds.MmsString p s c f h = absurd h
simple_refused kinds.UtcTime p s c f h = rw (utc_wrong_again p c f h) refl

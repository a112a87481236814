-- The first fault of a frame is at most 1,600 octets away from its start.
use Rattle.std.proofs.Common.{◌≡◌, ℕ, ℤ, suc, ◌+◌, ◌≤◌, List, [], ◌∷◌, ◌++◌, length, Err, ap, ◌∙◌, arith}
use Rattle.std.proofs.lemmas.List.{length-append}
use Rattle.ber_core.specs.Contents.{IntegerFault, no_octet, outside, over_nine}
use Rattle.ber_core.specs.Faults.{LengthFault, absent as no_length, cut, fault_of, form, indefinite, past_end}
use Rattle.ber_core.specs.Fields.{Field, FieldsFault, Grammar}
use Rattle.ber_core.specs.Fields as fields
use Rattle.ber_core.specs.Repeated.{EachFault, FrontFault}
use Rattle.ber_core.specs.Repeated as each
use Rattle.ber_core.specs.declared.fault.Cause.{Cause}
use Rattle.ber_core.specs.declared.fault.Fault.{Fault}
use Rattle.ber_core.proofs.Regions.{region-length}
use Rattle.mms_data.specs.Contents.{BitsFault, SimpleFault}
use Rattle.mms_data.specs.Spelling.{FaultIn}
use Rattle.mms_data.specs.Spelling as members
use Rattle.mms_data.specs.declared.kinds.SimpleKind.{SimpleKind}
use Rattle.mms_data.specs.declared.kinds.SimpleKind.TheVariants as kinds
use Rattle.pdu_core.specs.Contents.{ContentsFault, Kind, contents_grammar}
use Rattle.pdu_core.specs.Contents as contents
use Rattle.pdu_core.specs.Goose.{GooseFault, apdu_grammar, in_entry_count, in_fields}
use Rattle.pdu_core.specs.Sampled.{SvFault, asdu_grammar, in_asdu_count, in_sv_fields, sv_apdu_grammar, sv_grammar}
use Rattle.pdu_core.specs.Sampled as sampled
use Rattle.frame_core.specs.Apdu.{ApduFault, in_goose, in_sampled}
use Rattle.frame_core.specs.Envelope.{apdu_from, apdu_to}
use Rattle.frame_core.specs.FrameFault.{FrameFault, in_apdu, no_apdu, no_ether_type, no_head, not_announced, out_of_range, too_long}
use Rattle.frame_core.specs.computed.FrameReading.{frame_at}
use Rattle.frame_core.proofs.ReadingLaws.{frame_read_wrong}
use Rattle.joint_laws.specs.Given.{IsWide}

by_place : {f : Fault} {p : ℕ} {why : Cause} (q : ℕ) → p ≤ q → f ≡ fault_of p why → f.place ≤ q
by_place {f} {p} q h is = let place : f.place ≡ p = ap (λ (g : Fault). g.place) is in omega arith

-- the size of an element and what follows it
element_size : (id : ℕ) (size c rest o : List ℕ) → o ≡ id ∷ size ++ (c ++ rest) → length o ≡ 1 + length size + length c + length rest
element_size id size c rest o parts =
    let whole : length o ≡ suc (length (size ++ (c ++ rest))) = ap (λ (l : List ℕ). length l) parts in
    omega (arith, whole, length-append size (c ++ rest), length-append c rest)

two_sizes : (a b o : List ℕ) → o ≡ a ++ b → length o ≡ length a + length b
two_sizes a b o parts = ap (λ (l : List ℕ). length l) parts ∙ length-append a b

-- ---- octets that stand at p: a fault is at most at their end

in_length : {f : Fault} {p : ℕ} {o : List ℕ} → LengthFault f p o → f.place ≤ p + 1 + length o
in_length (no_length is) = by_place _ (omega arith) is
in_length (cut low high few is) = by_place _ (omega arith) is
in_length (indefinite first is) = by_place _ (omega arith) is
in_length (form high is) = by_place _ (omega arith) is
in_length (past_end n size rest len parts few is) = by_place _ (omega arith) is

in_integer : {f : Fault} {low high : ℤ} {at from : ℕ} {c : List ℕ} → at + 1 ≤ from → IntegerFault f low high at from c → f.place ≤ from + length c
in_integer h (no_octet none is) = by_place _ (omega arith) is
in_integer h (over_nine many is) = by_place _ (omega arith) is
in_integer h (outside n int out is) = by_place _ (omega arith) is

in_bits : (f : Fault) (s : ℕ) (c : List ℕ) → BitsFault f s c → f.place ≤ s + length c
in_bits f s [] is = by_place _ (omega arith) is
in_bits f s (unused ∷ more) h = by_place _ (omega arith) h.0

in_text : {f : Fault} {why : Cause} (s : ℕ) (a b c : List ℕ) (x : ℕ) → c ≡ a ++ x ∷ b → f ≡ fault_of (s + length a) why → f.place ≤ s + length c
in_text s a b c x parts is = let size = two_sizes a (x ∷ b) c parts in by_place _ (omega (arith, size)) is

in_simple : (f : Fault) (k : SimpleKind) (p s : ℕ) (c : List ℕ) → p + 1 ≤ s → SimpleFault f k p s c → f.place ≤ s + length c
in_simple f kinds.Boolean p s c l h = by_place _ (omega arith) h.1
in_simple f kinds.BitString p s c l h = in_bits f s c h
in_simple f kinds.Integer p s c l h = in_integer l h
in_simple f kinds.Unsigned p s c l h = in_integer l h
in_simple f kinds.FloatingPoint p s c l h = by_place _ (omega arith) h.0
in_simple f kinds.VisibleString p s c l (a, b, x, parts, seen, unseen, is) = in_text s a b c x parts is
in_simple f kinds.BinaryTime p s c l h = by_place _ (omega arith) h.0
in_simple f kinds.UtcTime p s c l h = by_place _ (omega arith) h.1
in_simple _ _ _ _ _ _ h = absurd h

in_members : (f : Fault) {L p : ℕ} {o : List ℕ} → FaultIn f L p o → f.place ≤ p + length o
in_members f {L} {p} {o} (members.later d first rest spelled parts behind) = omega (arith, in_members f behind, two_sizes first rest o parts)
in_members f (members.too_deep deep is) = by_place _ (omega arith) is
in_members f (members.high low id is) = by_place _ (omega arith) is
in_members f (members.unexpected low id unknown is) = by_place _ (omega arith) is
in_members f (members.in_length low known h) = omega (arith, in_length h)
in_members f {L} {p} {o} (members.in_contents k c size rest low parts len h) = omega (arith, in_simple f k p (p + 1 + length size) c (omega arith) h, element_size _ size c rest o parts)
in_members f {L} {p} {o} (members.within id c size rest low kind parts len inside) = omega (arith, in_members f inside, element_size id size c rest o parts)

in_contents : (f : Fault) (k : Kind) (at from : ℕ) (c : List ℕ) → at + 1 ≤ from → ContentsFault f k at from c → f.place ≤ from + length c
in_contents f contents.text at from c l (a, b, x, parts, seen, unseen, is) = in_text from a b c x parts is
in_contents f contents.number at from c l h = in_integer l h
in_contents f contents.members at from c l h = in_members f h
in_contents f contents.raw at from c l h = absurd h
in_contents f _ at from c l h = by_place _ (omega arith) h.1

-- so it is with contents of each kind
abbrev AreNear : {K I : Type 0} → Grammar K I → Type 0
AreNear {K} G = (f : Fault) (k : K) (at from : ℕ) (c : List ℕ) → at + 1 ≤ from → G.fault f k at from c → f.place ≤ from + length c

in_fields_of : {K I : Type 0} (G : Grammar K I) → AreNear G → (f : Fault) {gs : List (Field K I)} {p : ℕ} {o : List ℕ} → FieldsFault G f gs p o → f.place ≤ p + length o
in_fields_of G inside f {gs} {p} {o} (fields.later x c a b elem spelled parts behind) = omega (arith, in_fields_of G inside f behind, two_sizes a b o parts)
in_fields_of G inside f (fields.absent may not behind) = in_fields_of G inside f behind
in_fields_of G inside f (fields.missing there is) = by_place _ (omega arith) is
in_fields_of G inside f (fields.high there id is) = by_place _ (omega arith) is
in_fields_of G inside f (fields.unexpected there id low is) = by_place _ (omega arith) is
in_fields_of G inside f (fields.in_length id h) = omega (arith, in_length h)
in_fields_of G inside f {gs} {p} {o} (fields.in_contents {g} c size rest parts len h) = omega (arith, inside f g.kind p (p + 1 + length size) c (omega arith) h, element_size g.identifier size c rest o parts)
in_fields_of G inside f (fields.extra is) = by_place _ (omega arith) is

in_asdu : AreNear asdu_grammar
in_asdu f k at from c l h = in_fields_of contents_grammar in_contents f h

in_front : (f : Fault) {p : ℕ} {o : List ℕ} → FrontFault asdu_grammar 0x30 tt f p o → f.place ≤ p + length o
in_front f (each.high id is) = by_place _ (omega arith) is
in_front f (each.unexpected id low is) = by_place _ (omega arith) is
in_front f (each.in_length id h) = omega (arith, in_length h)
in_front f {p} {o} (each.in_contents c size rest parts len h) = omega (arith, in_asdu f tt p (p + 1 + length size) c (omega arith) h, element_size 0x30 size c rest o parts)

in_each : (f : Fault) {p : ℕ} {o : List ℕ} → EachFault asdu_grammar 0x30 tt f p o → f.place ≤ p + length o
in_each f (each.here h) = in_front f h
in_each f {p} {o} (each.behind a b first parts h) = omega (arith, in_each f h, two_sizes a b o parts)

in_sampled_contents : AreNear sv_grammar
in_sampled_contents f sampled.asdu_count at from c l h = in_integer l h
in_sampled_contents f sampled.asdus at from c l h = in_each f h

in_goose_apdu : (f : Fault) {p : ℕ} {o : List ℕ} → GooseFault f p o → f.place ≤ p + length o
in_goose_apdu f (in_fields h) = in_fields_of apdu_grammar (λ f k at from c l. in_fields_of contents_grammar in_contents f) f h
in_goose_apdu f {p} {o} (in_entry_count h) =
    let whole : length o ≡ suc (length (h.size ++ (h.front ++ h.end))) = ap (λ (l : List ℕ). length l) h.parts in
    by_place _ (omega (arith, whole, length-append h.size (h.front ++ h.end), length-append h.front h.end)) h.fault

in_sampled_apdu : (f : Fault) {p : ℕ} {o : List ℕ} → SvFault f p o → f.place ≤ p + length o
in_sampled_apdu f (in_sv_fields h) = in_fields_of sv_apdu_grammar (λ f k at from c l. in_fields_of sv_grammar in_sampled_contents f) f h
in_sampled_apdu f {p} {o} (in_asdu_count h) =
    let whole : length o ≡ suc (length (h.size ++ h.fields)) = ap (λ (l : List ℕ). length l) h.parts in
    by_place _ (omega (arith, whole, length-append h.size h.fields)) h.fault

in_apdu_of : {t : ℕ} (f : Fault) {p : ℕ} {o : List ℕ} → ApduFault t f p o → f.place ≤ p + length o
in_apdu_of f (in_goose is h) = in_goose_apdu f h
in_apdu_of f (in_sampled is h) = in_sampled_apdu f h

-- ---- frames

fault_near : (o : List ℕ) (f : Fault) → FrameFault f o → f.place ≤ 1600
fault_near o f (too_long long is) = by_place _ (omega arith) is
fault_near o f (no_ether_type short few is) = by_place _ (omega arith) is
fault_near o f (not_announced there other is) = by_place _ (omega (arith, there.short, there.there)) is
fault_near o f (no_head there announced few is) = by_place _ (omega (arith, there.short)) is
fault_near o f (out_of_range head range is) = by_place _ (omega (arith, head.front.short, head.there)) is
fault_near o f (no_apdu head low high few is) = by_place _ (omega (arith, head.front.short)) is
fault_near o f (in_apdu has fault) =
    omega (arith, in_apdu_of f fault, region-length o (apdu_from o) (apdu_to o) has.there, has.head.front.short, has.there, has.low)

pub fault_wide : {A : Type 0} (o : List ℕ) (f : Fault) → frame_at {A = A} o ≡ Err f → IsWide f.place
fault_wide {A} o f e = let near = fault_near o f (frame_read_wrong {A = A} o f e) in omega (arith, near)

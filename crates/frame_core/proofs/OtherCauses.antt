-- The cause of a fault behind the EtherType of a frame is another one: a frame whose first fault has that cause is one of another
-- protocol.
use Rattle.std.proofs.Common.{◌≡◌, ◌⊎◌, inl, inr, ℕ, ◌+◌, Bool, true, false, leb, List, [], ◌∷◌, length, refl, subst, sym, ap, ◌∙◌, ℤ, arith}
use Rattle.std.proofs.lemmas.Bool.Decides.{nat_tests}
use Rattle.ber_core.specs.Contents.{IntegerFault, no_octet, over_nine, outside}
use Rattle.ber_core.specs.Faults.{LengthFault, fault_of, absent as no_length, cut, indefinite, form, past_end}
use Rattle.ber_core.specs.Fields.{Field, FieldsFault, Grammar}
use Rattle.ber_core.specs.Fields as fields
use Rattle.ber_core.specs.Repeated.{EachFault, FrontFault}
use Rattle.ber_core.specs.Repeated as each
use Rattle.ber_core.specs.declared.fault.Cause.{Cause}
use Rattle.ber_core.specs.declared.fault.Cause.TheVariants as causes
use Rattle.ber_core.specs.declared.fault.Fault.{Fault}
use Rattle.mms_data.specs.Contents.{BitsFault, SimpleFault}
use Rattle.mms_data.specs.Spelling.{FaultIn}
use Rattle.mms_data.specs.Spelling as members
use Rattle.mms_data.specs.declared.kinds.SimpleKind.{SimpleKind}
use Rattle.mms_data.specs.declared.kinds.SimpleKind.TheVariants as kinds
use Rattle.pdu_core.specs.Contents.{ContentsFault, Kind, contents_grammar}
use Rattle.pdu_core.specs.Contents as contents
use Rattle.pdu_core.specs.Goose.{GooseFault, in_fields, in_entry_count, apdu_grammar}
use Rattle.pdu_core.specs.Sampled.{SvFault, asdu_grammar, in_asdu_count, in_sv_fields, sv_apdu_grammar, sv_grammar}
use Rattle.pdu_core.specs.Sampled as sampled
use Rattle.frame_core.specs.Apdu.{ApduFault, IsApduType, in_goose, in_sampled}
use Rattle.frame_core.specs.Envelope.{ether_place, word_at}
use Rattle.frame_core.specs.FrameFault.{FrameFault, HasEtherType, in_apdu, no_apdu, no_ether_type, no_head, not_announced, out_of_range, too_long}
use Rattle.frame_core.specs.OtherType.{IsOther, OtherIsNoFrame}
use Rattle.frame_core.proofs.FrameLaws.{frame_or_fault}

-- the cause of a fault is another one
abbrev HasAnother : Fault → Type 0
HasAnother f = f.cause ≡ causes.EtherType → ⊥

another : {f : Fault} {p : ℕ} (why : Cause) → (why ≡ causes.EtherType → ⊥) → f ≡ fault_of p why → HasAnother f
another why differs is same = differs (sym (ap (λ (g : Fault). g.cause) is) ∙ same)

in_length : {f : Fault} {p : ℕ} {o : List ℕ} → LengthFault f p o → HasAnother f
in_length (no_length is) = another causes.Ends (λ e. cc) is
in_length (cut low high few is) = another causes.Ends (λ e. cc) is
in_length (indefinite first is) = another causes.Indefinite (λ e. cc) is
in_length (form high is) = another causes.LengthForm (λ e. cc) is
in_length (past_end n size rest len parts few is) = another causes.LengthPastEnd (λ e. cc) is

in_integer : {f : Fault} {low high : ℤ} {at from : ℕ} {c : List ℕ} → IntegerFault f low high at from c → HasAnother f
in_integer (no_octet none is) = another causes.IntegerLength (λ e. cc) is
in_integer (over_nine many is) = another causes.IntegerLength (λ e. cc) is
in_integer (outside n int out is) = another causes.IntegerRange (λ e. cc) is

in_bits : (f : Fault) (s : ℕ) (c : List ℕ) → BitsFault f s c → HasAnother f
in_bits f s [] is = another causes.BitUnused (λ e. cc) is
in_bits f s (unused ∷ more) h = another causes.BitUnused (λ e. cc) h.0

in_simple : (f : Fault) (k : SimpleKind) (p s : ℕ) (c : List ℕ) → SimpleFault f k p s c → HasAnother f
in_simple f kinds.Boolean p s c h = another causes.BooleanLength (λ e. cc) h.1
in_simple f kinds.BitString p s c h = in_bits f s c h
in_simple f kinds.Integer p s c h = in_integer h
in_simple f kinds.Unsigned p s c h = in_integer h
in_simple f kinds.FloatingPoint p s c h = another causes.FixedLength (λ e. cc) h.0
in_simple f kinds.OctetString p s c h = absurd h
in_simple f kinds.VisibleString p s c (a, b, x, parts, seen, unseen, is) = another causes.NotVisible (λ e. cc) is
in_simple f kinds.BinaryTime p s c h = another causes.FixedLength (λ e. cc) h.0
in_simple f kinds.MmsString p s c h = absurd h
in_simple f kinds.UtcTime p s c h = another causes.FixedLength (λ e. cc) h.1

in_members : {f : Fault} {L p : ℕ} {o : List ℕ} → FaultIn f L p o → HasAnother f
in_members (members.later d first rest spelled parts behind) = in_members behind
in_members (members.too_deep deep is) = another causes.TooDeep (λ e. cc) is
in_members (members.high low id is) = another causes.HighTag (λ e. cc) is
in_members (members.unexpected low id unknown is) = another causes.UnexpectedTag (λ e. cc) is
in_members (members.in_length low known h) = in_length h
in_members {f = f} (members.in_contents k c size rest low parts len h) = in_simple f k _ _ c h
in_members (members.within id c size rest low kind parts len inside) = in_members inside

in_contents : (f : Fault) (k : Kind) (at from : ℕ) (c : List ℕ) → ContentsFault f k at from c → HasAnother f
in_contents f contents.text at from c (a, b, x, parts, seen, unseen, is) = another causes.NotVisible (λ e. cc) is
in_contents f contents.number at from c h = in_integer h
in_contents f contents.flag at from c h = another causes.BooleanLength (λ e. cc) h.1
in_contents f contents.time at from c h = another causes.FixedLength (λ e. cc) h.1
in_contents f contents.members at from c h = in_members h
in_contents f (contents.fixed size) at from c h = another causes.FixedLength (λ e. cc) h.1
in_contents f contents.raw at from c h = absurd h
in_contents f contents.few at from c h = another causes.FixedLength (λ e. cc) h.1

-- a fault of contents of each kind has another cause
abbrev HaveOthers : {K I : Type 0} → Grammar K I → Type 0
HaveOthers {K} G = (f : Fault) (k : K) (at from : ℕ) (c : List ℕ) → G.fault f k at from c → HasAnother f

in_fields_of : {K I : Type 0} (G : Grammar K I) → HaveOthers G → {f : Fault} {gs : List (Field K I)} {p : ℕ} {o : List ℕ} → FieldsFault G f gs p o → HasAnother f
in_fields_of G inside (fields.later x c a b elem spelled parts behind) = in_fields_of G inside behind
in_fields_of G inside (fields.absent may not behind) = in_fields_of G inside behind
in_fields_of G inside (fields.missing there is) = another causes.ElementMissing (λ e. cc) is
in_fields_of G inside (fields.high there id is) = another causes.HighTag (λ e. cc) is
in_fields_of G inside (fields.unexpected there id low is) = another causes.UnexpectedTag (λ e. cc) is
in_fields_of G inside (fields.in_length id h) = in_length h
in_fields_of G inside {f = f} (fields.in_contents c size rest parts len h) = inside f _ _ _ c h
in_fields_of G inside (fields.extra is) = another causes.ExtraOctets (λ e. cc) is

in_asdu : HaveOthers asdu_grammar
in_asdu f k at from c h = in_fields_of contents_grammar in_contents h

in_front : (f : Fault) {p : ℕ} {o : List ℕ} → FrontFault asdu_grammar 0x30 tt f p o → HasAnother f
in_front f (each.high id is) = another causes.HighTag (λ e. cc) is
in_front f (each.unexpected id low is) = another causes.UnexpectedTag (λ e. cc) is
in_front f (each.in_length id h) = in_length h
in_front f {p = p} (each.in_contents c size rest parts len h) = in_asdu f tt p (p + 1 + length size) c h

in_each : (f : Fault) {p : ℕ} {o : List ℕ} → EachFault asdu_grammar 0x30 tt f p o → HasAnother f
in_each f (each.here h) = in_front f h
in_each f (each.behind a b first parts h) = in_each f h

in_sampled_contents : HaveOthers sv_grammar
in_sampled_contents f sampled.asdu_count at from c h = in_integer h
in_sampled_contents f sampled.asdus at from c h = in_each f h

in_goose_apdu : {f : Fault} {p : ℕ} {o : List ℕ} → GooseFault f p o → HasAnother f
in_goose_apdu (in_fields h) = in_fields_of apdu_grammar (λ f k at from c. in_fields_of contents_grammar in_contents) h
in_goose_apdu (in_entry_count h) = another causes.EntryCount (λ e. cc) h.fault

in_sampled_apdu : {f : Fault} {p : ℕ} {o : List ℕ} → SvFault f p o → HasAnother f
in_sampled_apdu (in_sv_fields h) = in_fields_of sv_apdu_grammar (λ f k at from c. in_fields_of sv_grammar in_sampled_contents) h
in_sampled_apdu (in_asdu_count h) = another causes.AsduCount (λ e. cc) h.fault

in_apdu_of : {t : ℕ} {f : Fault} {p : ℕ} {o : List ℕ} → ApduFault t f p o → HasAnother f
in_apdu_of (in_goose is h) = in_goose_apdu h
in_apdu_of (in_sampled is h) = in_sampled_apdu h

pub is_of_another : (o : List ℕ) (f : Fault) → FrameFault f o → f.cause ≡ causes.EtherType → IsOther (word_at o (ether_place o)) o
is_of_another o f (too_long long is) same = absurd (another causes.FrameTooLong (λ e. cc) is same)
is_of_another o f (no_ether_type short few is) same = absurd (another causes.Truncated (λ e. cc) is same)
is_of_another o f (not_announced there other is) same = record { addresses = there.addresses; there = there.there; ether_type = refl; other = other }
is_of_another o f (no_head there announced few is) same = absurd (another causes.Truncated (λ e. cc) is same)
is_of_another o f (out_of_range head range is) same = absurd (another causes.LengthField (λ e. cc) is same)
is_of_another o f (no_apdu head low high few is) same = absurd (another causes.Truncated (λ e. cc) is same)
is_of_another o f (in_apdu has fault) same = absurd (in_apdu_of fault same)

-- the first fault of octets of another protocol: the EtherType, or that they are too many
abbrev pub HasOtherFault : List ℕ → Type 0
HasOtherFault o = FrameFault (fault_of (ether_place o) causes.EtherType) o ⊎ FrameFault (fault_of 1600 causes.FrameTooLong) o

fault_by_length : (o : List ℕ) (t : ℕ) → IsOther t o → (b : Bool) → leb (length o) 1600 ≡ b → HasOtherFault o
fault_by_length o t is true e =
    let there : HasEtherType o = record { short = grind (arith, nat_tests, e); addresses = is.addresses; there = is.there } in
    inl (not_announced there (λ (a : IsApduType (word_at o (ether_place o))). is.other (subst IsApduType is.ether_type a)) refl)
fault_by_length o t is false e = inr (too_long (grind (arith, nat_tests, e)) refl)

pub other_fault : (o : List ℕ) (t : ℕ) → IsOther t o → HasOtherFault o
other_fault o t is = fault_by_length o t is (leb (length o) 1600) refl

pub other_is_no_frame : {A : Type 0} → OtherIsNoFrame A
other_is_no_frame o t f is spelled = elim (other_fault o t is) [
  | inl fault ↦ frame_or_fault o f _ spelled fault
  | inr fault ↦ frame_or_fault o f _ spelled fault
]

-- What is read of octets is written as octets, and so are the frames of a publisher whose addresses and members are.
use Rattle.std.proofs.Common.{◌≡◌, ℕ, zero, suc, ◌+◌, ◌-◌, ◌%◌, ◌^◌, ◌<◌, ◌≤◌, Bool, true, false, Option, Some, None, List, [], ◌∷◌, ◌++◌, length, take, drop, Result, Ok, Err, refl, arith}
use Rattle.std.specs.Prelude.{◌==◌, ℤ, pos, nat_lt, IfOk, IfSome}
use Rattle.std.specs.Int.{bytes_high_first}
use Rattle.std.proofs.lemmas.Bool.Decides.{nat_tests}
use Rattle.std.specs.List.{AllByRecursion, list_all}
use Rattle.std.proofs.lemmas.Bool.{and_parts, cond_both, ltb-true}
use Rattle.ber_core.specs.Contents.{AreVisible}
use Rattle.ber_core.specs.Fields.{Field}
use Rattle.ber_core.specs.computed.ContentsReading.{all_visible_at, boolean_at, integer_at, visible_at}
use Rattle.ber_core.specs.Length.{AreOctets}
use Rattle.ber_core.specs.computed.Reading.{◌>>=◌, header_at, refused}
use Rattle.ber_core.specs.Written.{number_size, short_integer, short_length, written_element}
use Rattle.ber_core.specs.declared.element.Header.{Header}
use Rattle.ber_core.specs.declared.fault.Fault.{Fault}
use Rattle.ber_core.specs.declared.fault.Cause.TheVariants as causes
use Rattle.ber_core.proofs.Shortest.{big_bytes_octets}
use Rattle.mms_data.specs.Contents.{cleared, least_signed, most_signed}
use Rattle.mms_data.specs.computed.ContentsReading.{bits_at, counted_if, is_few_octets, is_time_count, is_unused, simple_at, unsigned_at}
use Rattle.mms_data.specs.Data.{Data, Simple}
use Rattle.mms_data.specs.Kinds.{simple_identifier, simple_kind}
use Rattle.mms_data.specs.computed.Reading.{ReadsMembers, contents_at, contents_within, known_at, member_at, member_with, members_at, members_with}
use Rattle.mms_data.specs.Spellable.{IsTime}
use Rattle.mms_data.specs.computed.UtcReading.{utc_at}
use Rattle.mms_data.specs.Written.{simple_contents, truth_octet, written, written_all, written_time}
use Rattle.mms_data.specs.declared.kinds.Kind.{Kind}
use Rattle.mms_data.specs.declared.kinds.Kind.TheVariants as kinds
use Rattle.mms_data.specs.declared.kinds.SimpleKind.{SimpleKind}
use Rattle.mms_data.specs.declared.kinds.SimpleKind.TheVariants as of
use Rattle.mms_data.specs.declared.time.UtcTime.{UtcTime}
use Rattle.pdu_core.specs.Contents as contents
use Rattle.pdu_core.specs.Contents.{Item, a_flag}
use Rattle.pdu_core.specs.Goose.{goose_fields, goose_items, text_if}
use Rattle.pdu_core.specs.Written.{goose_contents, written_field, written_fields, written_goose, written_item}
use Rattle.pdu_core.specs.declared.goose.GoosePdu.{GoosePdu}
use Rattle.frame_core.specs.Written.{written_apdu, written_frame, written_head, written_tag, written_word}
use Rattle.frame_core.specs.declared.frame.Frame.{Frame}
use Rattle.frame_core.specs.declared.vlan_tag.VlanTag.{VlanTag}
use Rattle.publish_core.specs.Frames.{Change, Setup, frame}
use Rattle.publish_core.specs.Refusal.{CanBeSpelled}

-- ---- octets, one after the other

pub no_octets : AreOctets []
no_octets i = omega arith

pub cons_octets : (x : ℕ) (o : List ℕ) → x < 256 → AreOctets o → AreOctets (x ∷ o)
cons_octets x o small more zero = small
cons_octets x o small more (suc i) = more i

one_octet : (x : ℕ) → x < 256 → AreOctets (x ∷ [])
one_octet x small = cons_octets x [] small no_octets

append_octets : (a b : List ℕ) → AreOctets a → AreOctets b → AreOctets (a ++ b)
append_octets [] b h k = k
append_octets (x ∷ a) b h k = cons_octets x (a ++ b) (h zero) (append_octets a b (λ i. h (suc i)) k)

drop_octets : (n : ℕ) (o : List ℕ) → AreOctets o → AreOctets (drop n o)
drop_octets zero o h = h
drop_octets (suc n) [] h = no_octets
drop_octets (suc n) (x ∷ o) h = drop_octets n o (λ i. h (suc i))

take_octets : (n : ℕ) (o : List ℕ) → AreOctets o → AreOctets (take n o)
take_octets (suc n) (x ∷ o) h = cons_octets x (take n o) (h zero) (take_octets n o (λ i. h (suc i)))
take_octets _ _ _ = no_octets

length_octets : (n : ℕ) → AreOctets (short_length n)
unfolding short_length
length_octets n =
    cond_both (nat_lt n 128) _ _ AreOctets (λ short. one_octet n (grind (arith, nat_tests)))
    (λ long. cons_octets (128 + number_size n) (bytes_high_first (number_size n) n) (grind arith) (big_bytes_octets (number_size n) n))

element_octets : (id : ℕ) (contents : List ℕ) → id < 256 → AreOctets contents → AreOctets (written_element id contents)
unfolding written_element
element_octets id contents small h =
    cons_octets id (short_length (length contents) ++ contents) small (append_octets (short_length (length contents)) contents (length_octets (length contents)) h)

integer_octets : (n : ℤ) → AreOctets (short_integer n)
unfolding short_integer
integer_octets n = big_bytes_octets _ _

time_octets : (t : UtcTime) → t.quality < 256 → AreOctets (written_time t)
time_octets t small =
    append_octets (bytes_high_first 4 t.seconds) (bytes_high_first 3 t.fraction ++ t.quality ∷ []) (big_bytes_octets 4 t.seconds)
    (append_octets (bytes_high_first 3 t.fraction) (t.quality ∷ []) (big_bytes_octets 3 t.fraction) (one_octet t.quality small))

-- ---- what is read

behind : {X Y : Type 0} (P : X → Type 0) (Q : Y → Type 0) (r : Result X Fault) (f : X → Result Y Fault) → IfOk r P → ((x : X) → P x → IfOk (f x) Q) → IfOk (r >>= f) Q
behind P Q (Ok x) f p g = g x p
behind P Q (Err e) f p g = tt

behind_any : {X Y : Type 0} (Q : Y → Type 0) (r : Result X Fault) (f : X → Result Y Fault) → ((x : X) → IfOk (f x) Q) → IfOk (r >>= f) Q
behind_any Q (Ok x) f g = g x
behind_any Q (Err e) f g = tt

truth_octets : (b : Bool) → AreOctets (truth_octet b ∷ [])
truth_octets true = one_octet 255 (omega arith)
truth_octets false = one_octet 0 (omega arith)

cleared_octets : (unused : ℕ) (o : List ℕ) → AreOctets o → AreOctets (cleared unused o)
cleared_octets unused [] h = h
cleared_octets unused (last ∷ []) h = let small : last < 256 = h zero in one_octet (last - last % 2 ^ unused) (omega (arith, small))
cleared_octets unused (first ∷ next ∷ more) h = cons_octets first (cleared unused (next ∷ more)) (h zero) (cleared_octets unused (next ∷ more) (λ i. h (suc i)))

abbrev IsWritten : Simple → Type 0
IsWritten v = AreOctets (simple_contents v)

bits_octets : (s : ℕ) (c : List ℕ) → AreOctets c → IfOk (bits_at s c) (λ x. (x.0 < 256) × AreOctets x.1)
bits_octets s [] h = tt
bits_octets s (unused ∷ more) h =
    cond_both (is_unused unused more) (Ok (unused, more)) (refused s causes.BitUnused) (λ (r : Result (ℕ × List ℕ) Fault). IfOk r (λ x. (x.0 < 256) × AreOctets x.1)) (λ good. (h zero, λ i. h (suc i)))
    (λ bad. tt)

counted_octets : (is_good : Bool) (p : ℕ) (c : List ℕ) → AreOctets c → IfOk (counted_if is_good p c) AreOctets
counted_octets true p c h = h
counted_octets false p c h = tt

visible_read : (s : ℕ) (c : List ℕ) → AreOctets c → IfOk (visible_at s c) AreOctets
visible_read s c h = behind_any AreOctets (all_visible_at s c) (λ _. Ok c) (λ _. h)

utc_octets : (p : ℕ) (c : List ℕ) → AreOctets c → IfOk (utc_at p c) (λ t. t.quality < 256)
unfolding utc_at
utc_octets p c h = cond_both (length c == 8) _ _ (λ (r : Result UtcTime Fault). IfOk r (λ t. t.quality < 256)) (λ good. h 7) (λ bad. tt)

simple_octets : (k : SimpleKind) (p s : ℕ) (c : List ℕ) → AreOctets c → IfOk (simple_at k p s c) IsWritten
unfolding simple_at
simple_octets of.Boolean p s c h = behind_any IsWritten (boolean_at p c) _ truth_octets
simple_octets of.BitString p s c h = behind _ IsWritten (bits_at s c) _ (bits_octets s c h) (λ x w. cons_octets x.0 (cleared x.0 x.1) w.0 (cleared_octets x.0 x.1 w.1))
simple_octets of.Integer p s c h = behind_any IsWritten (integer_at least_signed most_signed p s c) _ integer_octets
simple_octets of.Unsigned p s c h = behind_any IsWritten (unsigned_at p s c) _ (λ n. integer_octets (pos n))
simple_octets of.FloatingPoint p s c h = behind AreOctets IsWritten (counted_if (is_few_octets (length c)) p c) _ (counted_octets (is_few_octets (length c)) p c h) (λ o w. w)
simple_octets of.VisibleString p s c h = behind AreOctets IsWritten (visible_at s c) _ (visible_read s c h) (λ o w. w)
simple_octets of.BinaryTime p s c h = behind AreOctets IsWritten (counted_if (is_time_count (length c)) p c) _ (counted_octets (is_time_count (length c)) p c h) (λ o w. w)
simple_octets of.UtcTime p s c h = behind _ IsWritten (utc_at p c) _ (utc_octets p c h) time_octets
simple_octets _ _ _ _ h = h

identifier_small : (k : SimpleKind) → simple_identifier k < 256
identifier_small of.Boolean = omega arith
identifier_small _ = omega arith

abbrev Reads : ReadsMembers → Type 0
Reads members = (p : ℕ) (o : List ℕ) → AreOctets o → IfOk (members p o) (λ ds. AreOctets (written_all ds))

contents_octets : (members : ReadsMembers) → Reads members → (k : Kind) (h : Header) (c : List ℕ) → AreOctets c → IfOk (contents_at members k h c) (λ d. AreOctets (written d))
contents_octets members each kinds.Array h c small = behind _ _ (members h.contents_from c) _ (each h.contents_from c small) (λ ds w. element_octets 0xa1 (written_all ds) (omega arith) w)
contents_octets members each kinds.Structure h c small = behind _ _ (members h.contents_from c) _ (each h.contents_from c small) (λ ds w. element_octets 0xa2 (written_all ds) (omega arith) w)
contents_octets members each (kinds.Simple k) h c small =
    behind IsWritten _ (simple_at k h.at h.contents_from c) _ (simple_octets k h.at h.contents_from c small)
    (λ v w. element_octets (simple_identifier (simple_kind v)) (simple_contents v) (identifier_small (simple_kind v)) w)

abbrev ReadsMember : (ℕ → List ℕ → Result (Data × ℕ) Fault) → Type 0
ReadsMember member = (p : ℕ) (o : List ℕ) → AreOctets o → IfOk (member p o) (λ x. AreOctets (written x.0))

member_octets : (members : ReadsMembers) → Reads members → ReadsMember (member_with members)
unfolding member_with
member_octets members each p o small =
    behind_any _ (known_at p o) _ (λ k.
    behind_any _ (header_at p o) _ (λ h.
    behind _ _ (contents_at members k h (contents_within h o)) _
    (contents_octets members each k h (contents_within h o) (take_octets _ (drop (h.contents_from - h.at) o) (drop_octets (h.contents_from - h.at) o small))) (λ d w. w)))

members_octets : (member : ℕ → List ℕ → Result (Data × ℕ) Fault) → ReadsMember member → (n : ℕ) → Reads (members_with member n)
unfolding members_with
members_octets member each n p [] small = no_octets
members_octets member each zero p (id ∷ more) small = tt
members_octets member each (suc n) p (id ∷ more) small =
    behind _ _ (member p (id ∷ more)) _ (each p (id ∷ more) small) (λ x w.
    behind _ _ (members_with member n x.1 (drop (x.1 - p) (id ∷ more))) _ (members_octets member each n x.1 (drop (x.1 - p) (id ∷ more)) (drop_octets (x.1 - p) (id ∷ more) small)) (λ ds v.
    append_octets (written x.0) (written_all ds) w v))

depth_octets : (depth : ℕ) → ReadsMember (member_at depth)
unfolding member_at
depth_octets zero p o small = tt
depth_octets (suc depth) p o small = member_octets (λ q c. members_with (member_at depth) (length c) q c) (λ q c. members_octets (member_at depth) (depth_octets depth) (length c) q c) p o small

-- members that are read of octets are written as octets
pub read_octets : (depth : ℕ) → Reads (members_at depth)
unfolding members_at
read_octets depth p o small = members_octets (member_at depth) (depth_octets depth) (length o) p o small

-- ---- what is published

visible_octets : (text : List ℕ) → AreVisible text → AreOctets text
visible_octets [] w = no_octets
visible_octets (x ∷ text) w = let most : x ≤ 0x7e = w.0.1 in cons_octets x text (omega (arith, most)) (visible_octets text w.1)

abbrev HasOctets : Option Item → Type 0
HasOctets v = IfSome v (λ x. AreOctets (written_item x))

text_octets : (text : Option (List ℕ)) → IfSome text AreVisible → HasOctets (text_if text)
text_octets None w = tt
text_octets (Some text) w = visible_octets text w

flag_octets : (b : Bool) → HasOctets (Some (a_flag b))
flag_octets true = one_octet 255 (omega arith)
flag_octets false = one_octet 0 (omega arith)

field_octets : (id : ℕ) (v : Option Item) → id < 256 → HasOctets v → AreOctets (written_field id v)
field_octets id None small w = no_octets
field_octets id (Some x) small w = element_octets id (written_item x) small w

fields_octets : (gs : List (Field contents.Kind Item)) (vs : List (Option Item)) → list_all (λ g. nat_lt g.identifier 256) gs ≡ true → AllByRecursion HasOctets vs → AreOctets (written_fields gs vs)
fields_octets (g ∷ gs) (v ∷ vs) small w =
    let parts = and_parts (nat_lt g.identifier 256) (list_all (λ h. nat_lt h.identifier 256) gs) small in
    append_octets (written_field g.identifier v) (written_fields gs vs) (field_octets g.identifier v (ltb-true g.identifier 256 parts.0) w.0) (fields_octets gs vs parts.1 w.1)
fields_octets _ _ _ _ = no_octets

word_octets : (n : ℕ) → AreOctets (written_word n)
word_octets n = big_bytes_octets 2 n

tag_octets : (tag : Option VlanTag) → AreOctets (written_tag tag)
tag_octets None = no_octets
tag_octets (Some tag) = append_octets (written_word 0x8100) (written_word tag.control) (word_octets 0x8100) (word_octets tag.control)

goose_octets : {A : Type 0} (q : GoosePdu A) → AreVisible q.gocb_ref → AreVisible q.dat_set → IfSome q.go_id AreVisible → IsTime q.t → AreOctets (written_all q.members) → AreOctets (written_goose q)
goose_octets q gocb_ref dat_set go_id t members =
    element_octets 0x61 (goose_contents q) (omega arith)
    (fields_octets goose_fields (goose_items q) refl (search (visible_octets, text_octets, integer_octets, flag_octets, time_octets q.t t.2)))

head_octets : {A : Type 0} (f : Frame A) (size : ℕ) → AreOctets f.destination → AreOctets f.source → AreOctets (written_head f size)
head_octets f size to from = search (append_octets, tag_octets, word_octets) depth 9

-- so is the frame of a change that can be spelled, between addresses that are octets
pub frame_octets : {A : Type 0} (p : Setup A) (state k : ℕ) (change : Change) → AreOctets p.control.destination → AreOctets p.control.source → CanBeSpelled p.control change → AreOctets (written_all change.values) → AreOctets (written_frame (frame p.control p.table state change k))
frame_octets {A} p state k change to from spelled values =
    let f = frame p.control p.table state change k in
    append_octets (written_head f (length (written_apdu f.apdu))) (written_apdu f.apdu ++ []) (head_octets f (length (written_apdu f.apdu)) to from)
    (append_octets (written_apdu f.apdu) [] (goose_octets {A = A} _ spelled.gocb_ref spelled.dat_set spelled.go_id spelled.t values) no_octets)

-- Captures up to their first fault, and what is read of them.
use Rattle.std.proofs.Common.{◌≡◌, ◌⊎◌, ℕ, ◌+◌, ◌≤◌, Bool, true, false, ltb, eqb, inl, inr, List, [], ◌∷◌, ◌++◌, length, take, drop, Option, Some, None, Ok, Err, ap, sym, ◌∙◌, refl, subst, arith}
use Rattle.std.specs.Prelude.{if◌then◌else◌}
use Rattle.std.proofs.lemmas.Bool.{eqb-false, eqb-true, false_from_ne_true, le-ltb, lt-ltb, ltb-false, ltb-true}
use Rattle.std.proofs.lemmas.Bool.Decides.{nat_tests}
use Rattle.std.proofs.lemmas.List.{length-append, length-take-le, take-append-drop, take-append-le, take_at, drop_at}
use Rattle.list_core.specs.declared.device.InputEnd.{InputEnd}
use Rattle.list_core.specs.declared.device.InputEnd.TheVariants.{End, Failed, Open}
use Rattle.list_core.specs.Lines.{Stop, faulty, finished, unfinished}
use Rattle.capture_core.specs.Numbers.{number_at}
use Rattle.capture_core.specs.Header.{form_of, header_of}
use Rattle.capture_core.specs.Capture.{CaptureRecord, cut, fault_in, records_of}
use Rattle.capture_core.specs.Packets.{Numbered, Packet, events_of, packets_of_records, stopped}
use Rattle.capture_core.specs.Blocks.{Block, BlockRead, begins, packets_of_blocks, section_header, settled_after}
use Rattle.capture_core.specs.Captured.{captured_packets, packets_behind_header, packets_behind_section, packets_by_magic, section_packets, unsettled}
use Rattle.capture_core.specs.Spelling.{numbered, whole_capture}
use Rattle.capture_core.specs.SpelledBlocks.{packets_said}
use Rattle.capture_core.specs.FirstFault.{BehindBlocks, BehindRecords, BlockFault, HasMagic, IsCaptureFault, NextFault, RecordFault, SectionFault, StartFault, at_start, before_next, behind_blocks, behind_records, ends_in_first_four, ends_in_header, in_first_section, in_next, no_form, no_header, settled_behind, too_many}
use Rattle.capture_core.specs.Laws.{EndedIsWholeOrFaulty, FirstFaultEndsEvents, FirstFaultIsOne, FirstFaultIsRead, HasFirstFault, ReadFaultIsFirst, SpellsPackets}
use Rattle.capture_core.specs.declared.form.CaptureForm.{CaptureForm}
use Rattle.capture_core.specs.declared.form.OctetOrder.{OctetOrder}
use Rattle.capture_core.specs.declared.form.OctetOrder.TheVariants.{BigEndian}
use Rattle.capture_core.specs.declared.capture_fault.CaptureCause.{CaptureCause}
use Rattle.capture_core.specs.declared.capture_fault.CaptureCause.TheVariants as cause
use Rattle.capture_core.specs.declared.capture_fault.CaptureFault.{CaptureFault}
use Rattle.capture_core.proofs.NumberPlaces.{number_front}
use Rattle.capture_core.proofs.BlocksSpelled.{number_taken, read_section, spelled_section}
use Rattle.capture_core.proofs.SpelledPackets.{form_taken, no_form as other_magic, packets_read, packets_spelled}
use Rattle.capture_core.proofs.StopsTold.{CaptureMeans, capture_means}
use Rattle.capture_core.proofs.FaultyHeaders.{header_is, header_refused, header_told, magic_given, magic_is, magic_told}
use Rattle.capture_core.proofs.FaultyBlocks.{ReadAs, StopsAs, cut_as, cut_is, fault_as, section_as, section_told}
use Rattle.capture_core.proofs.FaultySections.{AreReadTo, blocks_refused, blocks_to_fault, count_behind, counted_behind, next_shift, said_finished}
use Rattle.capture_core.proofs.FaultyRecords.{AreReadTo as RecordsReadTo, records_refused, records_to_fault}

-- ---- counts

numbered_size : (n : ℕ) (rs : List CaptureRecord) → length (packets_of_records (record { records = numbered n rs; stop = finished })).items ≡ length rs
numbered_size n [] = refl
numbered_size n (r ∷ rs) = let t = numbered_size (n + 1) rs in omega (arith, t)

-- ---- what is read of a capture with a fault

-- no magic number of the classic form
no_magic : (o : List ℕ) (found : Option CaptureForm) → 4 ≤ length o → ((form : CaptureForm) → ¬ HasMagic form o) → form_of (take 4 o) ≡ found → found ≡ None
no_magic o None h n e = refl
no_magic o (Some form) h n e = absurd (n form (magic_given o form 4 (omega arith) h (magic_is (take 4 o) form e)))

has_magic : (o : List ℕ) (form : CaptureForm) → 4 ≤ length o → HasMagic form o → form_of (take 4 o) ≡ Some form
has_magic o form h m = form_taken o h ∙ magic_told o form h m

stopped_as : (why form : CaptureCause) → why ≡ form → ◌≡◌ {A = Numbered Packet} (stopped (fault_in 0 form)) (stopped (fault_in 0 why))
stopped_as why form e = ap (λ (k : CaptureCause). stopped (fault_in 0 k)) (sym e)

start_refused : (z : InputEnd) (why : CaptureCause) (o : List ℕ) → StartFault z why o → captured_packets z o ≡ stopped (fault_in 0 why)
start_refused z why o (ends_in_first_four h e) = rw (lt-ltb (length o) 4 h) (ap (λ (k : Stop CaptureFault). stopped k) (cut_is z 0 why e))
start_refused z why o (no_form h n t e) =
    let none = no_magic o (form_of (take 4 o)) h n refl in
    let other : eqb (number_at BigEndian 4 o 0) 0x0a0d0d0a ≡ false = false_from_ne_true (eqb (number_at BigEndian 4 o 0) 0x0a0d0d0a) (λ f. t (eqb-true (number_at BigEndian 4 o 0) 0x0a0d0d0a f)) in
    rw (le-ltb (length o) 4 h) (ap (λ (f : Option CaptureForm). packets_by_magic f z o) none ∙ rw other (stopped_as why cause.CaptureHeader e))
start_refused z why o (ends_in_header form h m s e) =
    rw (le-ltb (length o) 4 h) (ap (λ (f : Option CaptureForm). packets_by_magic f z o) (has_magic o form h m) ∙ rw (lt-ltb (length o) 24 s) (ap (λ (k : Stop CaptureFault). stopped k) (cut_is z 0 why e)))
start_refused z why o (no_header form h m n e) =
    let four : 4 ≤ length o = omega (arith, h) in
    let none = header_refused o form (header_of (take 24 o)) h m n refl in
    rw (le-ltb (length o) 4 four) (ap (λ (f : Option CaptureForm). packets_by_magic f z o) (has_magic o form four m)
    ∙ rw (le-ltb (length o) 24 h) (ap (λ (f : Option CaptureForm). packets_behind_header f z 999999999999999998 (drop 24 o)) none ∙ stopped_as why cause.CaptureHeader e))
start_refused z why o (in_first_section h t f) =
    let none = other_magic o h t in
    let same : eqb (number_at BigEndian 4 o 0) 0x0a0d0d0a ≡ true = grind (arith, nat_tests, t) in
    rw (le-ltb (length o) 4 h) (ap (λ (k : Option CaptureForm). packets_by_magic k z o) none
    ∙ rw same (ap (λ (r : BlockRead). packets_behind_section r z 999999999999999997 o) (section_told z 0 cause.CaptureHeader why o f)))

behind_records_read : (z : InputEnd) (form : CaptureForm) (rs : List CaptureRecord) (rest o : List ℕ) (why : CaptureCause) → BehindRecords form rs rest o → NextFault z (length rs) 999999999999999998 (RecordFault z form) why rest →
    captured_packets z o ≡ packets_of_records (record { records = numbered 0 rs; stop = fault_in (length rs + 1) why })
behind_records_read z form rs rest o why b f =
    let header = b.header in
    let behind = b.records ++ rest in
    let w = b.is_header.size in
    let all = header ++ behind in
    let four : 4 ≤ length all = simp length-append (omega (arith, w)) in
    let long : 24 ≤ length all = simp length-append (omega (arith, w)) in
    let magic : form_of (take 4 all) ≡ Some form = ap form_of (take-append-le 4 header behind (omega (arith, w))) ∙ form_taken header (omega (arith, w)) ∙ magic_told header form (omega (arith, w)) b.is_header.magic in
    let front : header_of (take 24 all) ≡ Some form = ap header_of (take_at header behind 24 w) ∙ header_told header form b.is_header in
    let past : drop 24 all ≡ behind = drop_at header behind 24 w in
    ap (captured_packets z) b.parts
    ∙ rw (le-ltb (length all) 4 four) (ap (λ (k : Option CaptureForm). packets_by_magic k z all) magic
    ∙ rw (le-ltb (length all) 24 long) (ap (λ (k : Option CaptureForm). packets_behind_header k z 999999999999999998 (drop 24 all)) front
    ∙ ap (λ (t : List ℕ). packets_of_records (records_of form z 0 999999999999999998 t)) past
    ∙ ap packets_of_records (records_refused form z 999999999999999998 rs b.records rest why b.are_records f)))

-- one came before them
less_one : (z : InputEnd) (came : ℕ) (Has : CaptureCause → List ℕ → Type 0) (why : CaptureCause) (rest : List ℕ) → NextFault z (came + 1) 999999999999999998 Has why rest → NextFault z came 999999999999999997 Has why rest
less_one z came Has why rest f = shifted z (came + 1) 999999999999999998 came 999999999999999997 Has why rest (omega arith) (omega arith) f
  where
    shifted : (z : InputEnd) (more limit came most : ℕ) (Has : CaptureCause → List ℕ → Type 0) (why : CaptureCause) (rest : List ℕ) → more ≡ came + 1 → limit ≡ most + 1 → NextFault z more limit Has why rest → NextFault z came most Has why rest
    shifted z more limit came most Has why rest p q (before_next h e f w) = before_next (omega (arith, p, q, h)) e f w
    shifted z more limit came most Has why rest p q (too_many h s w) = too_many (omega (arith, p, q, h)) s w
    shifted z more limit came most Has why rest p q (in_next h s f) = in_next (omega (arith, p, q, h)) s f

behind_blocks_read : (z : InputEnd) (order : OctetOrder) (bs : List Block) (rest o : List ℕ) (why : CaptureCause) → BehindBlocks order bs rest o →
    NextFault z (length bs + 1) 999999999999999998 (BlockFault z (settled_behind (settled_after unsettled (begins order)) bs)) why rest →
    captured_packets z o ≡ record { items = (packets_said 0 bs).items; stop = fault_in (count_behind 0 bs + 1) why }
behind_blocks_read z order bs rest o why b f =
    let s = settled_after unsettled (begins order) in
    let header = b.header in
    let behind = b.blocks ++ rest in
    let size = b.is_header.at_least in
    let all = header ++ behind in
    let room : 4 ≤ length header = omega (arith, size) in
    let four : 4 ≤ length all = simp length-append (omega (arith, room)) in
    let magic : form_of (take 4 all) ≡ None = ap form_of (take-append-le 4 header behind room) ∙ other_magic header room b.type in
    let type : number_at BigEndian 4 all 0 ≡ 0x0a0d0d0a = number_front BigEndian 4 header behind 0 (omega (arith, room)) ∙ b.type in
    let same : eqb (number_at BigEndian 4 all 0) 0x0a0d0d0a ≡ true = grind (arith, nat_tests, type) in
    ap (captured_packets z) b.parts
    ∙ rw (le-ltb (length all) 4 four) (ap (λ (k : Option CaptureForm). packets_by_magic k z all) magic
    ∙ rw same (ap (λ (r : BlockRead). packets_behind_section r z 999999999999999997 all) (spelled_section z 0 cause.CaptureHeader order header behind b.is_header)
    ∙ ap (packets_of_blocks z s 0 999999999999999997) (drop_at header behind (length header) refl)
    ∙ blocks_refused z s 0 999999999999999997 bs b.blocks rest why b.are_blocks (less_one z (length bs) (BlockFault z (settled_behind s bs)) why rest f)))

-- the same packets and the same fault
faulty_same : (es before : List (ℕ × Packet)) (n : ℕ) (f : CaptureFault) → before ≡ es → f.number ≡ n → ◌≡◌ {A = Numbered Packet} (record { items = es; stop = fault_in n f.cause }) (record { items = before; stop = faulty f })
faulty_same es before n f p q =
    ap (λ (k : List (ℕ × Packet)). record { items = k; stop = fault_in n f.cause }) (sym p) ∙ ap (λ (k : ℕ). record { items = before; stop = fault_in k f.cause }) (sym q)

pub first_fault_read : FirstFaultIsRead
first_fault_read z before f o (at_start s n e) = start_refused z f.cause o s ∙ faulty_same [] before 0 f e n
first_fault_read z before f o (behind_records form rs rest b next n e) =
    let packets = (packets_of_records (whole_capture rs)).items in
    let size : length before ≡ length rs = ap length e ∙ numbered_size 0 rs in
    behind_records_read z form rs rest o f.cause b next ∙ faulty_same packets before (length rs + 1) f e (n ∙ ap (λ (k : ℕ). k + 1) size)
first_fault_read z before f o (behind_blocks order bs rest b next n e) =
    let packets = (packets_said 0 bs).items in
    let count = counted_behind 0 bs in
    let size : length before ≡ length packets = ap length e in
    behind_blocks_read z order bs rest o f.cause b next ∙ faulty_same packets before (count_behind 0 bs + 1) f e (omega (arith, n, size, count))

pub first_fault_ends_events : {A : Type 0} → FirstFaultEndsEvents A
first_fault_ends_events {A = A} z before f o h = ap (λ (l : Numbered Packet). events_of {A = A} l) (first_fault_read z before f o h)

-- ---- a fault by which reading stops

-- what was read of these octets has their first fault, if it stops by one
Faulty : InputEnd → CaptureFault → List ℕ → Numbered Packet → Type 0
Faulty z f o l = l.stop ≡ faulty f → IsCaptureFault z l.items f o

by_test : (z : InputEnd) (f : CaptureFault) (o : List ℕ) (b : Bool) (x y : Numbered Packet) → (b ≡ true → Faulty z f o x) → (b ≡ false → Faulty z f o y) → Faulty z f o (if b then x else y)
by_test z f o true x y p q = p refl
by_test z f o false x y p q = q refl

start_faulty : (z : InputEnd) (f : CaptureFault) (o : List ℕ) (stop : Stop CaptureFault) → StopsAs (λ why. StartFault z why o) 0 stop → Faulty z f o (stopped stop)
unfolding Faulty
start_faulty z f o stop h e = let t = h f e in at_start t.1 t.0 refl

section_faulty : (z : InputEnd) (f : CaptureFault) (o : List ℕ) (r : BlockRead) → 4 ≤ length o → number_at BigEndian 4 o 0 ≡ 0x0a0d0d0a → section_header z 0 cause.CaptureHeader o ≡ r → Faulty z f o (packets_behind_section r z 999999999999999997 o)
unfolding Faulty AreReadTo
section_faulty z f o (Err stop) h t e g =
    let Has = λ (why : CaptureCause). SectionFault z cause.CaptureHeader why o in
    let all_read : ReadAs Has 0 (section_header z 0 cause.CaptureHeader o) = section_as z 0 cause.CaptureHeader o in
    let told = subst (λ (r : BlockRead). ReadAs Has 0 r) e all_read f g in
    at_start (in_first_section h t told.1) told.0 refl
section_faulty z f o (Ok (b, size)) h t e g =
    let (order, is, header, l) = read_section z 0 cause.CaptureHeader o b size e in
    let all : length (take size o) ≡ size = length-take-le size o l in
    let least = header.at_least in
    let room : 4 ≤ size = omega (arith, all, least) in
    let s = settled_after unsettled (begins order) in
    let same : packets_of_blocks z (settled_after unsettled b) 0 999999999999999997 (drop size o) ≡ packets_of_blocks z s 0 999999999999999997 (drop size o) =
    ap (λ (k : Block). packets_of_blocks z (settled_after unsettled k) 0 999999999999999997 (drop size o)) is in
    let r = blocks_to_fault 999999999999999997 z s 0 f (drop size o) (sym (ap (λ (k : Numbered Packet). k.stop) same) ∙ g) in
    let items = ap (λ (k : Numbered Packet). k.items) same ∙ r.7 in
    let count = counted_behind 0 r.0 in
    let number = r.6 in
    let size_of = ap length items in
    behind_blocks order r.0 r.2
    (record {
      header = take size o;
      blocks = r.1;
      parts = sym (take-append-drop size o) ∙ ap (λ (k : List ℕ). take size o ++ k) r.3;
      type = number_taken BigEndian 4 0 size o room l ∙ t;
      is_header = header;
      are_blocks = r.4;
    })
    (next_shift z (length r.0) 999999999999999997 (length r.0 + 1) 999999999999999998 (BlockFault z (settled_behind s r.0)) f.cause r.2 refl (omega arith) r.5)
    (omega (arith, number, count, size_of)) items

records_faulty : (z : InputEnd) (f : CaptureFault) (o : List ℕ) (form : CaptureForm) → 24 ≤ length o → header_of (take 24 o) ≡ Some form → Faulty z f o (packets_of_records (records_of form z 0 999999999999999998 (drop 24 o)))
unfolding Faulty RecordsReadTo
records_faulty z f o form h e g =
    let w : length (take 24 o) ≡ 24 = length-take-le 24 o h in
    let r = records_to_fault form 999999999999999998 z 0 f (drop 24 o) g in
    let items = ap (λ (k : List (ℕ × CaptureRecord)). (packets_of_records (record { records = k; stop = finished })).items) r.7 in
    let count = numbered_size 0 r.0 in
    let number = r.6 in
    let size_of = ap length items in
    behind_records form r.0 r.2
    (record {
      header = take 24 o;
      records = r.1;
      parts = sym (take-append-drop 24 o) ∙ ap (λ (k : List ℕ). take 24 o ++ k) r.3;
      is_header = header_is (take 24 o) form w e;
      are_records = r.4;
    })
    r.5 (omega (arith, number, count, size_of)) items

header_faulty : (z : InputEnd) (f : CaptureFault) (o : List ℕ) (form : CaptureForm) (found : Option CaptureForm) → 24 ≤ length o → HasMagic form o → header_of (take 24 o) ≡ found →
    Faulty z f o (packets_behind_header found z 999999999999999998 (drop 24 o))
unfolding Faulty
header_faulty z f o form None h m e =
    start_faulty z f o (fault_in 0 cause.CaptureHeader)
    (fault_as (λ why. StartFault z why o) 0 cause.CaptureHeader (no_header form h m (λ k. absurd (none_some form (sym e ∙ header_told (take 24 o) form k))) refl))
  where
    none_some : (form : CaptureForm) → ◌≡◌ {A = Option CaptureForm} None (Some form) → ⊥
    none_some form e = cc
header_faulty z f o form (Some g) h m e = records_faulty z f o g h e

magic_faulty : (z : InputEnd) (f : CaptureFault) (o : List ℕ) (found : Option CaptureForm) → 4 ≤ length o → form_of (take 4 o) ≡ found → Faulty z f o (packets_by_magic found z o)
magic_faulty z f o None h e =
    by_test z f o (eqb (number_at BigEndian 4 o 0) 0x0a0d0d0a) (section_packets z o) (stopped (fault_in 0 cause.CaptureHeader))
    (λ b. section_faulty z f o (section_header z 0 cause.CaptureHeader o) h (eqb-true (number_at BigEndian 4 o 0) 0x0a0d0d0a b) refl)
    (λ b. start_faulty z f o (fault_in 0 cause.CaptureHeader)
    (fault_as (λ why. StartFault z why o) 0 cause.CaptureHeader (no_form h (λ form m. none_some form (sym e ∙ has_magic o form h m)) (eqb-false (number_at BigEndian 4 o 0) 0x0a0d0d0a b) refl)))
  where
    none_some : (form : CaptureForm) → ◌≡◌ {A = Option CaptureForm} None (Some form) → ⊥
    none_some form e = cc
magic_faulty z f o (Some form) h e =
    let m = magic_given o form 4 (omega arith) h (magic_is (take 4 o) form e) in
    by_test z f o (ltb (length o) 24) (stopped (cut z 0)) (packets_behind_header (header_of (take 24 o)) z 999999999999999998 (drop 24 o))
    (λ b. start_faulty z f o (cut z 0) (cut_as (λ why. StartFault z why o) z 0 (λ why k. ends_in_header form h m (ltb-true (length o) 24 b) k)))
    (λ b. header_faulty z f o form (header_of (take 24 o)) (ltb-false (length o) 24 b) m refl)

captured_faulty : (z : InputEnd) (f : CaptureFault) (o : List ℕ) → Faulty z f o (captured_packets z o)
captured_faulty z f o =
    by_test z f o (ltb (length o) 4) (stopped (cut z 0)) (packets_by_magic (form_of (take 4 o)) z o)
    (λ b. start_faulty z f o (cut z 0) (cut_as (λ why. StartFault z why o) z 0 (λ why e. ends_in_first_four (ltb-true (length o) 4 b) e)))
    (λ b. magic_faulty z f o (form_of (take 4 o)) (ltb-false (length o) 4 b) refl)

pub read_fault_first : ReadFaultIsFirst
unfolding Faulty
read_fault_first z f o e = captured_faulty z f o e

-- ---- one fault, or none

same_fault : (f g : CaptureFault) → ◌≡◌ {A = Stop CaptureFault} (faulty f) (faulty g) → f ≡ g
same_fault f g e = cc

pub first_fault_one : FirstFaultIsOne
first_fault_one z before others f g o a b =
    let same = sym (first_fault_read z before f o a) ∙ first_fault_read z others g o b in
    (ap (λ (l : Numbered Packet). l.items) same, same_fault f g (ap (λ (l : Numbered Packet). l.stop) same))

-- octets of a source that has ended have been judged
judged : (z : InputEnd) (o : List ℕ) (stop : Stop CaptureFault) → (captured_packets z o).stop ≡ stop → (z ≡ Open → ⊥) → ((z ≡ End) × ((l : Numbered Packet) × SpellsPackets l o)) ⊎ HasFirstFault z o
judged z o finished e n = let t = packets_spelled z o e in inl (t.0, (captured_packets z o, t.1))
judged z o (faulty f) e n = inr ((captured_packets z o).items, f, read_fault_first z f o e)
judged z o unfinished e n = absurd (n (open_is z (captured_packets z o).stop e (capture_means z o)))
  where
    open_is : (z : InputEnd) (stop : Stop CaptureFault) → stop ≡ unfinished → CaptureMeans stop z → z ≡ Open
    open_is z finished e m = cc
    open_is z (faulty f) e m = cc
    open_is z unfinished e m = m

whole_stops : (l : Numbered Packet) (o : List ℕ) → SpellsPackets l o → l.stop ≡ finished
whole_stops l o (inl (rs, s, is)) = ap (λ (k : Numbered Packet). k.stop) is
whole_stops l o (inr (bs, s, is)) = ap (λ (k : Numbered Packet). k.stop) is ∙ said_finished 0 bs

whole_or_faulty : (o : List ℕ) → ((l : Numbered Packet) × SpellsPackets l o) ⊎ HasFirstFault End o
whole_or_faulty o = elim (judged End o (captured_packets End o).stop refl (λ e. cc)) [
  | inl t ↦ inl t.1
  | inr t ↦ inr t
]

not_both : (o : List ℕ) (l : Numbered Packet) → SpellsPackets l o → HasFirstFault End o → ⊥
not_both o l s (before, f, is) =
    let same = sym (packets_read l o s) ∙ first_fault_read End before f o is in
    finished_faulty f (sym (whole_stops l o s) ∙ ap (λ (k : Numbered Packet). k.stop) same)
  where
    finished_faulty : (f : CaptureFault) → ◌≡◌ {A = Stop CaptureFault} finished (faulty f) → ⊥
    finished_faulty f e = cc

failed_faulty : (o : List ℕ) → HasFirstFault Failed o
failed_faulty o = elim (judged Failed o (captured_packets Failed o).stop refl (λ e. cc)) [
  | inl t ↦ absurd (let wrong = t.0 in cc)
  | inr t ↦ t
]

pub ended_whole_or_faulty : EndedIsWholeOrFaulty
ended_whole_or_faulty = (whole_or_faulty, not_both, failed_faulty)

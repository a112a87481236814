-- Octets that are a capture of packets, in either form, and captures that end without a fault.
use Rattle.std.proofs.Common.{◌≡◌, ℕ, ◌+◌, ◌*◌, ◌<◌, ◌≤◌, Bool, true, false, ltb, eqb, inl, inr, List, [], ◌∷◌, ◌++◌, length, take, drop, Option, Some, None, Ok, Err, ap, sym, ◌∙◌, refl, subst, arith}
use Rattle.std.specs.Prelude.{if◌then◌else◌}
use Rattle.std.proofs.lemmas.List.{length-append, length-take-le, take-append-drop, take-append-le, take_at, drop_at}
use Rattle.std.proofs.lemmas.Bool.Decides.{nat_tests}
use Rattle.list_core.specs.declared.device.InputEnd.{InputEnd}
use Rattle.list_core.specs.declared.device.InputEnd.TheVariants.{End}
use Rattle.list_core.specs.Lines.{Stop, finished}
use Rattle.capture_core.specs.Numbers.{number_at}
use Rattle.capture_core.specs.Header.{form_of, header_of, read_in}
use Rattle.capture_core.specs.Capture.{CaptureRecord, cut, fault_in}
use Rattle.capture_core.specs.Packets.{Numbered, Packet, packets_of_records, stopped}
use Rattle.capture_core.specs.Blocks.{Block, BlockRead, begins, packets_of_blocks, section_header, settled_after}
use Rattle.capture_core.specs.Captured.{captured_packets, packets_behind_header, packets_behind_section, packets_by_magic, section_packets, unsettled}
use Rattle.capture_core.specs.Spelling.{SpellsRecords, whole_capture}
use Rattle.capture_core.specs.SpelledBlocks.{IsSectionHeader, SpellsBlocks, packets_said}
use Rattle.capture_core.specs.Laws.{ReadPacketsAreSpelled, SpelledPacketsAreRead, SpellsPackets}
use Rattle.capture_core.specs.declared.form.CaptureForm.{CaptureForm}
use Rattle.capture_core.specs.declared.form.OctetOrder.{OctetOrder}
use Rattle.capture_core.specs.declared.form.OctetOrder.TheVariants.{BigEndian, LittleEndian}
use Rattle.capture_core.specs.declared.capture_fault.CaptureCause.TheVariants as cause
use Rattle.capture_core.specs.declared.capture_fault.CaptureFault.{CaptureFault}
use Rattle.capture_core.proofs.NumberPlaces.{number_front}
use Rattle.capture_core.proofs.BlocksSpelled.{number_taken, read_section, spelled_section}
use Rattle.capture_core.proofs.SectionsSpelled.{AreRead, header_no_end, read_blocks, spelled_blocks}
use Rattle.capture_core.proofs.SpelledCaptures.{Read, no_fault, not_cut, read_spelled, spelled_reads}

-- ---- the first four octets

-- a magic number of the classic form is in the first four octets
pub form_taken : (o : List ℕ) → 4 ≤ length o → form_of (take 4 o) ≡ form_of o
form_taken o h =
    let big : number_at BigEndian 4 (take 4 o) 0 ≡ number_at BigEndian 4 o 0 = number_taken BigEndian 4 0 4 o (omega arith) h in
    let little : number_at LittleEndian 4 (take 4 o) 0 ≡ number_at LittleEndian 4 o 0 = number_taken LittleEndian 4 0 4 o (omega arith) h in
    rw (big, little) refl

form_read : (header : List ℕ) (found : Option CaptureForm) (form : CaptureForm) → read_in header found ≡ Some form → (f : CaptureForm) × (found ≡ Some f)
form_read header None form e = cc
form_read header (Some f) form e = (f, refl)

-- the type of a section header is no magic number of the classic form: its first octet is 10 at most
small_first : (a b c d : ℕ) → a * 16777216 + (b * 65536 + (c * 256 + (d * 1 + 0))) ≡ 168627466 → a ≤ 10
small_first a b c d e = omega arith

no_microseconds : (a k : ℕ) → a ≤ 10 → a + 256 * k ≡ 2712847316 → ⊥
no_microseconds a k h e = omega arith

no_nanoseconds : (a k : ℕ) → a ≤ 10 → a + 256 * k ≡ 2712812621 → ⊥
no_nanoseconds a k h e = omega arith

other_magic : (a b c d : ℕ) → number_at BigEndian 4 (a ∷ b ∷ c ∷ d ∷ []) 0 ≡ 0x0a0d0d0a → form_of (a ∷ b ∷ c ∷ d ∷ []) ≡ None
unfolding number_at
other_magic a b c d e =
    let small = small_first a b c d e in
    let k = b + 256 * (c + 256 * (d + 0)) in
    let micro : eqb (a + 256 * k) 2712847316 ≡ false = let n = no_microseconds a k small in grind (arith, nat_tests, n) in
    let nano : eqb (a + 256 * k) 2712812621 ≡ false = let n = no_nanoseconds a k small in grind (arith, nat_tests, n) in
    rw (e, micro, nano) refl

pub no_form : (o : List ℕ) → 4 ≤ length o → number_at BigEndian 4 o 0 ≡ 0x0a0d0d0a → form_of (take 4 o) ≡ None
no_form [] h e = absurd (omega (arith, h))
no_form (a ∷ []) h e = absurd (omega (arith, h))
no_form (a ∷ b ∷ []) h e = absurd (omega (arith, h))
no_form (a ∷ b ∷ c ∷ []) h e = absurd (omega (arith, h))
no_form (a ∷ b ∷ c ∷ d ∷ o) h e = other_magic a b c d (number_taken BigEndian 4 0 4 (a ∷ b ∷ c ∷ d ∷ o) (omega arith) h ∙ e)

-- ---- the classic form

spelled_classic : (form : CaptureForm) (header rest : List ℕ) (rs : List CaptureRecord) → length header ≡ 24 → header_of header ≡ Some form → length rs ≤ 999999999999999998 → SpellsRecords form rs rest →
    captured_packets End (header ++ rest) ≡ packets_of_records (whole_capture rs)
spelled_classic form header rest rs w h few s =
    let o = header ++ rest in
    let four : ltb (length o) 4 ≡ false = simp length-append (grind (arith, nat_tests, w)) in
    let long : ltb (length o) 24 ≡ false = simp length-append (grind (arith, nat_tests, w)) in
    let found = form_read header (form_of header) form h in
    let magic : form_of (take 4 o) ≡ Some found.0 = ap form_of (take-append-le 4 header rest (omega (arith, w))) ∙ form_taken header (omega (arith, w)) ∙ found.1 in
    let front : header_of (take 24 o) ≡ Some form = ap header_of (take_at header rest 24 w) ∙ h in
    let behind : drop 24 o ≡ rest = drop_at header rest 24 w in
    rw (four, magic, long, front, behind) (ap packets_of_records (spelled_reads form 0 999999999999999998 rs rest few s))

-- ---- sections

spelled_sections : (order : OctetOrder) (header rest : List ℕ) (bs : List Block) → number_at BigEndian 4 header 0 ≡ 0x0a0d0d0a → IsSectionHeader order header → length bs < 999999999999999998 →
    SpellsBlocks (settled_after unsettled (begins order)) bs rest → captured_packets End (header ++ rest) ≡ packets_said 0 bs
spelled_sections order header rest bs t h few s =
    let o = header ++ rest in
    let size = h.at_least in
    let room : 4 ≤ length header = omega (arith, size) in
    let four : ltb (length o) 4 ≡ false = simp length-append (grind (arith, nat_tests, room)) in
    let magic : form_of (take 4 o) ≡ None = ap form_of (take-append-le 4 header rest room) ∙ no_form header room t in
    let type : number_at BigEndian 4 o 0 ≡ 0x0a0d0d0a = number_front BigEndian 4 header rest 0 (omega (arith, size)) ∙ t in
    let same : eqb (number_at BigEndian 4 o 0) 0x0a0d0d0a ≡ true = grind (arith, nat_tests, type) in
    rw (four, magic, same)
    (ap (λ (r : BlockRead). packets_behind_section r End 999999999999999997 o) (spelled_section End 0 cause.CaptureHeader order header rest h)
    ∙ ap (packets_of_blocks End (settled_after unsettled (begins order)) 0 999999999999999997) (drop_at header rest (length header) refl)
    ∙ spelled_blocks bs (settled_after unsettled (begins order)) 0 999999999999999997 rest (omega (arith, few)) s)

pub packets_read : SpelledPacketsAreRead
packets_read l o (inl (rs, (form, header, rest, e, w, h, few, s), is)) = ap (captured_packets End) e ∙ spelled_classic form header rest rs w h few s ∙ sym is
packets_read l o (inr (bs, (order, header, rest, e, t, h, few, s), is)) = ap (captured_packets End) e ∙ spelled_sections order header rest bs t h few s ∙ sym is

-- ---- captures that end without a fault

Spelled : InputEnd → List ℕ → Numbered Packet → Type 0
Spelled z o l = (z ≡ End) × SpellsPackets l o

-- what follows a test that was passed
past_if : (z : InputEnd) (o : List ℕ) (b : Bool) (stop : Stop CaptureFault) (l : Numbered Packet) → (stop ≡ finished → ⊥) → (b ≡ false → l.stop ≡ finished → Spelled z o l) → (if b then stopped stop else l).stop ≡ finished → Spelled z o (if b then stopped stop else l)
past_if z o true stop l n f e = absurd (n e)
past_if z o false stop l n f e = f refl e

past_else : (z : InputEnd) (o : List ℕ) (b : Bool) (stop : Stop CaptureFault) (l : Numbered Packet) → (stop ≡ finished → ⊥) → (b ≡ true → l.stop ≡ finished → Spelled z o l) → (if b then l else stopped stop).stop ≡ finished → Spelled z o (if b then l else stopped stop)
past_else z o true stop l n f e = f refl e
past_else z o false stop l n f e = absurd (n e)

classic_is : (z : InputEnd) (o : List ℕ) (found : Option CaptureForm) → 24 ≤ length o → header_of (take 24 o) ≡ found → (packets_behind_header found z 999999999999999998 (drop 24 o)).stop ≡ finished → Spelled z o (packets_behind_header found z 999999999999999998 (drop 24 o))
unfolding Spelled Read
classic_is z o None h f e = absurd (no_fault 0 cause.CaptureHeader e)
classic_is z o (Some form) h f e =
    let r = read_spelled form z 0 999999999999999998 (drop 24 o) e in
    (r.0, inl (r.1.0, (form, take 24 o, drop 24 o, sym (take-append-drop 24 o), length-take-le 24 o h, f, r.1.2, r.1.1), ap packets_of_records r.1.3))

sections_are : (z : InputEnd) (o : List ℕ) (found : BlockRead) → number_at BigEndian 4 o 0 ≡ 0x0a0d0d0a → section_header z 0 cause.CaptureHeader o ≡ found → (packets_behind_section found z 999999999999999997 o).stop ≡ finished →
    Spelled z o (packets_behind_section found z 999999999999999997 o)
unfolding Spelled AreRead
sections_are z o (Err stop) t f e = absurd (header_no_end z 0 cause.CaptureHeader o stop f e)
sections_are z o (Ok (b, size)) t f e =
    let (order, is, h, l) = read_section z 0 cause.CaptureHeader o b size f in
    let all : length (take size o) ≡ size = length-take-le size o l in
    let room : 4 ≤ size = omega (arith, all, h.at_least) in
    let r = read_blocks 999999999999999997 z (settled_after unsettled b) 0 (drop size o) e in
    let blocks = subst (λ (k : Block). SpellsBlocks (settled_after unsettled k) r.1.0 (drop size o)) is r.1.2 in
    (r.0, inr (r.1.0, (order, take size o, drop size o, sym (take-append-drop size o), number_taken BigEndian 4 0 size o room l ∙ t, h, omega (arith, r.1.1), blocks), r.1.3))

magic_is : (z : InputEnd) (o : List ℕ) (found : Option CaptureForm) → (packets_by_magic found z o).stop ≡ finished → Spelled z o (packets_by_magic found z o)
magic_is z o None e =
    past_else z o (eqb (number_at BigEndian 4 o 0) 0x0a0d0d0a) (fault_in 0 cause.CaptureHeader) (section_packets z o) (no_fault 0 cause.CaptureHeader)
    (λ b s. let type : number_at BigEndian 4 o 0 ≡ 0x0a0d0d0a = grind (arith, nat_tests, b) in sections_are z o (section_header z 0 cause.CaptureHeader o) type refl s) e
magic_is z o (Some form) e =
    past_if z o (ltb (length o) 24) (cut z 0) (packets_behind_header (header_of (take 24 o)) z 999999999999999998 (drop 24 o)) (not_cut z 0)
    (λ b s. let long : 24 ≤ length o = grind (arith, nat_tests, b) in classic_is z o (header_of (take 24 o)) long refl s) e

pub packets_spelled : ReadPacketsAreSpelled
unfolding Spelled
packets_spelled z o e = past_if z o (ltb (length o) 4) (cut z 0) (packets_by_magic (form_of (take 4 o)) z o) (not_cut z 0) (λ b s. magic_is z o (form_of (take 4 o)) s) e

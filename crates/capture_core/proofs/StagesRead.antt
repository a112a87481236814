-- What stands at the front of a capture, of its records and of its blocks, and the others behind it.
use Rattle.std.proofs.Common.{◌≡◌, ℕ, ◌+◌, ◌-◌, ◌<◌, ◌≤◌, suc, Bool, true, false, ltb, inl, inr, List, [], ◌∷◌, ◌++◌, length, take, drop, Option, Some, None, Ok, Err, ap, sym, ◌∙◌, refl, arith}
use Rattle.std.specs.Prelude.{if◌then◌else◌, ◌==◌, ⊤}
use Rattle.std.proofs.lemmas.List.{length-take, length-take-le, take-append-drop, drop-drop}
use Rattle.std.proofs.lemmas.Bool.Decides.{leb_tells, nat_tests}
use Rattle.list_core.specs.declared.device.InputEnd.{InputEnd}
use Rattle.list_core.specs.Lines.{Stop}
use Rattle.capture_core.specs.Numbers.{number_at}
use Rattle.capture_core.specs.Header.{form_of, header_of}
use Rattle.capture_core.specs.Capture.{Capture, CaptureRecord, captured_size, cut, fault_in, moment_in_head, no_records, put_record, read_one, records_of}
use Rattle.capture_core.specs.Packets.{Numbered, Packet, packets_of_records, put_numbered, stopped}
use Rattle.capture_core.specs.Blocks.{Block, BlockRead, Settled, before_others, begins, block_with, captures, count_after, describes, is_bad_length, next_block, packets_of_blocks, passes, put_block, section_header, section_in, section_order, settled_after}
use Rattle.capture_core.specs.Captured.{captured_packets, packets_behind_header, packets_behind_section, packets_by_magic}
use Rattle.capture_core.specs.computed.OneRead.{Front, capture_front, classic_form, next_record, record_front, start_by_magic, start_of_block}
use Rattle.capture_core.specs.declared.form.CaptureForm.{CaptureForm}
use Rattle.capture_core.specs.declared.form.OctetOrder.{OctetOrder}
use Rattle.capture_core.specs.declared.start.Start.{Start}
use Rattle.capture_core.specs.declared.start.Start.TheVariants as start
use Rattle.capture_core.specs.declared.capture_fault.CaptureCause.{CaptureCause}
use Rattle.capture_core.specs.declared.capture_fault.CaptureCause.TheVariants as cause
use Rattle.capture_core.specs.declared.capture_fault.CaptureFault.{CaptureFault}
use Rattle.capture_core.proofs.NumberPlaces.{number_front}
use Rattle.capture_core.proofs.StepsRead.{spread}

-- a stop, or what is said else
stop_else : {X : Type 0} (b : Bool) (s : Stop CaptureFault) (l : Numbered Packet) (f : Front X) (k : X → ℕ → Numbered Packet) → l ≡ spread f k → (if b then stopped s else l) ≡ spread (if b then Err s else f) k
unfolding spread
stop_else true s l f k e = refl
stop_else false s l f k e = e

else_stop : {X : Type 0} (b : Bool) (s : Stop CaptureFault) (l : Numbered Packet) (f : Front X) (k : X → ℕ → Numbered Packet) → l ≡ spread f k → (if b then l else stopped s) ≡ spread (if b then f else Err s) k
unfolding spread
else_stop true s l f k e = e
else_stop false s l f k e = refl

-- ---- records

-- a record before the others, or a stop
record_else : (b : Bool) (s : Stop CaptureFault) (c : Capture) (f : Front Packet) (k : Packet → ℕ → Numbered Packet) → packets_of_records c ≡ spread f k → packets_of_records (if b then no_records s else c) ≡ spread (if b then Err s else f) k
unfolding spread
record_else true s c f k e = refl
record_else false s c f k e = e

module _ (form : CaptureForm) (z : InputEnd) (n m : ℕ) where
  others_of : List ℕ → Packet → ℕ → Numbered Packet
  others_of o p size = put_numbered (n + 1, p) (packets_of_records (records_of form z (n + 1) m (drop size o)))

  long_record : (o : List ℕ) → 16 ≤ length o →
      packets_of_records (read_one form z (n + 1) (take 16 o) (drop 16 o) (records_of form z (n + 1) m (drop (captured_size form (take 16 o)) (drop 16 o)))) ≡ spread (record_front form z (n + 1) o) (others_of o)
  unfolding spread others_of
  long_record o h =
      let head = take 16 o in
      let rest = drop 16 o in
      let size = captured_size form head in
      let whole : length head ≡ 16 = length-take-le 16 o h in
      let text : head ++ rest ≡ o = take-append-drop 16 o in
      let same_size : captured_size form o ≡ size = sym (ap (captured_size form) text) ∙ number_front form.order 4 head rest 8 (omega (arith, whole)) in
      let seconds : number_at form.order 4 o 0 ≡ number_at form.order 4 head 0 = sym (ap (λ l. number_at form.order 4 l 0) text) ∙ number_front form.order 4 head rest 0 (omega (arith, whole)) in
      let fraction : number_at form.order 4 o 4 ≡ number_at form.order 4 head 4 = sym (ap (λ l. number_at form.order 4 l 4) text) ∙ number_front form.order 4 head rest 4 (omega (arith, whole)) in
      let long_head : ltb (length head) 16 ≡ false = grind (arith, nat_tests) in
      let long : ltb (length o) 16 ≡ false = grind (arith, nat_tests) in
      let behind : drop size rest ≡ drop (16 + size) o = drop-drop size 16 o in
      let r : CaptureRecord = record { moment = moment_in_head form head; octets = take size rest } in
      rw (long_head, long, same_size, seconds, fraction)
      (record_else (ltb 262144 size) (fault_in (n + 1) cause.RecordLength) _ _ _
      (record_else (ltb (length rest) size) (cut z (n + 1)) (put_record (n + 1, r) (records_of form z (n + 1) m (drop size rest))) (Ok (record { moment = moment_in_head form head; link_type = 1; octets = take size rest }, 16 + size)) (others_of o)
      (ap (λ l. packets_of_records (put_record (n + 1, r) (records_of form z (n + 1) m l))) behind)))

  short_record : (o : List ℕ) (others : Capture) → length o < 16 → packets_of_records (read_one form z (n + 1) (take 16 o) (drop 16 o) others) ≡ spread (record_front form z (n + 1) o) (others_of o)
  unfolding spread others_of
  short_record o others h =
      let less : length (take 16 o) ≤ length o = simp length-take (omega arith) in
      let short_head : ltb (length (take 16 o)) 16 ≡ true = grind (arith, nat_tests) in
      let short : ltb (length o) 16 ≡ true = grind (arith, nat_tests) in
      rw (short_head, short) refl

  pub records_are : (o : List ℕ) → packets_of_records (records_of form z n (suc m) o) ≡ spread (next_record form z (n + 1) o) (λ p size. put_numbered (n + 1, p) (packets_of_records (records_of form z (n + 1) m (drop size o))))
  unfolding spread others_of records_of
  records_are [] = refl
  records_are (x ∷ xs) = elim (leb_tells 16 (length (x ∷ xs))) [
    | inl e ↦ long_record (x ∷ xs) e.1
    | inr e ↦ short_record (x ∷ xs) _ e.1
  ]

-- ---- blocks

others_behind : (n : ℕ) (f : BlockRead) (k : Block → ℕ → Numbered Packet) → before_others n f k ≡ spread f (λ b size. put_block n b (k b size))
unfolding spread
others_behind n (Err stop) k = refl
others_behind n (Ok b) k = refl

pub blocks_are : (z : InputEnd) (s : Settled) (n m : ℕ) (o : List ℕ) →
    packets_of_blocks z s n (suc m) o ≡ spread (next_block z (n + 1) s o) (λ b size. put_block n b (packets_of_blocks z (settled_after s b) (count_after n b) m (drop size o)))
unfolding packets_of_blocks
blocks_are z s n m o = others_behind n (next_block z (n + 1) s o) (λ b size. packets_of_blocks z (settled_after s b) (count_after n b) m (drop size o))

-- ---- the start

-- what follows a header of the classic form, or the first section header
unfoldable pub after_start : Start → InputEnd → List ℕ → Numbered Packet
after_start (start.Records form) z o = packets_of_records (records_of form z 0 999999999999999998 o)
after_start (start.Blocks order) z o = packets_of_blocks z (record { order = order; interfaces = []; moment = 0 }) 0 999999999999999997 o

-- a front that is a section header, or a stop
IsSection : BlockRead → Type 0
IsSection (Err stop) = ⊤
IsSection (Ok (begins order, size)) = ⊤
IsSection (Ok (describes i, size)) = ⊥
IsSection (Ok (captures p, size)) = ⊥
IsSection (Ok (passes, size)) = ⊥

either_section : (b : Bool) (f g : BlockRead) → IsSection f → IsSection g → IsSection (if b then f else g)
either_section true f g p q = p
either_section false f g p q = q

version_section : (n total : ℕ) (order : OctetOrder) (why : CaptureCause) (b : Bool) → IsSection (block_with n total (if b then Ok (begins order) else Err why))
unfolding IsSection
version_section n total order why true = tt
version_section n total order why false = tt

section_in_is : (z : InputEnd) (n : ℕ) (why : CaptureCause) (o : List ℕ) (order : Option OctetOrder) → IsSection (section_in z n why o order)
unfolding IsSection
section_in_is z n why o None = tt
section_in_is z n why o (Some order) =
    let total = number_at order 4 o 4 in
    either_section (is_bad_length 28 total) _ _ tt
    (either_section (ltb (length o) total) _ _ tt
    (either_section (number_at order 4 o (total - 4) == total) _ _ (version_section n total order why (number_at order 2 (take (total - 12) (drop 8 o)) 4 == 1)) tt))

header_is : (z : InputEnd) (n : ℕ) (why : CaptureCause) (o : List ℕ) → IsSection (section_header z n why o)
unfolding IsSection
header_is z n why o = either_section (ltb (length o) 12) _ _ tt (section_in_is z n why o (section_order o))

sections_are : (f : BlockRead) (z : InputEnd) (o : List ℕ) → IsSection f → packets_behind_section f z 999999999999999997 o ≡ spread (start_of_block f) (λ s size. after_start s z (drop size o))
unfolding spread after_start IsSection
sections_are (Err stop) z o h = refl
sections_are (Ok (begins order, size)) z o h = refl
sections_are (Ok (describes i, size)) z o h = absurd h
sections_are (Ok (captures p, size)) z o h = absurd h
sections_are (Ok (passes, size)) z o h = absurd h

header_read : (form : Option CaptureForm) (z : InputEnd) (o : List ℕ) → packets_behind_header form z 999999999999999998 (drop 24 o) ≡ spread (classic_form form) (λ s size. after_start s z (drop size o))
unfolding spread after_start
header_read None z o = refl
header_read (Some form) z o = refl

magic_is : (form : Option CaptureForm) (z : InputEnd) (o : List ℕ) → packets_by_magic form z o ≡ spread (start_by_magic form z o) (λ s size. after_start s z (drop size o))
magic_is None z o = else_stop _ _ _ _ _ (sections_are (section_header z 0 cause.CaptureHeader o) z o (header_is z 0 cause.CaptureHeader o))
magic_is (Some form) z o = stop_else _ _ _ _ _ (header_read (header_of (take 24 o)) z o)

pub start_is : (z : InputEnd) (o : List ℕ) → captured_packets z o ≡ spread (capture_front z o) (λ s size. after_start s z (drop size o))
start_is z o = stop_else _ _ _ _ _ (magic_is (form_of (take 4 o)) z o)

-- Packets that are read part by part, in blocks and as records, and their events.
use Rattle.std.proofs.Common.{◌≡◌, ℕ, ◌+◌, ◌<◌, ◌≤◌, true, false, ltb, eqb, List, [], ◌∷◌, ◌++◌, length, take, drop, Option, Some, None, Result, Ok, Err, ap, sym, ◌∙◌, refl, arith, append_assoc}
use Rattle.std.specs.Prelude.{◌*◌, ◌^◌, slice_get, nat_lt, if◌then◌else◌}
use Rattle.std.proofs.lemmas.List.{length-append, drop_at, take_at}
use Rattle.std.proofs.lemmas.Bool.{ne_eqb}
use Rattle.std.proofs.lemmas.Bool.Decides.{nat_tests}
use Rattle.list_core.specs.declared.device.InputEnd.{InputEnd}
use Rattle.list_core.specs.declared.device.InputEnd.TheVariants.{Open}
use Rattle.list_core.specs.declared.event.EventKind.TheVariants.{Clock, Frame}
use Rattle.list_core.specs.Lines.{unfinished}
use Rattle.capture_core.specs.Numbers.{number_at}
use Rattle.capture_core.specs.Capture.{captured_size, cut, fault_in, moment_in_head}
use Rattle.capture_core.specs.Packets.{Packet, kind_of, other_link}
use Rattle.capture_core.specs.Interfaces.{moment_after, padded}
use Rattle.capture_core.specs.Blocks.{Settled, captured_behind, captured_length, captures, head_at, head_on, head_size, interface_number, packet_head, packet_in, packet_moment, ticks_in, within_snapshot}
use Rattle.capture_core.specs.computed.OneRead.{IsNextEvent, IsRecordEvent, Told, next_record, record_front}
use Rattle.list_core.specs.declared.read_error.ReadError.{ReadError}
use Rattle.capture_core.specs.declared.capture_fault.CaptureFault.{CaptureFault}
use Rattle.list_core.specs.declared.read_error.ReadError.TheVariants as error
use Rattle.capture_core.specs.declared.form.CaptureForm.{CaptureForm}
use Rattle.capture_core.specs.declared.interface.Interface.{Interface}
use Rattle.capture_core.specs.declared.packet_block.PacketBlock.{PacketBlock}
use Rattle.capture_core.specs.declared.packet_block.PacketBlock.TheVariants.{Enhanced, Obsolete, Simple}
use Rattle.capture_core.specs.declared.packet_block.PacketHead.{PacketHead}
use Rattle.capture_core.specs.declared.capture_fault.CaptureCause.{CaptureCause}
use Rattle.capture_core.specs.declared.capture_fault.CaptureCause.TheVariants as cause
use Rattle.capture_core.proofs.NumberPlaces.{number_front}

-- ---- events

-- octets on Ethernet are a frame
pub frame_is : {A : Type 0} (link : ℕ) (octets : List ℕ) → link ≡ 1 → 0 < length octets → Frame octets ≡ kind_of {A = A} link octets
frame_is link [] e h = absurd (omega (arith, h))
frame_is link (x ∷ xs) e h =
    let ethernet : eqb link 1 ≡ true = grind (arith, nat_tests) in
    rw ethernet refl

-- a packet on another link is none
pub clock_is : {A : Type 0} (link : ℕ) (octets : List ℕ) → (link ≡ 1 → ⊥) → Clock ≡ kind_of {A = A} link octets
clock_is link [] other = refl
clock_is link (x ∷ xs) other = rw (ne_eqb link 1 other) refl

-- and its number and link are told
pub other_is : (number link : ℕ) {told : ℕ} → (link ≡ 1 → ⊥) → link ≡ told → (number, told) ∷ [] ≡ other_link number link
other_is number link other is = rw (sym is, ne_eqb link 1 other) refl

-- ---- packet blocks

module _ (s : Settled) (head rest : List ℕ) where
  long_same : (at : ℕ) → at + 4 ≤ length head → number_at s.order 4 (head ++ rest) at ≡ number_at s.order 4 head at
  long_same at h = number_front s.order 4 head rest at h

  interface_same : (kind : PacketBlock) → length head ≡ head_size kind → interface_number kind s.order (head ++ rest) ≡ interface_number kind s.order head
  interface_same Enhanced h = long_same 0 (omega (arith, h))
  interface_same Obsolete h = number_front s.order 2 head rest 0 (omega (arith, h))
  interface_same Simple h = refl

  captured_same : (kind : PacketBlock) (i : Interface) → length head ≡ head_size kind → captured_length kind s.order i (head ++ rest) ≡ captured_length kind s.order i head
  captured_same Enhanced i h = long_same 12 (omega (arith, h))
  captured_same Obsolete i h = long_same 12 (omega (arith, h))
  captured_same Simple i h = ap (within_snapshot i.snapshot_length) (long_same 0 (omega (arith, h)))

  ticks_same : length head ≡ 20 → ticks_in s.order (head ++ rest) ≡ ticks_in s.order head
  ticks_same h = ap (λ (k : ℕ). k * 2 ^ 32 + number_at s.order 4 (head ++ rest) 8) (long_same 4 (omega (arith, h))) ∙ ap (λ (k : ℕ). number_at s.order 4 head 4 * 2 ^ 32 + k) (long_same 8 (omega (arith, h)))

  moment_same : (kind : PacketBlock) (i : Interface) → length head ≡ head_size kind → packet_moment kind s i (head ++ rest) ≡ packet_moment kind s i head
  moment_same Enhanced i h = ap (moment_after i) (ticks_same h)
  moment_same Obsolete i h = ap (moment_after i) (ticks_same h)
  moment_same Simple i h = refl

  -- a head of this captured length and moment
  judged : PacketBlock → ℕ → Interface → ℕ → Option ℕ → Result PacketHead CaptureCause
  judged kind size i captured moment =
      if nat_lt 262144 captured then Err cause.RecordLength else
      (if nat_lt size (head_size kind + padded captured) then Err cause.BlockForm else
      head_at i.link_type captured moment)

  on_alone : (kind : PacketBlock) (size : ℕ) (o : Option Interface) → length head ≡ head_size kind → head_on kind s (head ++ rest) size o ≡ head_on kind s head size o
  unfolding judged
  on_alone kind size None h = refl
  on_alone kind size (Some i) h =
      ap (λ (k : ℕ). judged kind size i k (packet_moment kind s i (head ++ rest))) (captured_same kind i h) ∙ ap (judged kind size i (captured_length kind s.order i head)) (moment_same kind i h)

-- what stands before the captured octets is all that is judged
pub head_alone : (kind : PacketBlock) (s : Settled) (head rest : List ℕ) (size : ℕ) → length head ≡ head_size kind → packet_head kind s (head ++ rest) size ≡ packet_head kind s head size
head_alone kind s head rest size h =
    let judge = λ (r : Result PacketHead CaptureCause). if nat_lt size (head_size kind) then Err cause.BlockForm else r in
    ap (λ (k : ℕ). judge (head_on kind s (head ++ rest) size (slice_get s.interfaces k))) (interface_same s head rest kind h)
    ∙ ap judge (on_alone s head rest kind size (slice_get s.interfaces (interface_number kind s.order head)) h)

-- a packet that is refused
pub packet_refused : (kind : PacketBlock) (s : Settled) (head rest : List ℕ) (size : ℕ) (why : CaptureCause) → length head ≡ head_size kind → length (head ++ rest) ≡ size →
    Err why ≡ packet_head kind s head size → packet_in kind s (head ++ rest) ≡ Err why
packet_refused kind s head rest size why h all e =
    ap (λ (k : ℕ). captured_behind kind (head ++ rest) (packet_head kind s (head ++ rest) k)) all
    ∙ ap (captured_behind kind (head ++ rest)) (head_alone kind s head rest size h ∙ sym e)

-- a packet, and its captured octets
pub packet_found : (kind : PacketBlock) (s : Settled) (head octets rest : List ℕ) (size : ℕ) (found : PacketHead) → length head ≡ head_size kind → length octets ≡ found.size → length (head ++ (octets ++ rest)) ≡ size →
    Ok found ≡ packet_head kind s head size → packet_in kind s (head ++ (octets ++ rest)) ≡ Ok (captures (record { moment = found.moment; link_type = found.link_type; octets = octets }))
packet_found kind s head octets rest size found h o all e =
    let behind : take found.size (drop (head_size kind) (head ++ (octets ++ rest))) ≡ octets = ap (take found.size) (drop_at head (octets ++ rest) (head_size kind) h) ∙ take_at octets rest found.size o in
    ap (λ (k : ℕ). captured_behind kind (head ++ (octets ++ rest)) (packet_head kind s (head ++ (octets ++ rest)) k)) all
    ∙ ap (captured_behind kind (head ++ (octets ++ rest))) (head_alone kind s head (octets ++ rest) size h ∙ sym e)
    ∙ ap (λ (l : List ℕ). Ok (captures (record { moment = found.moment; link_type = found.link_type; octets = l }))) behind

-- ---- records

module _ (form : CaptureForm) (n : ℕ) (head : List ℕ) (h : length head ≡ 16) where
  long_head : (rest : List ℕ) → ltb (length (head ++ rest)) 16 ≡ false
  long_head rest = simp length-append (grind (arith, nat_tests))

  size_is : (rest : List ℕ) → captured_size form (head ++ rest) ≡ captured_size form head
  size_is rest = number_front form.order 4 head rest 8 (omega (arith, h))

  moment_is : (rest : List ℕ) → moment_in_head form (head ++ rest) ≡ moment_in_head form head
  moment_is rest =
      let seconds : number_at form.order 4 (head ++ rest) 0 ≡ number_at form.order 4 head 0 = number_front form.order 4 head rest 0 (omega (arith, h)) in
      let fraction : number_at form.order 4 (head ++ rest) 4 ≡ number_at form.order 4 head 4 = number_front form.order 4 head rest 4 (omega (arith, h)) in
      rw (seconds, fraction) refl

  pub record_long : (z : InputEnd) (rest : List ℕ) → 262144 < captured_size form head → record_front form z n (head ++ rest) ≡ Err (fault_in n cause.RecordLength)
  record_long z rest far =
      let long : ltb 262144 (captured_size form head) ≡ true = grind (arith, nat_tests) in
      rw (long_head rest, size_is rest, long) refl

  pub record_cut : (z : InputEnd) (part : List ℕ) → captured_size form head ≤ 262144 → length part < captured_size form head → record_front form z n (head ++ part) ≡ Err (cut z n)
  record_cut z part short few =
      let fits : ltb 262144 (captured_size form head) ≡ false = grind (arith, nat_tests) in
      let behind : drop 16 (head ++ part) ≡ part = drop_at head part 16 h in
      let less : ltb (length part) (captured_size form head) ≡ true = grind (arith, nat_tests) in
      rw (long_head part, size_is part, fits, behind, less) refl

  pub record_whole : (z : InputEnd) (given more : List ℕ) → captured_size form head ≤ 262144 → length given ≡ captured_size form head →
      record_front form z n ((head ++ given) ++ more) ≡ Ok (record { moment = moment_in_head form head; link_type = 1; octets = given }, length (head ++ given))
  record_whole z given more short all =
      let size = captured_size form head in
      let fits : ltb 262144 size ≡ false = grind (arith, nat_tests) in
      let behind : drop 16 (head ++ (given ++ more)) ≡ given ++ more = drop_at head (given ++ more) 16 h in
      let enough : ltb (length (given ++ more)) size ≡ false = simp length-append (grind (arith, nat_tests)) in
      let octets : take size (given ++ more) ≡ given = take_at given more size all in
      let taken : 16 + size ≡ length (head ++ given) = simp length-append (omega (arith, h, all)) in
      ap (record_front form z n) (append_assoc head given more)
      ∙ rw (long_head (given ++ more), size_is (given ++ more), moment_is (given ++ more), fits, behind, enough, octets) (ap (λ (k : ℕ). Ok (record { moment = moment_in_head form head; link_type = 1; octets = given }, k)) taken)

pub record_short : (form : CaptureForm) (z : InputEnd) (n x : ℕ) (xs : List ℕ) → length (x ∷ xs) < 16 → next_record form z n (x ∷ xs) ≡ Err (cut z n)
record_short form z n x xs few =
    let short : ltb (length (x ∷ xs)) 16 ≡ true = grind (arith, nat_tests) in
    rw short refl

pub record_some : (form : CaptureForm) (z : InputEnd) (n : ℕ) (head rest : List ℕ) → 0 < length head → next_record form z n (head ++ rest) ≡ record_front form z n (head ++ rest)
record_some form z n [] rest h = absurd (omega (arith, h))
record_some form z n (x ∷ xs) rest h = refl

pub record_end : (form : CaptureForm) (z : InputEnd) (n : ℕ) (octets : List ℕ) → 0 < length octets → length octets < 16 → next_record form z n octets ≡ Err (cut z n)
record_end form z n [] h few = absurd (omega (arith, h))
record_end form z n (x ∷ xs) h few = record_short form z n x xs few

-- a record that is refused is told so
pub record_told : (A : Type 0) (e : ReadError CaptureFault) (t : Told Packet) → IsRecordEvent {A = A} t (Err e) → IsNextEvent {A = A} t (Err e)
record_told A (error.Fault f) t h = h
record_told A (error.Memory m) t h = h

pub record_open : (form : CaptureForm) (n : ℕ) (octets : List ℕ) → length octets < 16 → next_record form Open n octets ≡ Err unfinished
record_open form n [] few = refl
record_open form n (x ∷ xs) few = record_short form Open n x xs few

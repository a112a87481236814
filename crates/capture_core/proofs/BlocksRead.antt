-- Blocks that are read part by part.
use Rattle.std.proofs.Common.{◌≡◌, ℕ, ◌+◌, ◌-◌, ◌<◌, ◌≤◌, Bool, true, false, ltb, eqb, List, [], ◌∷◌, ◌++◌, length, take, drop, Some, None, Result, Ok, Err, ap, sym, ◌∙◌, refl, arith, append_assoc}
use Rattle.std.specs.Prelude.{◌==◌, if◌then◌else◌}
use Rattle.std.proofs.lemmas.List.{length-append, drop_at, take_at, length-take-le, take-append-drop, take-append-le}
use Rattle.std.proofs.lemmas.Bool.Decides.{nat_tests}
use Rattle.list_core.specs.declared.device.InputEnd.{InputEnd}
use Rattle.list_core.specs.declared.device.InputEnd.TheVariants.{Open}
use Rattle.list_core.specs.Lines.{unfinished}
use Rattle.capture_core.specs.Numbers.{number_at}
use Rattle.capture_core.specs.Capture.{cut, fault_in}
use Rattle.capture_core.specs.Blocks.{Block, Settled, begins, describes, passes, block_in, block_with, body_said, captures, first_block, is_bad_length, next_block, section_header, section_in, section_order, section_said}
use Rattle.capture_core.specs.computed.OneRead.{IsBlockTold, IsNextBlock, Told, order_of_magic, version_rest}
use Rattle.list_core.specs.declared.read_error.ReadError.{ReadError}
use Rattle.capture_core.specs.declared.capture_fault.CaptureFault.{CaptureFault}
use Rattle.list_core.specs.declared.read_error.ReadError.TheVariants as error
use Rattle.capture_core.specs.computed.Sections.{IsCaptured, IsSaidAs, block_rest}
use Rattle.capture_core.specs.declared.body.Said.{Said}
use Rattle.capture_core.specs.Packets.{Packet}
use Rattle.capture_core.specs.declared.body.Said.TheVariants as said
use Rattle.capture_core.specs.declared.form.OctetOrder.{OctetOrder}
use Rattle.capture_core.specs.declared.form.OctetOrder.TheVariants.{BigEndian, LittleEndian}
use Rattle.capture_core.specs.declared.capture_fault.CaptureCause.{CaptureCause}
use Rattle.capture_core.specs.declared.capture_fault.CaptureCause.TheVariants as cause
use Rattle.capture_core.proofs.NumberPlaces.{number_front, number_behind}

-- a total length that a block can have is at least 12
pub at_least : (least total : ℕ) → is_bad_length least total ≡ false → least ≤ total
at_least least total e = grind (arith, nat_tests, e)

-- ---- a block of which the first eight octets are these

module _ (n : ℕ) (order : OctetOrder) (least : ℕ) (head : List ℕ) (said : List ℕ → Result Block CaptureCause) (h : length head ≡ 8) where
  total : ℕ
  total = number_at order 4 head 4

  total_is : (rest : List ℕ) → number_at order 4 (head ++ rest) 4 ≡ number_at order 4 head 4
  total_is rest = number_front order 4 head rest 4 (omega (arith, h))

  -- no block has its total length
  pub block_bad : (z : InputEnd) (rest : List ℕ) → is_bad_length least (number_at order 4 head 4) ≡ true → block_in z n order least (head ++ rest) said ≡ Err (fault_in n cause.BlockLength)
  block_bad z rest bad = rw (total_is rest, bad) refl

  -- it is not whole
  pub block_cut : (z : InputEnd) (part : List ℕ) → is_bad_length least (number_at order 4 head 4) ≡ false → length part + 8 < number_at order 4 head 4 → block_in z n order least (head ++ part) said ≡ Err (cut z n)
  block_cut z part good few =
      let short : ltb (length (head ++ part)) (number_at order 4 head 4) ≡ true = simp length-append (grind (arith, nat_tests)) in
      rw (total_is part, good, short) refl

  choose : (same : Bool) (t : ℕ) (b : Result Block CaptureCause) → (if same then block_with n t b else Err (fault_in n cause.BlockLength)) ≡ block_with n t (if same then b else Err cause.BlockLength)
  choose true t b = refl
  choose false t b = refl

  -- it is whole
  pub block_whole : (z : InputEnd) (rest more : List ℕ) → is_bad_length least (number_at order 4 head 4) ≡ false → 12 ≤ number_at order 4 head 4 → length rest + 8 ≡ number_at order 4 head 4 →
      block_in z n order least (head ++ (rest ++ more)) said ≡ block_with n (number_at order 4 head 4) (block_rest order (number_at order 4 head 4) rest said)
  block_whole z rest more good room all =
      let t = number_at order 4 head 4 in
      let o = head ++ (rest ++ more) in
      let enough : ltb (length o) t ≡ false = simp length-append (grind (arith, nat_tests)) in
      let end : number_at order 4 o (t - 4) ≡ number_at order 4 rest (t - 12) =
      number_behind order 4 head (rest ++ more) (t - 4) (t - 12) (omega (arith, h, room)) ∙ number_front order 4 rest more (t - 12) (omega (arith, room, all)) in
      let body : take (t - 12) (drop 8 o) ≡ take (t - 12) rest = ap (take (t - 12)) (drop_at head (rest ++ more) 8 h) ∙ take-append-le (t - 12) rest more (omega (arith, room, all)) in
      rw (total_is (rest ++ more), good, enough, end, body) (choose (eqb (number_at order 4 rest (t - 12)) t) t (said (take (t - 12) rest)))

-- ---- a section header

section_order_is : (head magic rest : List ℕ) → length head ≡ 8 → length magic ≡ 4 → section_order (head ++ (magic ++ rest)) ≡ order_of_magic magic
section_order_is head magic rest h m =
    let big : number_at BigEndian 4 (head ++ (magic ++ rest)) 8 ≡ number_at BigEndian 4 magic 0 = number_behind BigEndian 4 head (magic ++ rest) 8 0 (omega (arith, h)) ∙ number_front BigEndian 4 magic rest 0 (omega (arith, m)) in
    let little : number_at LittleEndian 4 (head ++ (magic ++ rest)) 8 ≡ number_at LittleEndian 4 magic 0 = number_behind LittleEndian 4 head (magic ++ rest) 8 0 (omega (arith, h)) ∙ number_front LittleEndian 4 magic rest 0 (omega (arith, m)) in
    rw (big, little) refl

module _ (n : ℕ) (why : CaptureCause) (head : List ℕ) (h : length head ≡ 8) where
  -- its byte-order magic is not whole
  pub section_short : (z : InputEnd) (part : List ℕ) → length part < 4 → section_header z n why (head ++ part) ≡ Err (cut z n)
  section_short z part few =
      let short : ltb (length (head ++ part)) 12 ≡ true = simp length-append (grind (arith, nat_tests)) in
      rw short refl

  -- its byte-order magic is whole
  section_is : (z : InputEnd) (magic rest : List ℕ) → length magic ≡ 4 → section_header z n why (head ++ (magic ++ rest)) ≡ section_in z n why (head ++ (magic ++ rest)) (order_of_magic magic)
  section_is z magic rest m =
      let long : ltb (length (head ++ (magic ++ rest))) 12 ≡ false = simp length-append (grind (arith, nat_tests)) in
      rw long (ap (section_in z n why (head ++ (magic ++ rest))) (section_order_is head magic rest h m))

  -- it stands in neither order
  pub section_none : (z : InputEnd) (magic rest : List ℕ) → length magic ≡ 4 → None ≡ order_of_magic magic → section_header z n why ((head ++ magic) ++ rest) ≡ Err (fault_in n why)
  section_none z magic rest m e = ap (section_header z n why) (append_assoc head magic rest) ∙ section_is z magic rest m ∙ ap (section_in z n why (head ++ (magic ++ rest))) (sym e)

  module _ (magic : List ℕ) (order : OctetOrder) (m : length magic ≡ 4) (is : Some order ≡ order_of_magic magic) where
    section_by : (z : InputEnd) (rest : List ℕ) → section_header z n why ((head ++ magic) ++ rest) ≡ block_in z n order 28 (head ++ (magic ++ rest)) (section_said order why)
    section_by z rest = ap (section_header z n why) (append_assoc head magic rest) ∙ section_is z magic rest m ∙ ap (section_in z n why (head ++ (magic ++ rest))) (sym is)

    pub section_bad : (z : InputEnd) (rest : List ℕ) → is_bad_length 28 (number_at order 4 head 4) ≡ true → section_header z n why ((head ++ magic) ++ rest) ≡ Err (fault_in n cause.BlockLength)
    section_bad z rest bad = section_by z rest ∙ block_bad n order 28 head (section_said order why) h z (magic ++ rest) bad

    pub section_cut : (z : InputEnd) (part : List ℕ) → is_bad_length 28 (number_at order 4 head 4) ≡ false → length part + 12 < number_at order 4 head 4 → section_header z n why ((head ++ magic) ++ part) ≡ Err (cut z n)
    section_cut z part good few = section_by z part ∙ block_cut n order 28 head (section_said order why) h z (magic ++ part) good (simp length-append (omega (arith, m, few)))

    versions : (total : ℕ) (rest : List ℕ) → 28 ≤ total → length rest + 12 ≡ total → block_rest order total (magic ++ rest) (section_said order why) ≡ version_rest order why total rest
    versions total rest room all =
        let end : number_at order 4 (magic ++ rest) (total - 12) ≡ number_at order 4 rest (total - 16) = number_behind order 4 magic rest (total - 12) (total - 16) (omega (arith, m, room)) in
        let split : take (total - 12) (magic ++ rest) ++ drop (total - 12) (magic ++ rest) ≡ magic ++ rest = take-append-drop (total - 12) (magic ++ rest) in
        let size : length (take (total - 12) (magic ++ rest)) ≡ total - 12 = length-take-le (total - 12) (magic ++ rest) (simp length-append (omega (arith, m, all))) in
        let major : number_at order 2 (take (total - 12) (magic ++ rest)) 4 ≡ number_at order 2 rest 0 =
        sym (number_front order 2 (take (total - 12) (magic ++ rest)) (drop (total - 12) (magic ++ rest)) 4 (omega (arith, size, room)))
        ∙ ap (λ l. number_at order 2 l 4) split ∙ number_behind order 2 magic rest 4 0 (omega (arith, m)) in
        rw (end, major) refl

    pub section_whole : (z : InputEnd) (given more : List ℕ) → is_bad_length 28 (number_at order 4 head 4) ≡ false → 28 ≤ number_at order 4 head 4 → length given + 12 ≡ number_at order 4 head 4 →
        section_header z n why (((head ++ magic) ++ given) ++ more) ≡ block_with n (number_at order 4 head 4) (version_rest order why (number_at order 4 head 4) given)
    section_whole z given more good room all =
        let t = number_at order 4 head 4 in
        let text : ((head ++ magic) ++ given) ++ more ≡ (head ++ magic) ++ (given ++ more) = append_assoc (head ++ magic) given more in
        let rest : magic ++ (given ++ more) ≡ (magic ++ given) ++ more = sym (append_assoc magic given more) in
        ap (section_header z n why) text ∙ section_by z (given ++ more) ∙ ap (λ l. block_in z n order 28 (head ++ l) (section_said order why)) rest
        ∙ block_whole n order 28 head (section_said order why) h z (magic ++ given) more good (omega (arith, room)) (simp length-append (omega (arith, m, all)))
        ∙ ap (block_with n t) (versions t given room all)

-- what follows the byte-order magic, in its parts
module _ (order : OctetOrder) (why : CaptureCause) (total : ℕ) (versions others end : List ℕ) (v : length versions ≡ 4) (o : length others + 20 ≡ total) (e : length end ≡ 4) where
  version_parts : version_rest order why total ((versions ++ others) ++ end) ≡ (if number_at order 4 end 0 == total then (if number_at order 2 versions 0 == 1 then Ok (begins order) else Err why) else Err cause.BlockLength)
  version_parts =
      let size : length (versions ++ others) ≡ 4 + length others = simp length-append (omega (arith, v)) in
      let last : number_at order 4 ((versions ++ others) ++ end) (total - 16) ≡ number_at order 4 end 0 = number_behind order 4 (versions ++ others) end (total - 16) 0 (omega (arith, size, o)) in
      let major : number_at order 2 ((versions ++ others) ++ end) 0 ≡ number_at order 2 versions 0 =
      number_front order 2 (versions ++ others) end 0 (omega (arith, size)) ∙ number_front order 2 versions others 0 (omega (arith, v)) in
      rw (last, major) refl

  pub version_bad : (b : Bool) → b ≡ (number_at order 4 end 0 == total) → b ≡ false → version_rest order why total ((versions ++ others) ++ end) ≡ Err cause.BlockLength
  version_bad b is f = let other : eqb (number_at order 4 end 0) total ≡ false = sym is ∙ f in version_parts ∙ rw other refl

  pub version_one : (b : Bool) → b ≡ (number_at order 4 end 0 == total) → b ≡ true → number_at order 2 versions 0 ≡ 1 → version_rest order why total ((versions ++ others) ++ end) ≡ Ok (begins order)
  version_one b is f n =
      let same : eqb (number_at order 4 end 0) total ≡ true = sym is ∙ f in
      let one : eqb (number_at order 2 versions 0) 1 ≡ true = grind (arith, nat_tests) in
      version_parts ∙ rw (same, one) refl

  pub version_other : (b : Bool) → b ≡ (number_at order 4 end 0 == total) → b ≡ true → (number_at order 2 versions 0 ≡ 1 → ⊥) → version_rest order why total ((versions ++ others) ++ end) ≡ Err why
  version_other b is f n =
      let same : eqb (number_at order 4 end 0) total ≡ true = sym is ∙ f in
      let other : eqb (number_at order 2 versions 0) 1 ≡ false = grind (arith, nat_tests) in
      version_parts ∙ rw (same, other) refl

-- what follows the first eight octets of a block, in its parts
module _ (order : OctetOrder) (total : ℕ) (body end : List ℕ) (said : List ℕ → Result Block CaptureCause) (o : length body + 12 ≡ total) where
  rest_parts : block_rest order total (body ++ end) said ≡ (if number_at order 4 end 0 == total then said body else Err cause.BlockLength)
  rest_parts =
      let last : number_at order 4 (body ++ end) (total - 12) ≡ number_at order 4 end 0 = number_behind order 4 body end (total - 12) 0 (omega (arith, o)) in
      let all : take (total - 12) (body ++ end) ≡ body = take_at body end (total - 12) (omega (arith, o)) in
      rw (last, all) refl

  pub rest_good : (b : Bool) → b ≡ (number_at order 4 end 0 == total) → b ≡ true → said body ≡ block_rest order total (body ++ end) said
  rest_good b is f = let same : eqb (number_at order 4 end 0) total ≡ true = sym is ∙ f in sym (rest_parts ∙ rw same refl)

  pub rest_bad : (b : Bool) → b ≡ (number_at order 4 end 0 == total) → b ≡ false → block_rest order total (body ++ end) said ≡ Err cause.BlockLength
  rest_bad b is f = let other : eqb (number_at order 4 end 0) total ≡ false = sym is ∙ f in rest_parts ∙ rw other refl

-- ---- any block

module _ (n : ℕ) (s : Settled) (head : List ℕ) (h : length head ≡ 8) where
  long_enough : (rest : List ℕ) → ltb (length (head ++ rest)) 8 ≡ false
  long_enough rest = simp length-append (grind (arith, nat_tests))

  type_is : (rest : List ℕ) → number_at s.order 4 (head ++ rest) 0 ≡ number_at s.order 4 head 0
  type_is rest = number_front s.order 4 head rest 0 (omega (arith, h))

  pub block_of_section : (z : InputEnd) (rest : List ℕ) → number_at s.order 4 head 0 ≡ 0x0a0d0d0a → first_block z n s (head ++ rest) ≡ section_header z n cause.BlockForm (head ++ rest)
  block_of_section z rest e =
      let same : eqb (number_at s.order 4 head 0) 0x0a0d0d0a ≡ true = grind (arith, nat_tests) in
      rw (long_enough rest, type_is rest, same) refl

  pub block_of_type : (z : InputEnd) (rest : List ℕ) → (number_at s.order 4 head 0 ≡ 0x0a0d0d0a → ⊥) → first_block z n s (head ++ rest) ≡ block_in z n s.order 12 (head ++ rest) (body_said s (number_at s.order 4 head 0))
  block_of_type z rest e =
      let other : eqb (number_at s.order 4 head 0) 0x0a0d0d0a ≡ false = grind (arith, nat_tests) in
      rw (long_enough rest, type_is rest, other) refl

pub next_short : (z : InputEnd) (n : ℕ) (s : Settled) (x : ℕ) (xs : List ℕ) → length (x ∷ xs) < 8 → next_block z n s (x ∷ xs) ≡ Err (cut z n)
next_short z n s x xs few =
    let short : ltb (length (x ∷ xs)) 8 ≡ true = grind (arith, nat_tests) in
    rw short refl

pub next_some : (z : InputEnd) (n : ℕ) (s : Settled) (head rest : List ℕ) → 0 < length head → next_block z n s (head ++ rest) ≡ first_block z n s (head ++ rest)
next_some z n s [] rest h = absurd (omega (arith, h))
next_some z n s (x ∷ xs) rest h = refl

pub next_cut : (z : InputEnd) (n : ℕ) (s : Settled) (octets : List ℕ) → 0 < length octets → length octets < 8 → next_block z n s octets ≡ Err (cut z n)
next_cut z n s [] h few = absurd (omega (arith, h))
next_cut z n s (x ∷ xs) h few = next_short z n s x xs few

-- a block that is refused is told so
pub next_told : (A : Type 0) (e : ReadError CaptureFault) (t : Told Block) → IsBlockTold {A = A} t (Err e) → IsNextBlock {A = A} t (Err e)
next_told A (error.Fault f) t h = h
next_told A (error.Memory m) t h = h

-- fewer octets than a block's first eight leave all open
pub next_open : (n : ℕ) (s : Settled) (octets : List ℕ) → length octets < 8 → next_block Open n s octets ≡ Err unfinished
next_open n s [] few = refl
next_open n s (x ∷ xs) few = next_short Open n s x xs few

-- a block that was said is some block
pub said_block : {A : Type 0} (s : Said A) (r : Result Block CaptureCause) → IsSaidAs (Ok s) r → (b : Block) × (r ≡ Ok b) × IsSaidAs (Ok s) (Ok b)
said_block (said.Begins order) r e = (begins order, e, refl)
said_block (said.Describes i) r e = (describes i, e, refl)
said_block (said.Captures v) r (p, e, is, ethernet) = (captures p, e, (p, refl, is, ethernet))
said_block (said.CapturesOther moment link) r (p, e, at, of, other) = (captures p, e, (p, refl, at, of, other))
said_block said.Passes r e = (passes, e, refl)

-- a packet that was captured is what its block says
pub said_packet : {A : Type 0} (s : Said A) (p : Packet) (r : Result Block CaptureCause) → r ≡ Ok (captures p) → IsCaptured s p → IsSaidAs (Ok s) r
said_packet (said.Captures v) p r e (is, ethernet) = (p, e, is, ethernet)
said_packet (said.CapturesOther moment link) p r e (at, of, other) = (p, e, at, of, other)
said_packet (said.Begins order) p r e is = absurd is
said_packet (said.Describes i) p r e is = absurd is
said_packet said.Passes p r e is = absurd is

-- Octets that are sections of blocks, and what is read of them.
use Rattle.std.proofs.Common.{◌≡◌, ℕ, ◌+◌, ◌-◌, ◌<◌, ◌≤◌, zero, suc, Bool, true, false, ltb, eqb, inl, inr, List, [], ◌∷◌, ◌++◌, length, take, drop, Option, Some, None, Result, Ok, Err, ap, sym, ◌∙◌, refl, subst, arith}
use Rattle.std.specs.Prelude.{if◌then◌else◌}
use Rattle.std.proofs.lemmas.List.{length-append, length-take-le, take-append-drop, drop_at}
use Rattle.std.proofs.lemmas.Bool.Decides.{nat_tests}
use Rattle.list_core.specs.declared.device.InputEnd.{InputEnd}
use Rattle.list_core.specs.declared.device.InputEnd.TheVariants.{End}
use Rattle.list_core.specs.Lines.{Stop, finished}
use Rattle.capture_core.specs.Numbers.{number_at}
use Rattle.capture_core.specs.Capture.{cut, ended}
use Rattle.capture_core.specs.Packets.{Numbered, Packet, stopped}
use Rattle.capture_core.specs.Interfaces.{interface_in}
use Rattle.capture_core.specs.Blocks.{Block, BlockRead, Settled, before_others, begins, block_in, block_with, body_said, captures, count_after, describes, first_block, interface_said, is_bad_length, next_block, packets_of_blocks, passes, put_block, section_header, section_in, section_order, section_said, settled_after}
use Rattle.capture_core.specs.SpelledBlocks.{IsBlock, IsInterface, IsOtherType, IsPacket, IsSectionHeader, SpellsBlock, SpellsBlocks, packets_said, type_of}
use Rattle.capture_core.specs.declared.interface.Interface.{Interface}
use Rattle.capture_core.specs.declared.form.OctetOrder.{OctetOrder}
use Rattle.capture_core.specs.declared.capture_fault.CaptureCause.{CaptureCause}
use Rattle.capture_core.specs.declared.capture_fault.CaptureCause.TheVariants as cause
use Rattle.capture_core.specs.declared.capture_fault.CaptureFault.{CaptureFault}
use Rattle.capture_core.proofs.NumberPlaces.{number_front}
use Rattle.capture_core.proofs.BlocksRead.{next_some}
use Rattle.capture_core.proofs.BlocksSpelled.{accepted, body_size, not_refused, number_taken, read_block, read_section, spelled_block, spelled_section}
use Rattle.capture_core.proofs.InterfacesSpelled.{read_interface, spelled_interface}
use Rattle.capture_core.proofs.PacketsSpelled.{enhanced_read, enhanced_said, obsolete_read, obsolete_said, simple_read, simple_said}
use Rattle.capture_core.proofs.SpelledCaptures.{no_fault, not_cut, only_end}

-- ---- what bodies say

interface_told : (s : Settled) (i : Interface) (body : List ℕ) → length s.interfaces < 65536 → IsInterface s.order i body → body_said s 1 body ≡ Ok (describes i)
interface_told s i body few h =
    let room : ltb (length s.interfaces) 65536 ≡ true = grind (arith, nat_tests) in
    rw (spelled_interface s.order i body h, room) refl

packet_told : (s : Settled) (type : ℕ) (p : Packet) (body : List ℕ) → IsPacket s type p body → body_said s type body ≡ Ok (captures p)
packet_told s type p body (inl (e, t)) = rw e (enhanced_said s p body t)
packet_told s type p body (inr (inl (e, t))) = rw e (obsolete_said s p body t)
packet_told s type p body (inr (inr (e, t))) = rw e (simple_said s p body t)

other_told : (s : Settled) (type : ℕ) (body : List ℕ) → IsOtherType type → body_said s type body ≡ Ok passes
other_told s type body (a, b, c, d, e) =
    let one : eqb type 1 ≡ false = grind (arith, nat_tests) in
    let six : eqb type 6 ≡ false = grind (arith, nat_tests) in
    let two : eqb type 2 ≡ false = grind (arith, nat_tests) in
    let three : eqb type 3 ≡ false = grind (arith, nat_tests) in
    rw (one, six, two, three) refl

same_said : (a b : Block) → ◌≡◌ {A = Result Block CaptureCause} (Ok a) (Ok b) → a ≡ b
same_said a b e = cc

-- what the body of a block of this type says
SaysBody : Settled → ℕ → Block → List ℕ → Type 0
SaysBody s type (begins order) body = ⊥
SaysBody s type (describes i) body = (type ≡ 1) × (length s.interfaces < 65536) × IsInterface s.order i body
SaysBody s type (captures p) body = IsPacket s type p body
SaysBody s type passes body = IsOtherType type

interface_read : (s : Settled) (body : List ℕ) (b : Block) (type : ℕ) (found : Option Interface) → interface_in s.order body ≡ found → type ≡ 1 → interface_said s found ≡ Ok b → SaysBody s type b body
unfolding SaysBody
interface_read s body b type None f t e = cc
interface_read s body b type (Some i) f t e =
    let v = accepted (ltb (length s.interfaces) 65536) cause.BlockForm (Ok (describes i)) b e in
    let room = v.0 in
    let few : length s.interfaces < 65536 = grind (arith, nat_tests, room) in
    let same : describes i ≡ b = same_said (describes i) b v.1 in
    subst (λ (k : Block). SaysBody s type k body) same (t, few, read_interface s.order i body f)

-- what was read of a body is what it says
module _ (s : Settled) (type : ℕ) (body : List ℕ) (b : Block) (no_header : type ≡ 0x0a0d0d0a → ⊥) where
  body_by : (x six two three : Bool) → eqb type 1 ≡ x → eqb type 6 ≡ six → eqb type 2 ≡ two → eqb type 3 ≡ three → body_said s type body ≡ Ok b → SaysBody s type b body
  unfolding SaysBody
  body_by true six two three e f g h r = let one : type ≡ 1 = grind (arith, nat_tests, e) in interface_read s body b type (interface_in s.order body) refl one (rw e at r)
  body_by false true two three e f g h r =
      let six : type ≡ 6 = grind (arith, nat_tests, f) in
      let (p, is, t) = enhanced_read s body b (rw (e, f) at r) in
      subst (λ (k : Block). SaysBody s type k body) (sym is) (inl (six, t))
  body_by false false true three e f g h r =
      let two : type ≡ 2 = grind (arith, nat_tests, g) in
      let (p, is, t) = obsolete_read s body b (rw (e, f, g) at r) in
      subst (λ (k : Block). SaysBody s type k body) (sym is) (inr (inl (two, t)))
  body_by false false false true e f g h r =
      let three : type ≡ 3 = grind (arith, nat_tests, h) in
      let (p, is, t) = simple_read s body b (rw (e, f, g, h) at r) in
      subst (λ (k : Block). SaysBody s type k body) (sym is) (inr (inr (three, t)))
  body_by false false false false e f g h r =
      let same : passes ≡ b = same_said passes b (rw (e, f, g, h) at r) in
      subst (λ (k : Block). SaysBody s type k body) same (no_header, λ c. grind (arith, nat_tests, e, c), λ c. grind (arith, nat_tests, g, c), λ c. grind (arith, nat_tests, h, c), λ c. grind (arith, nat_tests, f, c))

  body_read : body_said s type body ≡ Ok b → SaysBody s type b body
  body_read r = body_by (eqb type 1) (eqb type 6) (eqb type 2) (eqb type 3) refl refl refl refl r

-- ---- one block

module _ (z : InputEnd) (n : ℕ) (s : Settled) where
  type_front : (o more : List ℕ) → 12 ≤ length o → number_at s.order 4 (o ++ more) 0 ≡ type_of s o
  type_front o more h = number_front s.order 4 o more 0 (omega (arith, h))

  long_front : (o more : List ℕ) → 12 ≤ length o → ltb (length (o ++ more)) 8 ≡ false
  long_front o more h = simp length-append (grind (arith, nat_tests))

  spelled_header : (order : OctetOrder) (o more : List ℕ) → type_of s o ≡ 0x0a0d0d0a → IsSectionHeader order o → first_block z n s (o ++ more) ≡ Ok (begins order, length o)
  spelled_header order o more t h =
      let room : 12 ≤ length o = omega (arith, h.at_least) in
      let same : eqb (type_of s o) 0x0a0d0d0a ≡ true = grind (arith, nat_tests, t) in
      rw (long_front o more room, type_front o more room, same) (spelled_section z n cause.BlockForm order o more h)

  spelled_other : (b : Block) (body o more : List ℕ) → (type_of s o ≡ 0x0a0d0d0a → ⊥) → IsBlock s.order body o → body_said s (type_of s o) body ≡ Ok b → first_block z n s (o ++ more) ≡ Ok (b, length o)
  spelled_other b body o more t block said =
      let size = body_size s.order body o block in
      let room : 12 ≤ length o = omega (arith, size) in
      let other : eqb (type_of s o) 0x0a0d0d0a ≡ false = grind (arith, nat_tests, t) in
      rw (long_front o more room, type_front o more room, other) (spelled_block z n s.order 12 body o more (body_said s (type_of s o)) block room ∙ rw said refl)

  packet_type : (type : ℕ) (p : Packet) (body : List ℕ) → IsPacket s type p body → type ≡ 0x0a0d0d0a → ⊥
  packet_type type p body (inl (e, t)) f = omega (arith, e, f)
  packet_type type p body (inr (inl (e, t))) f = omega (arith, e, f)
  packet_type type p body (inr (inr (e, t))) f = omega (arith, e, f)

  -- octets that say a block are read as it
  pub spelled_first : (b : Block) (o more : List ℕ) → SpellsBlock s b o → first_block z n s (o ++ more) ≡ Ok (b, length o)
  spelled_first (begins order) o more (t, h) = spelled_header order o more t h
  spelled_first (describes i) o more (t, few, (body, block, h)) =
      spelled_other (describes i) body o more (λ f. omega (arith, t, f)) block (ap (λ (k : ℕ). body_said s k body) t ∙ interface_told s i body few h)
  spelled_first (captures p) o more (body, block, h) = spelled_other (captures p) body o more (packet_type (type_of s o) p body h) block (packet_told s (type_of s o) p body h)
  spelled_first passes o more (t, (body, block)) = spelled_other passes body o more t.0 block (other_told s (type_of s o) body t)

  spells_by : (b : Block) (body o : List ℕ) → IsBlock s.order body o → SaysBody s (type_of s o) b body → SpellsBlock s b o
  unfolding SaysBody
  spells_by (begins order) body o block h = absurd h
  spells_by (describes i) body o block h = (h.0, h.1, (body, block, h.2))
  spells_by (captures p) body o block h = (body, block, h)
  spells_by passes body o block h = (h, (body, block))

  -- what was read as a block is octets that say it
  unfoldable pub Reads : List ℕ → Block → ℕ → Type 0
  Reads o b size = SpellsBlock s b (take size o) × (12 ≤ size) × (size ≤ length o)

  type_taken : (o : List ℕ) (size : ℕ) → 12 ≤ size → size ≤ length o → type_of s (take size o) ≡ type_of s o
  type_taken o size h l = number_taken s.order 4 0 size o (omega (arith, h)) l

  read_by : (o : List ℕ) (b : Block) (size : ℕ) (x : Bool) → eqb (type_of s o) 0x0a0d0d0a ≡ x →
      (if x then section_header z n cause.BlockForm o else block_in z n s.order 12 o (body_said s (type_of s o))) ≡ Ok (b, size) → Reads o b size
  unfolding Reads
  read_by o b size true t e =
      let type : type_of s o ≡ 0x0a0d0d0a = grind (arith, nat_tests, t) in
      let (order, is, h, l) = read_section z n cause.BlockForm o b size e in
      let all : length (take size o) ≡ size = length-take-le size o l in
      let room : 12 ≤ size = omega (arith, all, h.at_least) in
      (subst (λ (k : Block). SpellsBlock s k (take size o)) (sym is) (type_taken o size room l ∙ type, h), room, l)
  read_by o b size false t e =
      let other : type_of s o ≡ 0x0a0d0d0a → ⊥ = λ c. grind (arith, nat_tests, t, c) in
      let (body, block, room, l, said) = read_block z n s.order 12 o (body_said s (type_of s o)) b size (omega arith) e in
      let says = body_read s (type_of s o) body b other said in
      (spells_by b body (take size o) block (subst (λ (k : ℕ). SaysBody s k b body) (sym (type_taken o size room l)) says), room, l)

  pub read_next : (o : List ℕ) (b : Block) (size : ℕ) → next_block z n s o ≡ Ok (b, size) → Reads o b size
  read_next [] b size e = cc
  read_next (x ∷ xs) b size e =
      let first = not_refused (ltb (length (x ∷ xs)) 8) (cut z n) _ (b, size) e in
      read_by (x ∷ xs) b size (eqb (type_of s (x ∷ xs)) 0x0a0d0d0a) refl first.1

-- ---- where a capture has not ended

-- a block that is refused is no end
Goes : BlockRead → Type 0
Goes (Err stop) = stop ≡ finished → ⊥
Goes (Ok b) = Unit {0}

either_goes : (b : Bool) (f g : BlockRead) → Goes f → Goes g → Goes (if b then f else g)
either_goes true f g p q = p
either_goes false f g p q = q

with_goes : (n total : ℕ) (r : Result Block CaptureCause) → Goes (block_with n total r)
unfolding Goes
with_goes n total (Ok b) = tt
with_goes n total (Err why) = no_fault n why

block_goes : (z : InputEnd) (n : ℕ) (order : OctetOrder) (least : ℕ) (o : List ℕ) (said : List ℕ → Result Block CaptureCause) → Goes (block_in z n order least o said)
unfolding Goes
block_goes z n order least o said =
    let total = number_at order 4 o 4 in
    either_goes (is_bad_length least total) _ _ (no_fault n cause.BlockLength)
    (either_goes (ltb (length o) total) _ _ (not_cut z n)
    (either_goes (eqb (number_at order 4 o (total - 4)) total) _ _ (with_goes n total (said (take (total - 12) (drop 8 o)))) (no_fault n cause.BlockLength)))

in_goes : (z : InputEnd) (n : ℕ) (why : CaptureCause) (o : List ℕ) (order : Option OctetOrder) → Goes (section_in z n why o order)
unfolding Goes
in_goes z n why o None = no_fault n why
in_goes z n why o (Some order) = block_goes z n order 28 o (section_said order why)

header_goes : (z : InputEnd) (n : ℕ) (why : CaptureCause) (o : List ℕ) → Goes (section_header z n why o)
unfolding Goes
header_goes z n why o = either_goes (ltb (length o) 12) _ _ (not_cut z n) (in_goes z n why o (section_order o))

first_goes : (z : InputEnd) (n : ℕ) (s : Settled) (o : List ℕ) → Goes (first_block z n s o)
unfolding Goes
first_goes z n s o =
    either_goes (ltb (length o) 8) _ _ (not_cut z n)
    (either_goes (eqb (number_at s.order 4 o 0) 0x0a0d0d0a) _ _ (header_goes z n cause.BlockForm o) (block_goes z n s.order 12 o (body_said s (number_at s.order 4 o 0))))

goes_on : (f : BlockRead) (stop : Stop CaptureFault) → f ≡ Err stop → Goes f → stop ≡ finished → ⊥
unfolding Goes
goes_on (Err stop) t e h f = h ((let same : stop ≡ t = cc in same) ∙ f)
goes_on (Ok b) t e h f = cc

-- a section header that is refused is no end
pub header_no_end : (z : InputEnd) (n : ℕ) (why : CaptureCause) (o : List ℕ) (stop : Stop CaptureFault) → section_header z n why o ≡ Err stop → stop ≡ finished → ⊥
header_no_end z n why o stop e f = goes_on (section_header z n why o) stop e (header_goes z n why o) f

next_end : (z : InputEnd) (n : ℕ) (s : Settled) (o : List ℕ) (stop : Stop CaptureFault) → next_block z n s o ≡ Err stop → stop ≡ finished → (o ≡ []) × (z ≡ End)
next_end z n s [] stop e f = (refl, only_end z n ((let same : ended z n ≡ stop = cc in same) ∙ f))
next_end z n s (x ∷ xs) stop e f = absurd (goes_on (first_block z n s (x ∷ xs)) stop e (first_goes z n s (x ∷ xs)) f)

-- ---- blocks one behind another

pub spelled_room : (s : Settled) (b : Block) (o : List ℕ) → SpellsBlock s b o → 12 ≤ length o
spelled_room s (begins order) o (t, h) = omega (arith, h.at_least)
spelled_room s (describes i) o (t, few, (body, block, h)) = let size = body_size s.order body o block in omega (arith, size)
spelled_room s (captures p) o (body, block, h) = let size = body_size s.order body o block in omega (arith, size)
spelled_room s passes o (t, (body, block)) = let size = body_size s.order body o block in omega (arith, size)

pub spelled_blocks : (bs : List Block) (s : Settled) (n most : ℕ) (o : List ℕ) → length bs ≤ most → SpellsBlocks s bs o → packets_of_blocks End s n most o ≡ packets_said n bs
unfolding packets_of_blocks
spelled_blocks [] s n zero o h e = rw e refl
spelled_blocks [] s n (suc most) o h e = rw e refl
spelled_blocks (b ∷ bs) s n zero o h e = absurd (omega (arith, h))
spelled_blocks (b ∷ bs) s n (suc most) o h (front, rest, e, one, others) =
    let more = λ (c : Block) (size : ℕ). packets_of_blocks End (settled_after s c) (count_after n c) most (drop size (front ++ rest)) in
    let room = spelled_room s b front one in
    ap (packets_of_blocks End s n (suc most)) e
    ∙ ap (λ (r : BlockRead). before_others n r more) (next_some End (n + 1) s front rest (omega (arith, room)) ∙ spelled_first End (n + 1) s b front rest one)
    ∙ ap (λ (l : List ℕ). put_block n b (packets_of_blocks End (settled_after s b) (count_after n b) most l)) (drop_at front rest (length front) refl)
    ∙ ap (put_block n b) (spelled_blocks bs (settled_after s b) (count_after n b) most rest (omega (arith, h)) others)

pub stop_same : (n : ℕ) (b : Block) (l : Numbered Packet) → (put_block n b l).stop ≡ l.stop
stop_same n (begins order) l = refl
stop_same n (describes i) l = refl
stop_same n (captures p) l = refl
stop_same n passes l = refl

-- blocks that were read to their end
unfoldable pub AreRead : InputEnd → Settled → ℕ → ℕ → List ℕ → Numbered Packet → Type 0
AreRead z s n most o l = (z ≡ End) × ((bs : List Block) × (length bs ≤ most) × SpellsBlocks s bs o × (l ≡ packets_said n bs))

module _ (z : InputEnd) (s : Settled) (n most : ℕ) (o : List ℕ)
    (others : (b : Block) (size : ℕ) → (packets_of_blocks z (settled_after s b) (count_after n b) most (drop size o)).stop ≡ finished →
    AreRead z (settled_after s b) (count_after n b) most (drop size o) (packets_of_blocks z (settled_after s b) (count_after n b) most (drop size o))) where
  one_more : (f : BlockRead) → next_block z (n + 1) s o ≡ f → (before_others n f (λ b size. packets_of_blocks z (settled_after s b) (count_after n b) most (drop size o))).stop ≡ finished →
      AreRead z s n (suc most) o (before_others n f (λ b size. packets_of_blocks z (settled_after s b) (count_after n b) most (drop size o)))
  unfolding AreRead Reads
  one_more (Err stop) e f =
      let t = next_end z (n + 1) s o stop e f in
      (t.1, ([], omega arith, t.0, ap (λ (k : Stop CaptureFault). stopped k) f))
  one_more (Ok (b, size)) e f =
      let r = read_next z (n + 1) s o b size e in
      let t = others b size (sym (stop_same n b (packets_of_blocks z (settled_after s b) (count_after n b) most (drop size o))) ∙ f) in
      (t.0, (b ∷ t.1.0, omega (arith, t.1.1), (take size o, drop size o, sym (take-append-drop size o), r.0, t.1.2), ap (put_block n b) t.1.3))

pub read_blocks : (most : ℕ) (z : InputEnd) (s : Settled) (n : ℕ) (o : List ℕ) → (packets_of_blocks z s n most o).stop ≡ finished → AreRead z s n most o (packets_of_blocks z s n most o)
unfolding packets_of_blocks AreRead
read_blocks zero z s n [] f = let e = only_end z (n + 1) f in (e, ([], omega arith, refl, ap (λ w. stopped (ended w (n + 1))) e))
read_blocks zero z s n (x ∷ xs) f = absurd (no_fault (n + 1) cause.TooManyRecords f)
read_blocks (suc most) z s n o f =
    one_more z s n most o (λ b size g. read_blocks most z (settled_after s b) (count_after n b) (drop size o) g) (next_block z (n + 1) s o) refl f

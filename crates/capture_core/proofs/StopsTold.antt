-- How a capture stops tells how its source stands.
use Rattle.std.proofs.Common.{◌≡◌, ℕ, ◌+◌, ◌-◌, zero, suc, Bool, true, false, List, [], ◌∷◌, drop, Option, Some, None, Result, Ok, Err, refl, sym, ◌∙◌}
use Rattle.std.specs.Prelude.{if◌then◌else◌, ⊤, slice_get, take, length, nat_lt, ◌==◌}
use Rattle.list_core.specs.declared.device.InputEnd.{InputEnd}
use Rattle.list_core.specs.declared.device.InputEnd.TheVariants.{Open, End, Failed}
use Rattle.list_core.specs.Lines.{Stop, finished, unfinished, faulty}
use Rattle.capture_core.specs.Numbers.{number_at}
use Rattle.capture_core.specs.Header.{form_of, header_of}
use Rattle.capture_core.specs.Capture.{Capture, captured_size, cut, ended, fault_in, read_one, records_of}
use Rattle.capture_core.specs.Packets.{Numbered, Packet, is_by_source, is_failed_read}
use Rattle.capture_core.specs.Interfaces.{interface_in, padded}
use Rattle.capture_core.specs.Blocks.{Block, BlockRead, Settled, before_others, begins, block_in, block_with, body_said, captured_behind, captured_length, captures, count_after, describes, first_block, head_at, head_on, head_size, interface_number, interface_said, is_bad_length, next_block, packet_block_of, packet_head, packet_in, packet_moment, packets_of_blocks, passes, put_block, said_by_kind, section_header, section_in, section_order, section_said, settled_after}
use Rattle.capture_core.specs.Captured.{captured_packets, packets_behind_header, packets_behind_section, packets_by_magic, unsettled}
use Rattle.capture_core.specs.declared.form.CaptureForm.{CaptureForm}
use Rattle.capture_core.specs.declared.form.OctetOrder.{OctetOrder}
use Rattle.capture_core.specs.declared.form.OctetOrder.TheVariants.{BigEndian}
use Rattle.capture_core.specs.declared.interface.Interface.{Interface}
use Rattle.capture_core.specs.declared.packet_block.PacketBlock.{PacketBlock}
use Rattle.capture_core.specs.declared.packet_block.PacketHead.{PacketHead}
use Rattle.capture_core.specs.declared.capture_fault.CaptureCause.{CaptureCause}
use Rattle.capture_core.specs.declared.capture_fault.CaptureCause.TheVariants as cause
use Rattle.capture_core.specs.declared.capture_fault.CaptureFault.{CaptureFault}

-- what a stop says of the source
abbrev pub CaptureMeans : Stop CaptureFault → InputEnd → Type 0
CaptureMeans finished z = z ≡ End
CaptureMeans unfinished z = z ≡ Open
CaptureMeans (faulty f) z = is_failed_read f ≡ true → z ≡ Failed

-- a result that is refused for no failed source
abbrev IsSourceless : {T : Type 0} → Result T CaptureCause → Type 0
IsSourceless (Ok t) = ⊤
IsSourceless (Err why) = is_by_source why ≡ false

-- a block that was read, or a stop that says this of the source
abbrev BlockMeans : BlockRead → InputEnd → Type 0
BlockMeans (Ok b) z = ⊤
BlockMeans (Err stop) z = CaptureMeans stop z

cut_means : (z : InputEnd) (n : ℕ) → CaptureMeans (cut z n) z
cut_means End n = λ e. cc
cut_means Failed n = λ e. refl
cut_means Open n = refl

ended_means : (z : InputEnd) (n : ℕ) → CaptureMeans (ended z n) z
ended_means End n = refl
ended_means Failed n = λ e. refl
ended_means Open n = refl

fault_means : (z : InputEnd) (n : ℕ) (why : CaptureCause) → is_by_source why ≡ false → CaptureMeans (fault_in n why) z
fault_means z n why unblamed = λ e. let both = sym unblamed ∙ e in cc

-- by a test, one thing or the other
either : {T : Type 0} (P : T → Type 0) (b : Bool) (x y : T) → P x → P y → P (if b then x else y)
either P true x y p q = p
either P false x y p q = q

-- ---- records

one_means : (form : CaptureForm) (z : InputEnd) (n : ℕ) (head rest : List ℕ) (others : Capture) → CaptureMeans others.stop z → CaptureMeans (read_one form z n head rest others).stop z
one_means form z n head rest others h =
    either (λ (c : Capture). CaptureMeans c.stop z) (nat_lt (length head) 16) _ _ (cut_means z n)
    (either (λ (c : Capture). CaptureMeans c.stop z) (nat_lt 262144 (captured_size form head)) _ _ (fault_means z n cause.RecordLength refl)
    (either (λ (c : Capture). CaptureMeans c.stop z) (nat_lt (length rest) (captured_size form head)) _ _ (cut_means z n) h))

records_mean : (form : CaptureForm) (z : InputEnd) (n most : ℕ) (octets : List ℕ) → CaptureMeans (records_of form z n most octets).stop z
unfolding records_of
records_mean form z n zero [] = ended_means z (n + 1)
records_mean form z n zero (x ∷ xs) = fault_means z (n + 1) cause.TooManyRecords refl
records_mean form z n (suc most) [] = ended_means z (n + 1)
records_mean form z n (suc most) (x ∷ xs) =
    let head = take 16 (x ∷ xs) in
    let rest = drop 16 (x ∷ xs) in
    let others = drop (captured_size form head) rest in
    one_means form z (n + 1) head rest (records_of form z (n + 1) most others) (records_mean form z (n + 1) most others)

-- ---- blocks

head_sourceless : (link size : ℕ) (moment : Option ℕ) → IsSourceless (head_at link size moment)
head_sourceless link size None = refl
head_sourceless link size (Some m) = tt

on_sourceless : (kind : PacketBlock) (s : Settled) (head : List ℕ) (size : ℕ) (i : Option Interface) → IsSourceless (head_on kind s head size i)
on_sourceless kind s head size None = refl
on_sourceless kind s head size (Some i) =
    let captured = captured_length kind s.order i head in
    let Sound = λ (r : Result PacketHead CaptureCause). IsSourceless r in
    either Sound (nat_lt 262144 captured) (Err cause.RecordLength) _ refl
    (either Sound (nat_lt size (head_size kind + padded captured)) (Err cause.BlockForm) (head_at i.link_type captured (packet_moment kind s i head)) refl (head_sourceless i.link_type captured (packet_moment kind s i head)))

behind_sourceless : (kind : PacketBlock) (body : List ℕ) (head : Result PacketHead CaptureCause) → IsSourceless head → IsSourceless (captured_behind kind body head)
behind_sourceless kind body (Ok head) h = tt
behind_sourceless kind body (Err why) h = h

packet_sourceless : (kind : PacketBlock) (s : Settled) (body : List ℕ) → IsSourceless (packet_in kind s body)
packet_sourceless kind s body =
    behind_sourceless kind body (packet_head kind s body (length body))
    (either (λ (r : Result PacketHead CaptureCause). IsSourceless r) (nat_lt (length body) (head_size kind)) _ _ refl (on_sourceless kind s body (length body) (slice_get s.interfaces (interface_number kind s.order body))))

interface_sourceless : (s : Settled) (i : Option Interface) → IsSourceless (interface_said s i)
interface_sourceless s None = refl
interface_sourceless s (Some i) = either (λ (r : Result Block CaptureCause). IsSourceless r) (nat_lt (length s.interfaces) 65536) _ _ tt refl

kind_sourceless : (s : Settled) (kind : Option PacketBlock) (body : List ℕ) → IsSourceless (said_by_kind s kind body)
kind_sourceless s None body = tt
kind_sourceless s (Some kind) body = packet_sourceless kind s body

body_sourceless : (s : Settled) (type : ℕ) (body : List ℕ) → IsSourceless (body_said s type body)
body_sourceless s type body =
    either (λ (r : Result Block CaptureCause). IsSourceless r) (type == 1) _ _ (interface_sourceless s (interface_in s.order body)) (kind_sourceless s (packet_block_of type) body)

section_sourceless : (order : OctetOrder) (why : CaptureCause) (body : List ℕ) → is_by_source why ≡ false → IsSourceless (section_said order why body)
section_sourceless order why body unblamed = either (λ (r : Result Block CaptureCause). IsSourceless r) (number_at order 2 body 4 == 1) _ _ tt unblamed

with_means : (z : InputEnd) (n total : ℕ) (said : Result Block CaptureCause) → IsSourceless said → BlockMeans (block_with n total said) z
with_means z n total (Ok b) h = tt
with_means z n total (Err why) h = fault_means z n why h

in_means : (z : InputEnd) (n : ℕ) (order : OctetOrder) (least : ℕ) (octets : List ℕ) (said : List ℕ → Result Block CaptureCause) → ((body : List ℕ) → IsSourceless (said body)) → BlockMeans (block_in z n order least octets said) z
in_means z n order least octets said h =
    let total = number_at order 4 octets 4 in
    let Means = λ (r : BlockRead). BlockMeans r z in
    let bad : BlockRead = Err (fault_in n cause.BlockLength) in
    let with_body : BlockRead = block_with n total (said (take (total - 12) (drop 8 octets))) in
    let whole : BlockRead = if number_at order 4 octets (total - 4) == total then with_body else bad in
    either Means (is_bad_length least total) bad (if nat_lt (length octets) total then Err (cut z n) else whole) (fault_means z n cause.BlockLength refl)
    (either Means (nat_lt (length octets) total) (Err (cut z n)) whole (cut_means z n)
    (either Means (number_at order 4 octets (total - 4) == total) with_body bad (with_means z n total (said (take (total - 12) (drop 8 octets))) (h (take (total - 12) (drop 8 octets)))) (fault_means z n cause.BlockLength refl)))

order_means : (z : InputEnd) (n : ℕ) (why : CaptureCause) (octets : List ℕ) (order : Option OctetOrder) → is_by_source why ≡ false → BlockMeans (section_in z n why octets order) z
order_means z n why octets None unblamed = fault_means z n why unblamed
order_means z n why octets (Some order) unblamed = in_means z n order 28 octets (section_said order why) (λ body. section_sourceless order why body unblamed)

section_means : (z : InputEnd) (n : ℕ) (why : CaptureCause) (octets : List ℕ) → is_by_source why ≡ false → BlockMeans (section_header z n why octets) z
section_means z n why octets unblamed = either (λ (r : BlockRead). BlockMeans r z) (nat_lt (length octets) 12) _ _ (cut_means z n) (order_means z n why octets (section_order octets) unblamed)

first_means : (z : InputEnd) (n : ℕ) (s : Settled) (octets : List ℕ) → BlockMeans (first_block z n s octets) z
first_means z n s octets =
    either (λ (r : BlockRead). BlockMeans r z) (nat_lt (length octets) 8) _ _ (cut_means z n)
    (either (λ (r : BlockRead). BlockMeans r z) (number_at s.order 4 octets 0 == 0x0a0d0d0a) _ _ (section_means z n cause.BlockForm octets refl)
    (in_means z n s.order 12 octets (body_said s (number_at s.order 4 octets 0)) (λ body. body_sourceless s (number_at s.order 4 octets 0) body)))

next_means : (z : InputEnd) (n : ℕ) (s : Settled) (octets : List ℕ) → BlockMeans (next_block z n s octets) z
next_means z n s [] = ended_means z n
next_means z n s (x ∷ xs) = first_means z n s (x ∷ xs)

put_means : (z : InputEnd) (n : ℕ) (b : Block) (others : Numbered Packet) → CaptureMeans others.stop z → CaptureMeans (put_block n b others).stop z
put_means z n (begins order) others h = h
put_means z n (describes i) others h = h
put_means z n (captures p) others h = h
put_means z n passes others h = h

before_means : (z : InputEnd) (n : ℕ) (r : BlockRead) (others : Block → ℕ → Numbered Packet) → BlockMeans r z → ((b : Block) (size : ℕ) → CaptureMeans (others b size).stop z) → CaptureMeans (before_others n r others).stop z
before_means z n (Err stop) others h rest = h
before_means z n (Ok b) others h rest = put_means z n b.0 (others b.0 b.1) (rest b.0 b.1)

blocks_mean : (z : InputEnd) (s : Settled) (n most : ℕ) (octets : List ℕ) → CaptureMeans (packets_of_blocks z s n most octets).stop z
unfolding packets_of_blocks
blocks_mean z s n zero [] = ended_means z (n + 1)
blocks_mean z s n zero (x ∷ xs) = fault_means z (n + 1) cause.TooManyRecords refl
blocks_mean z s n (suc most) octets =
    before_means z n (next_block z (n + 1) s octets) _ (next_means z (n + 1) s octets) (λ b size. blocks_mean z (settled_after s b) (count_after n b) most (drop size octets))

-- ---- captures

header_means : (form : Option CaptureForm) (z : InputEnd) (most : ℕ) (octets : List ℕ) → CaptureMeans (packets_behind_header form z most octets).stop z
header_means None z most octets = fault_means z 0 cause.CaptureHeader refl
header_means (Some form) z most octets = records_mean form z 0 most octets

behind_means : (r : BlockRead) (z : InputEnd) (most : ℕ) (octets : List ℕ) → BlockMeans r z → CaptureMeans (packets_behind_section r z most octets).stop z
behind_means (Err stop) z most octets h = h
behind_means (Ok b) z most octets h = blocks_mean z (settled_after unsettled b.0) 0 most (drop b.1 octets)

magic_means : (form : Option CaptureForm) (z : InputEnd) (octets : List ℕ) → CaptureMeans (packets_by_magic form z octets).stop z
magic_means None z octets =
    either (λ (l : Numbered Packet). CaptureMeans l.stop z) (number_at BigEndian 4 octets 0 == 0x0a0d0d0a) _ _
    (behind_means (section_header z 0 cause.CaptureHeader octets) z 999999999999999997 octets (section_means z 0 cause.CaptureHeader octets refl))
    (fault_means z 0 cause.CaptureHeader refl)
magic_means (Some form) z octets =
    either (λ (l : Numbered Packet). CaptureMeans l.stop z) (nat_lt (length octets) 24) _ _ (cut_means z 0)
    (header_means (header_of (take 24 octets)) z 999999999999999998 (drop 24 octets))

pub capture_means : (z : InputEnd) (octets : List ℕ) → CaptureMeans (captured_packets z octets).stop z
capture_means z octets =
    either (λ (l : Numbered Packet). CaptureMeans l.stop z) (nat_lt (length octets) 4) _ _ (cut_means z 0) (magic_means (form_of (take 4 octets)) z octets)

-- Octets that say a packet, and what is read of them.
use Rattle.std.proofs.Common.{◌≡◌, ℕ, ◌+◌, ◌-◌, ◌<◌, ◌≤◌, Bool, true, false, ltb, List, ◌++◌, length, take, drop, Option, Some, None, Result, Ok, Err, ap, sym, ◌∙◌, refl, arith, append_assoc}
use Rattle.std.specs.Prelude.{◌*◌, ◌^◌, slice_get, if◌then◌else◌}
use Rattle.std.proofs.lemmas.List.{length-append, length-drop, length-take-le, take-append-drop, take-take, take_at, drop_at}
use Rattle.std.proofs.lemmas.Bool.Decides.{nat_tests}
use Rattle.capture_core.specs.Numbers.{number_at}
use Rattle.capture_core.specs.Packets.{Packet}
use Rattle.capture_core.specs.Interfaces.{microseconds_forth, moment_after, padded, seconds_back}
use Rattle.capture_core.specs.Blocks.{Block, Settled, captured_behind, captured_length, captures, head_at, head_on, head_size, interface_number, packet_head, packet_in, packet_moment, ticks_in}
use Rattle.capture_core.specs.SpelledBlocks.{HoldsCaptured, IsPacketTime, IsSimplePacket, IsTimedPacket}
use Rattle.capture_core.specs.declared.interface.Interface.{Interface}
use Rattle.capture_core.specs.declared.packet_block.PacketBlock.{PacketBlock}
use Rattle.capture_core.specs.declared.packet_block.PacketBlock.TheVariants.{Enhanced, Obsolete, Simple}
use Rattle.capture_core.specs.declared.packet_block.PacketHead.{PacketHead}
use Rattle.capture_core.specs.declared.capture_fault.CaptureCause.{CaptureCause}
use Rattle.capture_core.specs.declared.capture_fault.CaptureCause.TheVariants as cause
use Rattle.capture_core.proofs.BlocksSpelled.{not_refused}
use Rattle.capture_core.proofs.InterfacesSpelled.{padded_least}

-- ---- moments

moment_told : (forth back limit m : ℕ) → m + back ≡ forth → m < limit → (if ltb forth back then None else (if ltb (forth - back) limit then Some (forth - back) else None)) ≡ Some m
moment_told forth back limit m e h =
    let late : ltb forth back ≡ false = grind (arith, nat_tests) in
    let is : forth - back ≡ m = omega (arith, e) in
    let few : ltb m limit ≡ true = grind (arith, nat_tests) in
    rw (late, is, few) refl

some_within : (a b : Bool) (k m : ℕ) → (if a then None else (if b then Some k else None)) ≡ Some m → (a ≡ false) × (b ≡ true) × (k ≡ m)
some_within true b k m e = cc
some_within false true k m e = (refl, refl, cc)
some_within false false k m e = cc

moment_is : (forth back limit m : ℕ) → (if ltb forth back then None else (if ltb (forth - back) limit then Some (forth - back) else None)) ≡ Some m → (m + back ≡ forth) × (m < limit)
moment_is forth back limit m e =
    let t = some_within (ltb forth back) (ltb (forth - back) limit) (forth - back) m e in
    let first = t.0 in
    let second = t.1 in
    let late : back ≤ forth = grind (arith, nat_tests, first) in
    let few : forth - back < limit = grind (arith, nat_tests, second) in
    (omega (arith, late, t.2), omega (arith, few, t.2))

time_told : (i : Interface) (ticks m : ℕ) → IsPacketTime i ticks m → moment_after i ticks ≡ Some m
time_told i ticks m t = moment_told (microseconds_forth i ticks) (1000000 * seconds_back i.offset) (10 ^ 18) m t.0 t.1

time_is : (i : Interface) (ticks m : ℕ) → moment_after i ticks ≡ Some m → IsPacketTime i ticks m
time_is i ticks m e = moment_is (microseconds_forth i ticks) (1000000 * seconds_back i.offset) (10 ^ 18) m e

-- ---- captured octets

-- how many octets a body has that holds captured ones, and where they stand
holds_size : (before : ℕ) (captured body : List ℕ) → HoldsCaptured before captured body → before + padded (length captured) ≤ length body
holds_size before captured body h =
    let all : length body ≡ length ((h.head ++ (captured ++ h.padding)) ++ h.others) = ap length h.parts in
    let parts : length ((h.head ++ (captured ++ h.padding)) ++ h.others) ≡ (length h.head + length (captured ++ h.padding)) + length h.others = simp length-append in
    omega (arith, all, parts, h.head_size, h.is_padded)

holds_octets : (before : ℕ) (captured body : List ℕ) → HoldsCaptured before captured body → take (length captured) (drop before body) ≡ captured
holds_octets before captured body h =
    let behind : drop before body ≡ (captured ++ h.padding) ++ h.others =
    ap (drop before) (h.parts ∙ append_assoc h.head (captured ++ h.padding) h.others) ∙ drop_at h.head ((captured ++ h.padding) ++ h.others) before h.head_size in
    ap (take (length captured)) (behind ∙ append_assoc captured h.padding h.others) ∙ take_at captured (h.padding ++ h.others) (length captured) refl

-- captured octets that were read
holds_read : (before size : ℕ) (body : List ℕ) → before + padded size ≤ length body → size ≤ 262144 → HoldsCaptured before (take size (drop before body)) body × (length (take size (drop before body)) ≡ size)
holds_read before size body h l =
    let least = padded_least size in
    let rest = drop before body in
    let left : length rest ≡ length body - before = length-drop before body in
    let captured = take size rest in
    let behind = take (padded size) rest in
    let padding = drop size behind in
    let same : take size behind ≡ captured = take-take size (padded size) rest least in
    let split : behind ≡ captured ++ padding = sym (take-append-drop size behind) ∙ ap (λ t. t ++ padding) same in
    let all : length captured ≡ size = length-take-le size rest (omega (arith, least, left, h)) in
    let whole : length behind ≡ padded size = length-take-le (padded size) rest (omega (arith, left, h)) in
    let others = drop (padded size) rest in
    let parts : body ≡ (take before body ++ (captured ++ padding)) ++ others =
    sym (append_assoc (take before body) (captured ++ padding) others ∙ ap (λ t. take before body ++ (t ++ others)) (sym split)
    ∙ ap (λ t. take before body ++ t) (take-append-drop (padded size) rest) ∙ take-append-drop before body) in (
      record {
        head = take before body;
        padding = padding;
        others = others;
        parts = parts;
        head_size = length-take-le before body (omega (arith, h));
        is_padded = ap length (sym split) ∙ whole ∙ ap padded (sym all);
        at_most = omega (arith, all, l);
      },
      all,
    )

-- ---- packet blocks

-- octets that hold a packet of a known interface are read as it
packet_said : (kind : PacketBlock) (s : Settled) (p : Packet) (body : List ℕ) (of : Interface) → slice_get s.interfaces (interface_number kind s.order body) ≡ Some of → p.link_type ≡ of.link_type → HoldsCaptured (head_size kind) p.octets body →
    captured_length kind s.order of body ≡ length p.octets → packet_moment kind s of body ≡ Some p.moment → packet_in kind s body ≡ Ok (captures p)
packet_said kind s p body of known link holds size time =
    let room = holds_size (head_size kind) p.octets body holds in
    let most = holds.at_most in
    let long : ltb (length body) (head_size kind) ≡ false = grind (arith, nat_tests, room) in
    let short : ltb 262144 (length p.octets) ≡ false = grind (arith, nat_tests, most) in
    let fits : ltb (length body) (head_size kind + padded (length p.octets)) ≡ false = grind (arith, nat_tests, room) in
    let octets = holds_octets (head_size kind) p.octets body holds in
    let head : packet_head kind s body (length body) ≡ Ok (record { moment = p.moment; link_type = of.link_type; size = length p.octets }) = rw (long, known, size, short, fits, time) refl in
    ap (captured_behind kind body) head ∙ rw (octets, ← link) refl

-- a head that was read
head_read : (kind : PacketBlock) (s : Settled) (body : List ℕ) (found : Option Interface) (h : PacketHead) → head_on kind s body (length body) found ≡ Ok h →
    (of : Interface) × (found ≡ Some of) × (captured_length kind s.order of body ≡ h.size) × (h.size ≤ 262144) × (head_size kind + padded h.size ≤ length body) × (h.link_type ≡ of.link_type) × (packet_moment kind s of body ≡ Some h.moment)
head_read kind s body None h e = cc
head_read kind s body (Some of) h e =
    let captured = captured_length kind s.order of body in
    let first = not_refused (ltb 262144 captured) cause.RecordLength _ h e in
    let second = not_refused (ltb (length body) (head_size kind + padded captured)) cause.BlockForm _ h first.1 in
    let third = told_at of.link_type captured (packet_moment kind s of body) h second.1 in
    let a = first.0 in
    let b = second.0 in
    let short : captured ≤ 262144 = grind (arith, nat_tests, a) in
    let fits : head_size kind + padded captured ≤ length body = grind (arith, nat_tests, b) in
    (of, refl, third.1, rw third.1 at short, rw third.1 at fits, third.2, third.0)
  where
    told_at : (link size : ℕ) (moment : Option ℕ) (h : PacketHead) → head_at link size moment ≡ Ok h → (moment ≡ Some h.moment) × (size ≡ h.size) × (h.link_type ≡ link)
    told_at link size None h e = cc
    told_at link size (Some m) h e =
        let same : ◌≡◌ {A = PacketHead} (record { moment = m; link_type = link; size = size }) h = cc in
        (ap (λ (k : PacketHead). Some k.moment) same, ap (λ (k : PacketHead). k.size) same, sym (ap (λ (k : PacketHead). k.link_type) same))

captured_read : (kind : PacketBlock) (body : List ℕ) (r : Result PacketHead CaptureCause) (b : Block) → captured_behind kind body r ≡ Ok b →
    (h : PacketHead) × (r ≡ Ok h) × (b ≡ captures (record { moment = h.moment; link_type = h.link_type; octets = take h.size (drop (head_size kind) body) }))
captured_read kind body (Err why) b e = cc
captured_read kind body (Ok h) b e = (h, refl, cc)

-- what is read as a packet is one of a known interface
abbrev ReadsPacket : PacketBlock → Settled → List ℕ → Packet → Type 0
ReadsPacket kind s body p = (of : Interface) × (slice_get s.interfaces (interface_number kind s.order body) ≡ Some of) × (p.link_type ≡ of.link_type) × HoldsCaptured (head_size kind) p.octets body
    × (captured_length kind s.order of body ≡ length p.octets) × (packet_moment kind s of body ≡ Some p.moment)

packet_read : (kind : PacketBlock) (s : Settled) (body : List ℕ) (b : Block) → packet_in kind s body ≡ Ok b → (p : Packet) × (b ≡ captures p) × ReadsPacket kind s body p
packet_read kind s body b e =
    let c = captured_read kind body (packet_head kind s body (length body)) b e in
    let h = c.0 in
    let first = not_refused (ltb (length body) (head_size kind)) cause.BlockForm _ h c.1 in
    let t = head_read kind s body (slice_get s.interfaces (interface_number kind s.order body)) h first.1 in
    let holds = holds_read (head_size kind) h.size body t.4 t.3 in
    (record { moment = h.moment; link_type = h.link_type; octets = take h.size (drop (head_size kind) body) }, c.2, (t.0, t.1, t.5, holds.0, t.2 ∙ sym holds.1, t.6))

-- ---- the kinds of packet blocks

pub enhanced_said : (s : Settled) (p : Packet) (body : List ℕ) → IsTimedPacket s (number_at s.order 4 body 0) p body → packet_in Enhanced s body ≡ Ok (captures p)
enhanced_said s p body t = packet_said Enhanced s p body t.of t.is_known t.link_type t.captured t.size (time_told t.of (ticks_in s.order body) p.moment t.time)

pub obsolete_said : (s : Settled) (p : Packet) (body : List ℕ) → IsTimedPacket s (number_at s.order 2 body 0) p body → packet_in Obsolete s body ≡ Ok (captures p)
obsolete_said s p body t = packet_said Obsolete s p body t.of t.is_known t.link_type t.captured t.size (time_told t.of (ticks_in s.order body) p.moment t.time)

pub simple_said : (s : Settled) (p : Packet) (body : List ℕ) → IsSimplePacket s p body → packet_in Simple s body ≡ Ok (captures p)
simple_said s p body t = packet_said Simple s p body t.of t.is_known t.link_type t.captured t.size (ap Some (sym t.time))

pub enhanced_read : (s : Settled) (body : List ℕ) (b : Block) → packet_in Enhanced s body ≡ Ok b → (p : Packet) × (b ≡ captures p) × IsTimedPacket s (number_at s.order 4 body 0) p body
enhanced_read s body b e =
    let (p, is, (of, known, link, holds, size, time)) = packet_read Enhanced s body b e in
    (p, is, record { of = of; is_known = known; link_type = link; captured = holds; size = size; time = time_is of (ticks_in s.order body) p.moment time })

pub obsolete_read : (s : Settled) (body : List ℕ) (b : Block) → packet_in Obsolete s body ≡ Ok b → (p : Packet) × (b ≡ captures p) × IsTimedPacket s (number_at s.order 2 body 0) p body
obsolete_read s body b e =
    let (p, is, (of, known, link, holds, size, time)) = packet_read Obsolete s body b e in
    (p, is, record { of = of; is_known = known; link_type = link; captured = holds; size = size; time = time_is of (ticks_in s.order body) p.moment time })

same_moment : (a b : ℕ) → Some a ≡ Some b → b ≡ a
same_moment a b e = cc

pub simple_read : (s : Settled) (body : List ℕ) (b : Block) → packet_in Simple s body ≡ Ok b → (p : Packet) × (b ≡ captures p) × IsSimplePacket s p body
simple_read s body b e =
    let (p, is, (of, known, link, holds, size, time)) = packet_read Simple s body b e in
    (p, is, record { of = of; is_known = known; link_type = link; captured = holds; size = size; time = same_moment s.moment p.moment time })

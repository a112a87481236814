-- Bodies of packet blocks with a fault, and what is read of them.
use Rattle.std.proofs.Common.{◌≡◌, ◌⊎◌, ℕ, ◌+◌, ◌-◌, ◌<◌, ◌≤◌, zero, suc, ltb, inl, inr, List, [], ◌∷◌, length, Option, Some, None, Result, Ok, Err, ap, sym, refl, arith}
use Rattle.std.specs.Prelude.{◌*◌, ◌^◌, slice_get, if◌then◌else◌}
use Rattle.std.proofs.lemmas.Bool.{le-ltb, lt-ltb, ltb-false, ltb-true}
use Rattle.std.proofs.lemmas.Option.{slice_get_past, slice_get_within}
use Rattle.ber_core.proofs.Steps.{chosen}
use Rattle.capture_core.specs.Numbers.{number_at}
use Rattle.capture_core.specs.Interfaces.{microseconds_forth, moment_after, padded, seconds_back}
use Rattle.capture_core.specs.Blocks.{Settled, captured_behind, captured_length, head_at, head_on, head_size, interface_number, packet_head, packet_in, packet_moment, ticks_in}
use Rattle.capture_core.specs.FirstFault.{IsNoPacketTime, SimplePacketFault, TimedPacketFault, simple_past_end, simple_short, simple_too_long, simple_unknown, timed_no_time, timed_past_end, timed_short, timed_too_long, timed_unknown}
use Rattle.capture_core.specs.declared.interface.Interface.{Interface}
use Rattle.capture_core.specs.declared.packet_block.PacketBlock.{PacketBlock}
use Rattle.capture_core.specs.declared.packet_block.PacketBlock.TheVariants.{Enhanced, Obsolete, Simple}
use Rattle.capture_core.specs.declared.packet_block.PacketHead.{PacketHead}
use Rattle.capture_core.specs.declared.capture_fault.CaptureCause.{CaptureCause}
use Rattle.capture_core.specs.declared.capture_fault.CaptureCause.TheVariants as cause

-- ---- times

no_time : (forth back limit : ℕ) → (if ltb forth back then None else (if ltb (forth - back) limit then Some (forth - back) else None)) ≡ None → (forth < back) ⊎ (limit + back ≤ forth)
no_time forth back limit e = elim (chosen (ltb forth back) _ _ _ e) [
  | inl a ↦ inl (ltb-true forth back a.0)
  | inr a ↦ elim (chosen (ltb (forth - back) limit) _ _ _ a.1) [
    | inl b ↦ absurd (let wrong = b.1 in cc)
    | inr b ↦ let late = ltb-false forth back a.0 in let many = ltb-false (forth - back) limit b.0 in inr (omega (arith, late, many))
  ]
]

time_none : (forth back limit : ℕ) → (forth < back) ⊎ (limit + back ≤ forth) → (if ltb forth back then None else (if ltb (forth - back) limit then Some (forth - back) else None)) ≡ None
time_none forth back limit (inl h) = rw (lt-ltb forth back h) refl
time_none forth back limit (inr h) = rw (le-ltb forth back (omega (arith, h)), le-ltb (forth - back) limit (omega (arith, h))) refl

no_packet_time : (i : Interface) (ticks : ℕ) → moment_after i ticks ≡ None → IsNoPacketTime i ticks
no_packet_time i ticks e = no_time (microseconds_forth i ticks) (1000000 * seconds_back i.offset) (10 ^ 18) e

packet_time_none : (i : Interface) (ticks : ℕ) → IsNoPacketTime i ticks → moment_after i ticks ≡ None
packet_time_none i ticks h = time_none (microseconds_forth i ticks) (1000000 * seconds_back i.offset) (10 ^ 18) h

-- ---- interfaces

not_there : {X : Type 0} (xs : List X) (i : ℕ) → slice_get xs i ≡ None → length xs ≤ i
not_there [] i e = omega arith
not_there (x ∷ xs) zero e = cc
not_there (x ∷ xs) (suc i) e = let t = not_there xs i e in omega (arith, t)

there : {X : Type 0} (xs : List X) (i : ℕ) → i < length xs → (x : X) × (slice_get xs i ≡ Some x)
there [] i h = absurd (omega (arith, h))
there (x ∷ xs) zero h = (x, refl)
there (x ∷ xs) (suc i) h = there xs i (omega (arith, h))

first_none : {X : Type 0} (xs : List X) → slice_get xs 0 ≡ None → xs ≡ []
first_none [] e = refl
first_none (x ∷ xs) e = cc

-- ---- the heads of all kinds of packet blocks

-- why a body has no head of this kind
data HeadFault (kind : PacketBlock) (s : Settled) (why : CaptureCause) (body : List ℕ) : Type 0 where
  few : length body < head_size kind → why ≡ cause.BlockForm → HeadFault kind s why body
  unknown : head_size kind ≤ length body → slice_get s.interfaces (interface_number kind s.order body) ≡ None → why ≡ cause.Interface → HeadFault kind s why body
  long : (of : Interface) → head_size kind ≤ length body → slice_get s.interfaces (interface_number kind s.order body) ≡ Some of → 262144 < captured_length kind s.order of body → why ≡ cause.RecordLength → HeadFault kind s why body
  past : (of : Interface) → head_size kind ≤ length body → slice_get s.interfaces (interface_number kind s.order body) ≡ Some of → captured_length kind s.order of body ≤ 262144 →
      length body < head_size kind + padded (captured_length kind s.order of body) → why ≡ cause.BlockForm → HeadFault kind s why body
  timeless : (of : Interface) → slice_get s.interfaces (interface_number kind s.order body) ≡ Some of → captured_length kind s.order of body ≤ 262144 →
      head_size kind + padded (captured_length kind s.order of body) ≤ length body → packet_moment kind s of body ≡ None → why ≡ cause.PacketTime → HeadFault kind s why body

refused_is : (a b : CaptureCause) → ◌≡◌ {A = Result PacketHead CaptureCause} (Err a) (Err b) → b ≡ a
refused_is a b e = cc

module _ (kind : PacketBlock) (s : Settled) (why : CaptureCause) (body : List ℕ) where
  time_fault : (link size : ℕ) (moment : Option ℕ) → head_at link size moment ≡ Err why → (moment ≡ None) × (why ≡ cause.PacketTime)
  time_fault link size None e = (refl, refused_is cause.PacketTime why e)
  time_fault link size (Some m) e = cc

  on_fault : (found : Option Interface) → slice_get s.interfaces (interface_number kind s.order body) ≡ found → head_size kind ≤ length body → head_on kind s body (length body) found ≡ Err why → HeadFault kind s why body
  on_fault None f h e = unknown h f (refused_is cause.Interface why e)
  on_fault (Some of) f h e =
      let captured = captured_length kind s.order of body in
      elim (chosen (ltb 262144 captured) _ _ _ e) [
        | inl a ↦ long of h f (ltb-true 262144 captured a.0) (refused_is cause.RecordLength why a.1)
        | inr a ↦ elim (chosen (ltb (length body) (head_size kind + padded captured)) _ _ _ a.1) [
          | inl b ↦ past of h f (ltb-false 262144 captured a.0) (ltb-true (length body) (head_size kind + padded captured) b.0) (refused_is cause.BlockForm why b.1)
          | inr b ↦
              let t = time_fault of.link_type captured (packet_moment kind s of body) b.1 in
              timeless of f (ltb-false 262144 captured a.0) (ltb-false (length body) (head_size kind + padded captured) b.0) t.0 t.1
        ]
      ]

  head_fault : packet_head kind s body (length body) ≡ Err why → HeadFault kind s why body
  head_fault e = elim (chosen (ltb (length body) (head_size kind)) _ _ _ e) [
    | inl a ↦ few (ltb-true (length body) (head_size kind) a.0) (refused_is cause.BlockForm why a.1)
    | inr a ↦ on_fault (slice_get s.interfaces (interface_number kind s.order body)) refl (ltb-false (length body) (head_size kind) a.0) a.1
  ]

  behind_fault : (r : Result PacketHead CaptureCause) → captured_behind kind body r ≡ Err why → r ≡ Err why
  behind_fault (Ok h) e = cc
  behind_fault (Err w) e = let same : w ≡ why = cc in ap (λ (k : CaptureCause). Err k) same

  -- a body that is refused has that fault
  packet_fault : packet_in kind s body ≡ Err why → HeadFault kind s why body
  packet_fault e = head_fault (behind_fault (packet_head kind s body (length body)) e)

  head_refused : HeadFault kind s why body → packet_head kind s body (length body) ≡ Err why
  head_refused (few h e) = rw (lt-ltb (length body) (head_size kind) h) (ap (λ (k : CaptureCause). Err k) (sym e))
  head_refused (unknown h f e) = rw (le-ltb (length body) (head_size kind) h, f) (ap (λ (k : CaptureCause). Err k) (sym e))
  head_refused (long of h f l e) = rw (le-ltb (length body) (head_size kind) h, f, lt-ltb 262144 (captured_length kind s.order of body) l) (ap (λ (k : CaptureCause). Err k) (sym e))
  head_refused (past of h f l p e) =
      rw (le-ltb (length body) (head_size kind) h, f, le-ltb 262144 (captured_length kind s.order of body) l, lt-ltb (length body) (head_size kind + padded (captured_length kind s.order of body)) p)
      (ap (λ (k : CaptureCause). Err k) (sym e))
  head_refused (timeless of f l p t e) =
      rw (le-ltb (length body) (head_size kind) (omega (arith, p)), f, le-ltb 262144 (captured_length kind s.order of body) l, le-ltb (length body) (head_size kind + padded (captured_length kind s.order of body)) p, t)
      (ap (λ (k : CaptureCause). Err k) (sym e))

  -- a body with a fault is refused by it
  packet_refused : HeadFault kind s why body → packet_in kind s body ≡ Err why
  packet_refused f = ap (captured_behind kind body) (head_refused f)

-- ---- each kind

module _ (s : Settled) (why : CaptureCause) (body : List ℕ) where
  pub enhanced_fault : packet_in Enhanced s body ≡ Err why → TimedPacketFault s (number_at s.order 4 body 0) why body
  enhanced_fault r = elim (packet_fault Enhanced s why body r) [
    | few h e ↦ timed_short h e
    | unknown h f e ↦ timed_unknown h (not_there s.interfaces (number_at s.order 4 body 0) f) e
    | long of h f l e ↦ timed_too_long h (slice_get_within s.interfaces (number_at s.order 4 body 0) of f) l e
    | past of h f l p e ↦ timed_past_end h (slice_get_within s.interfaces (number_at s.order 4 body 0) of f) l p e
    | timeless of f l p t e ↦ timed_no_time of f l p (no_packet_time of (ticks_in s.order body) t) e
  ]

  pub obsolete_fault : packet_in Obsolete s body ≡ Err why → TimedPacketFault s (number_at s.order 2 body 0) why body
  obsolete_fault r = elim (packet_fault Obsolete s why body r) [
    | few h e ↦ timed_short h e
    | unknown h f e ↦ timed_unknown h (not_there s.interfaces (number_at s.order 2 body 0) f) e
    | long of h f l e ↦ timed_too_long h (slice_get_within s.interfaces (number_at s.order 2 body 0) of f) l e
    | past of h f l p e ↦ timed_past_end h (slice_get_within s.interfaces (number_at s.order 2 body 0) of f) l p e
    | timeless of f l p t e ↦ timed_no_time of f l p (no_packet_time of (ticks_in s.order body) t) e
  ]

  pub simple_fault : packet_in Simple s body ≡ Err why → SimplePacketFault s why body
  simple_fault r = elim (packet_fault Simple s why body r) [
    | few h e ↦ simple_short h e
    | unknown h f e ↦ simple_unknown h (first_none s.interfaces f) e
    | long of h f l e ↦ simple_too_long of h f l e
    | past of h f l p e ↦ simple_past_end of h f l p e
    | timeless of f l p t e ↦ absurd (let wrong = t in cc)
  ]

  pub enhanced_refused : TimedPacketFault s (number_at s.order 4 body 0) why body → packet_in Enhanced s body ≡ Err why
  enhanced_refused (timed_short h e) = packet_refused Enhanced s why body (few h e)
  enhanced_refused (timed_unknown h f e) = packet_refused Enhanced s why body (unknown h (slice_get_past s.interfaces (number_at s.order 4 body 0) f) e)
  enhanced_refused (timed_too_long h f l e) = let t = there s.interfaces (number_at s.order 4 body 0) f in packet_refused Enhanced s why body (long t.0 h t.1 l e)
  enhanced_refused (timed_past_end h f l p e) = let t = there s.interfaces (number_at s.order 4 body 0) f in packet_refused Enhanced s why body (past t.0 h t.1 l p e)
  enhanced_refused (timed_no_time of f l p t e) = packet_refused Enhanced s why body (timeless of f l p (packet_time_none of (ticks_in s.order body) t) e)

  pub obsolete_refused : TimedPacketFault s (number_at s.order 2 body 0) why body → packet_in Obsolete s body ≡ Err why
  obsolete_refused (timed_short h e) = packet_refused Obsolete s why body (few h e)
  obsolete_refused (timed_unknown h f e) = packet_refused Obsolete s why body (unknown h (slice_get_past s.interfaces (number_at s.order 2 body 0) f) e)
  obsolete_refused (timed_too_long h f l e) = let t = there s.interfaces (number_at s.order 2 body 0) f in packet_refused Obsolete s why body (long t.0 h t.1 l e)
  obsolete_refused (timed_past_end h f l p e) = let t = there s.interfaces (number_at s.order 2 body 0) f in packet_refused Obsolete s why body (past t.0 h t.1 l p e)
  obsolete_refused (timed_no_time of f l p t e) = packet_refused Obsolete s why body (timeless of f l p (packet_time_none of (ticks_in s.order body) t) e)

  pub simple_refused : SimplePacketFault s why body → packet_in Simple s body ≡ Err why
  simple_refused (simple_short h e) = packet_refused Simple s why body (few h e)
  simple_refused (simple_unknown h f e) = packet_refused Simple s why body (unknown h (ap (λ (l : List Interface). slice_get l 0) f) e)
  simple_refused (simple_too_long of h f l e) = packet_refused Simple s why body (long of h f l e)
  simple_refused (simple_past_end of h f l p e) = packet_refused Simple s why body (past of h f l p e)

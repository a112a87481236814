-- Frames that are at hand as wholes, as those that were read part by part.
use Rattle.std.proofs.Common.{◌≡◌, ℕ, ◌+◌, ◌≤◌, ◌<◌, true, false, eqb, List, [], ◌++◌, length, take, drop, Option, Ok, Err, ap, sym, ◌∙◌, Result, inl, refl, arith, append_assoc}
use Rattle.std.proofs.lemmas.List.{length-append, length-take-le, take-append-drop}
use Rattle.std.proofs.lemmas.Bool.Decides.{nat_tests}
use Rattle.std.specs.Io.KnownBytes.{Consumes}
use Rattle.list_core.specs.declared.device.InputEnd.{InputEnd}
use Rattle.list_core.specs.declared.device.InputEnd.TheVariants.{Open}
use Rattle.capture_core.specs.Numbers.{number_at}
use Rattle.list_core.specs.Lines.{unfinished}
use Rattle.capture_core.specs.Capture.{captured_size, moment_in_head}
use Rattle.capture_core.specs.Packets.{Packet}
use Rattle.capture_core.specs.Blocks.{Block, Settled, block_with, body_said, captures, is_bad_length, next_block, packet_head, packet_in}
use Rattle.capture_core.specs.computed.AtHand.{IsPacketBlock}
use Rattle.capture_core.specs.computed.OneRead.{Front, IsFrameBlock, IsFramePacket, ReadsToKeep, next_record, record_front}
use Rattle.capture_core.specs.computed.Sections.{block_rest}
use Rattle.capture_core.specs.declared.capture_fault.CaptureCause.{CaptureCause}
use Rattle.capture_core.specs.declared.packet_block.PacketBlock.TheVariants.{Enhanced}
use Rattle.capture_core.specs.declared.packet_block.PacketHead.{PacketHead}
use Rattle.capture_core.specs.declared.form.CaptureForm.{CaptureForm}
use Rattle.capture_core.proofs.BlocksRead.{block_cut, block_of_type, block_whole, next_open, next_some, rest_good}
use Rattle.capture_core.proofs.Fronts.{asked_both, asked_whole, front_read}
use Rattle.capture_core.proofs.PacketsRead.{packet_found, record_cut, record_open, record_some, record_whole}

-- octets that were taken at once, of which the first ones say how many follow
at_once : {X : Type 0} (K : X → Type 0) (F : InputEnd → List ℕ → Front X) (x : X) (head rest : List ℕ) (old new : Option (List ℕ)) (z w : InputEnd) → z ≡ Open → w ≡ z → Consumes old new (head ++ rest)
    → ((front : List ℕ) → length front < length head → F Open front ≡ Err unfinished) → ((front : List ℕ) → length front < length rest → F Open (head ++ front) ≡ Err unfinished)
    → ((y : InputEnd) (more : List ℕ) → F y ((head ++ rest) ++ more) ≡ Ok (x, length (head ++ rest))) → ReadsToKeep K F [] old z (Ok x) new w
at_once K F x head rest old new z w o same took first behind whole = front_read K F [] old new z w x (record {
  given = head ++ rest;
  took = took;
  only_open = inl o;
  asked = asked_both _ head rest z z w refl first (asked_whole _ rest z w same behind);
  stands = λ more y _. whole y more;
})

pub frame_read : (n : ℕ) (s : Settled) (head rest : List ℕ) (p : Packet) (old new : Option (List ℕ)) (z w : InputEnd) → z ≡ Open → w ≡ z → Consumes old new (head ++ rest) → IsPacketBlock s head rest p
    → ReadsToKeep IsFrameBlock (λ z octets. next_block z n s octets) [] old z (Ok (captures p)) new w
frame_read n s head rest p old new z w o same took b = at_once _ _ (captures p) head rest old new z w o same took
    (λ front few. next_open n s front (omega (arith, few, b.eight)))
    (λ front few. next_some Open n s head front (omega (arith, b.eight)) ∙ b.early n front few)
    (λ y more. ap (next_block y n s) (append_assoc head rest more) ∙ next_some y n s head (rest ++ more) (omega (arith, b.eight)) ∙ b.whole y n more ∙ ap (λ (k : ℕ). Ok (captures p, k)) (sym (length-append head rest)))

pub record_read : (form : CaptureForm) (n : ℕ) (head octets : List ℕ) (old new : Option (List ℕ)) (z w : InputEnd) → z ≡ Open → w ≡ z → Consumes old new (head ++ octets)
    → length head ≡ 16 → captured_size form head ≡ length octets → length octets ≤ 262144
    → ReadsToKeep IsFramePacket (λ z l. next_record form z n l) [] old z (Ok (record { moment = moment_in_head form head; link_type = 1; octets = octets })) new w
record_read form n head octets old new z w o same took h size short = at_once _ _ _ head octets old new z w o same took
    (λ front few. record_open form n front (omega (arith, few, h)))
    (λ front few. record_some form Open n head front (omega (arith, h)) ∙ record_cut form n head h Open front (omega (arith, size, short)) (omega (arith, few, size)))
    (λ y more. ap (next_record form y n) (append_assoc head octets more) ∙ record_some form y n head (octets ++ more) (omega (arith, h)) ∙ ap (record_front form y n) (sym (append_assoc head octets more))
    ∙ record_whole form n head h y octets more (omega (arith, size, short)) (sym size))

-- an enhanced packet block from Ethernet, of which the first eight octets, the body and the last four are these
module _ (s : Settled) (head body end : List ℕ) (total : ℕ) (found : PacketHead) (h : length head ≡ 8) (type : number_at s.order 4 head 0 ≡ 6) (long : number_at s.order 4 head 4 ≡ total) (good : is_bad_length 32 total ≡ false)
    (size : length body + 12 ≡ total) (four : length end ≡ 4) (last : number_at s.order 4 end 0 ≡ total) (judged : Ok found ≡ packet_head Enhanced s (take 20 body) (length body)) (ethernet : found.link_type ≡ 1) where
  abbrev pub p : Packet
  p = record { moment = found.moment; link_type = 1; octets = take found.size (drop 20 body) }

  abbrev said : List ℕ → Result Block CaptureCause
  said = body_said s (number_at s.order 4 head 0)

  packet : 20 ≤ length body → found.size ≤ length (drop 20 body) → packet_in Enhanced s body ≡ Ok (captures p)
  packet room fits =
      let captured = drop 20 body in
      let text : take 20 body ++ (take found.size captured ++ drop found.size captured) ≡ body = ap (λ l. take 20 body ++ l) (take-append-drop found.size captured) ∙ take-append-drop 20 body in
      sym (ap (packet_in Enhanced s) text)
      ∙ packet_found Enhanced s (take 20 body) (take found.size captured) (drop found.size captured) (length body) found (length-take-le 20 body room) (length-take-le found.size captured fits) (ap length text) judged
      ∙ ap (λ (k : ℕ). Ok (captures (record { moment = found.moment; link_type = k; octets = take found.size captured }))) ethernet

  pub frame_block : 20 ≤ length body → found.size ≤ length (drop 20 body) → IsPacketBlock s head (body ++ end) p
  frame_block room fits =
      let t = number_at s.order 4 head 4 in
      let fine : is_bad_length 12 t ≡ false = rw long (grind (arith, nat_tests, good)) in
      let at_end : eqb (number_at s.order 4 end 0) t ≡ true = grind (arith, nat_tests, last, long) in
      let other : number_at s.order 4 head 0 ≡ 0x0a0d0d0a → ⊥ = λ e. absurd (omega (arith, e, type)) in
      let says : block_rest s.order t (body ++ end) said ≡ Ok (captures p) = sym (rest_good s.order t body end said (omega (arith, size, long)) true (sym at_end) refl) ∙ ap (λ (k : ℕ). body_said s k body) type ∙ packet room fits in
      let all : length (body ++ end) + 8 ≡ t = simp length-append (omega (arith, size, four, long)) in
      let whole : t ≡ length head + length (body ++ end) = omega (arith, all, h) in
      record {
        eight = h;
        early = λ n front few. block_of_type n s head h Open front other ∙ block_cut n s.order 12 head said h Open front fine (omega (arith, few, all));
        whole = λ z n more. block_of_type n s head h z ((body ++ end) ++ more) other ∙ block_whole n s.order 12 head said h z (body ++ end) more fine (omega (arith, all, size, long)) all
            ∙ ap (block_with n t) says ∙ ap (λ (k : ℕ). Ok (captures p, k)) whole;
      }

-- Where memory is wanted for the octets of a packet, what stands there is a frame.
use Rattle.std.proofs.Common.{◌≡◌, ℕ, ◌+◌, ◌-◌, ◌<◌, ◌≤◌, Bool, true, false, ltb, eqb, inl, inr, List, [], ◌++◌, length, take, drop, replicate, Result, Ok, Err, ap, sym, ◌∙◌, refl, subst, arith, append_assoc}
use Rattle.std.specs.Prelude.{◌==◌, if◌then◌else◌}
use Rattle.std.proofs.lemmas.List.{append-nil, length-append, drop_at, length-drop, length-replicate, length-take-le, take-append-drop, take-append-le}
use Rattle.std.proofs.Math.Seq.{take-append-add}
use Rattle.std.proofs.lemmas.Bool.Decides.{nat_tests}
use Rattle.list_core.specs.declared.device.InputEnd.{InputEnd}
use Rattle.list_core.specs.declared.device.InputEnd.TheVariants.{Open, End, Failed}
use Rattle.capture_core.specs.Numbers.{number_at}
use Rattle.capture_core.specs.Capture.{captured_size, cut, fault_in}
use Rattle.capture_core.specs.Packets.{Packet, StopsInside}
use Rattle.capture_core.specs.Blocks.{Block, Settled, block_in, block_with, body_said, captures, is_bad_length, packet_in}
use Rattle.capture_core.specs.computed.OneRead.{Front, IsFrameBlock, IsFramePacket, IsKept, IsKeptWhole, record_front}
use Rattle.capture_core.specs.computed.Sections.{TellsFrameOf, block_rest}
use Rattle.capture_core.specs.declared.form.CaptureForm.{CaptureForm}
use Rattle.capture_core.specs.declared.capture_fault.CaptureCause.{CaptureCause}
use Rattle.capture_core.specs.declared.capture_fault.CaptureCause.TheVariants as cause
use Rattle.capture_core.proofs.BlocksRead.{block_cut, block_whole, rest_good}
use Rattle.capture_core.proofs.NumberPlaces.{number_behind, number_front}
use Rattle.capture_core.proofs.PacketsRead.{packet_found, record_whole}

same_block : (a b : Block) → ◌≡◌ {A = Result Block CaptureCause} (Ok a) (Ok b) → a ≡ b
same_block a b e = cc

no_error : (b : Block) (why : CaptureCause) → ◌≡◌ {A = Result Block CaptureCause} (Ok b) (Err why) → ⊥
no_error b why e = cc

same_error : (why other : CaptureCause) → ◌≡◌ {A = Result Block CaptureCause} (Err why) (Err other) → why ≡ other
same_error why other e = cc

-- octets that end inside a frame
cut_inside : (z : InputEnd) (n : ℕ) → StopsInside (cut z n)
cut_inside End n = inl refl
cut_inside Failed n = inr (inl refl)
cut_inside Open n = tt

-- by a test, one front or the other
kept_by : {X : Type 0} (K : X → Type 0) (b : Bool) (x y : Front X) → IsKept K x → (b ≡ false → IsKept K y) → IsKept K (if b then x else y)
kept_by K true x y p q = p
kept_by K false x y p q = q refl

-- ---- records

module _ (form : CaptureForm) (n : ℕ) (head : List ℕ) (h : length head ≡ 16) where
  pub record_keeps : (z : InputEnd) (given more : List ℕ) → captured_size form head ≤ 262144 → given ≡ [] → 0 < captured_size form head → IsKept IsFramePacket (record_front form z n ((head ++ given) ++ more))
  record_keeps z given more short none some =
      let size = captured_size form head in
      let text : (head ++ given) ++ more ≡ head ++ more = ap (λ (l : List ℕ). (head ++ l) ++ more) none ∙ ap (λ (l : List ℕ). l ++ more) (append-nil head) in
      let long : ltb (length (head ++ more)) 16 ≡ false = simp length-append (grind (arith, nat_tests)) in
      let same : captured_size form (head ++ more) ≡ size = number_front form.order 4 head more 8 (omega (arith, h)) in
      let fits : ltb 262144 size ≡ false = grind (arith, nat_tests) in
      let behind : drop 16 (head ++ more) ≡ more = drop_at head more 16 h in
      rw (text, long, same, fits, behind) (kept_by IsFramePacket (ltb (length more) size) _ _ (cut_inside z n) (λ e.
      let enough : size ≤ length more = grind (arith, nat_tests, e) in
      let all : length (take size more) ≡ size = length-take-le size more enough in
      (refl, omega (arith, all, some))))

  -- with as many octets as its head says it is whole
  pub record_can_come : (given : List ℕ) → captured_size form head ≤ 262144 → given ≡ [] → 0 < captured_size form head → (more : List ℕ) × IsKeptWhole IsFramePacket (record_front form Open n ((head ++ given) ++ more))
  record_can_come given short none some =
      let size = captured_size form head in
      let octets = replicate size 0 in
      let all : length octets ≡ size = length-replicate size 0 in
      let text : (head ++ given) ++ octets ≡ (head ++ octets) ++ [] = ap (λ (l : List ℕ). (head ++ l) ++ octets) none ∙ ap (λ (l : List ℕ). l ++ octets) (append-nil head) ∙ sym (append-nil (head ++ octets)) in
      let is = ap (record_front form Open n) text ∙ record_whole form n head h Open octets [] short all in
      (octets, subst (IsKeptWhole IsFramePacket) (sym is) (refl, omega (arith, all, some)))

-- ---- blocks

-- a body that begins with the head of a frame
frame_said : (s : Settled) (type size : ℕ) (given tail : List ℕ) → TellsFrameOf s type size given → length (given ++ tail) ≡ size → (p : Packet) × (body_said s type (given ++ tail) ≡ Ok (captures p)) × IsFramePacket p
frame_said s type size given tail (kind, other, is, tells) all =
    let found = tells.0 in
    let g = tells.1 in
    let e = tells.2 in
    let fits = tells.3 in
    let some = tells.4.1 in
    let octets = take found.size tail in
    let rest = drop found.size tail in
    let sum : length given + length tail ≡ size = let l = simp length-append at all in omega (arith, l) in
    let o : length octets ≡ found.size = length-take-le found.size tail (omega (arith, sum, g, fits)) in
    let whole : given ++ tail ≡ given ++ (octets ++ rest) = ap (λ (l : List ℕ). given ++ l) (sym (take-append-drop found.size tail)) in
    let no : eqb type 1 ≡ false = grind (arith, nat_tests) in (
      record { moment = found.moment; link_type = found.link_type; octets = octets },
      (rw (no, is) (ap (packet_in kind s) whole ∙ packet_found kind s given octets rest size found g o (ap (λ (l : List ℕ). length l) (sym whole) ∙ all) e)),
      (tells.4.0, omega (arith, o, some)),
    )

-- a block says a frame, or that the total length behind it is another
abbrev SaysFrame : Result Block CaptureCause → Type 0
SaysFrame r = ((b : Block) → r ≡ Ok b → IsFrameBlock b) × ((why : CaptureCause) → r ≡ Err why → why ≡ cause.BlockLength)

-- a block of this total length says this, or has a fault
kept_with : (n total : ℕ) (r : Result Block CaptureCause) → SaysFrame r → IsKept IsFrameBlock (block_with n total r)
kept_with n total (Ok b) f = f.0 b refl
kept_with n total (Err why) f = subst (λ (w : CaptureCause). StopsInside (fault_in n w)) (sym (f.1 why refl)) (inr (inr refl))

kept_rest : (b : Bool) (said bad : Result Block CaptureCause) → SaysFrame said → SaysFrame bad → SaysFrame (if b then said else bad)
kept_rest true said bad p q = p
kept_rest false said bad p q = q

-- a block whose body begins with the head of a frame
rest_keeps : (s : Settled) (type total : ℕ) (given more part others : List ℕ) → TellsFrameOf s type (total - 12) given → given ++ more ≡ part ++ others → length part + 8 ≡ total → 12 ≤ total →
    SaysFrame (block_rest s.order total part (body_said s type))
rest_keeps s type total given more part others tells text all room =
    let k = total - 12 in
    let tail = take (k - length given) more in
    let few : length given ≤ k = omega (arith, tells.3.1, tells.3.3) in
    let sum : length given + (k - length given) ≡ k = omega (arith, few) in
    let body : take k part ≡ given ++ tail =
    sym (take-append-le k part others (omega (arith, all, room))) ∙ ap (take k) (sym text) ∙ ap (λ (j : ℕ). take j (given ++ more)) (sym sum) ∙ take-append-add given more (k - length given) in
    let size : length (given ++ tail) ≡ k = ap (λ (l : List ℕ). length l) (sym body) ∙ length-take-le k part (omega (arith, all, room)) in
    let p = frame_said s type k given tail tells size in
    let said = ap (body_said s type) body ∙ p.1 in
    kept_rest (number_at s.order 4 part k == total) (body_said s type (take k part)) (Err cause.BlockLength)
    (λ c e. subst IsFrameBlock (same_block (captures p.0) c (sym said ∙ e)) p.2, λ why e. absurd (no_error (captures p.0) why (sym said ∙ e)))
    (λ c e. absurd (no_error c cause.BlockLength (sym e)), λ why e. sym (same_error cause.BlockLength why e))

module _ (n : ℕ) (s : Settled) (head : List ℕ) (h : length head ≡ 8) where
  block_by : (y : InputEnd) (given more : List ℕ) → is_bad_length 12 (number_at s.order 4 head 4) ≡ false → 12 ≤ number_at s.order 4 head 4 → TellsFrameOf s (number_at s.order 4 head 0) (number_at s.order 4 head 4 - 12) given →
      (b : Bool) → ltb (length (given ++ more) + 8) (number_at s.order 4 head 4) ≡ b → IsKept IsFrameBlock (block_in y n s.order 12 (head ++ (given ++ more)) (body_said s (number_at s.order 4 head 0)))
  block_by y given more good room tells true e =
      let few : length (given ++ more) + 8 < number_at s.order 4 head 4 = grind (arith, nat_tests, e) in
      subst (IsKept IsFrameBlock) (sym (block_cut n s.order 12 head (body_said s (number_at s.order 4 head 0)) h y (given ++ more) good few)) (cut_inside y n)
  block_by y given more good room tells false e =
      let total = number_at s.order 4 head 4 in
      let said = body_said s (number_at s.order 4 head 0) in
      let enough : total ≤ length (given ++ more) + 8 = grind (arith, nat_tests, e) in
      let part = take (total - 8) (given ++ more) in
      let others = drop (total - 8) (given ++ more) in
      let text : given ++ more ≡ part ++ others = sym (take-append-drop (total - 8) (given ++ more)) in
      let size : length part ≡ total - 8 = length-take-le (total - 8) (given ++ more) (omega (arith, enough)) in
      let all : length part + 8 ≡ total = omega (arith, size, room) in
      subst (IsKept IsFrameBlock) (sym (ap (λ (l : List ℕ). block_in y n s.order 12 (head ++ l) said) text ∙ block_whole n s.order 12 head said h y part others good room all))
      (kept_with n total (block_rest s.order total part said) (rest_keeps s (number_at s.order 4 head 0) total given more part others tells text all room))

  pub block_keeps : (y : InputEnd) (given more : List ℕ) → is_bad_length 12 (number_at s.order 4 head 4) ≡ false → 12 ≤ number_at s.order 4 head 4 → TellsFrameOf s (number_at s.order 4 head 0) (number_at s.order 4 head 4 - 12) given →
      IsKept IsFrameBlock (block_in y n s.order 12 (head ++ (given ++ more)) (body_said s (number_at s.order 4 head 0)))
  block_keeps y given more good room tells = block_by y given more good room tells (ltb (length (given ++ more) + 8) (number_at s.order 4 head 4)) refl

  -- with as many octets as its total length says, and that length once more, it is whole
  pub block_can_come : (given : List ℕ) → is_bad_length 12 (number_at s.order 4 head 4) ≡ false → 12 ≤ number_at s.order 4 head 4 → TellsFrameOf s (number_at s.order 4 head 0) (number_at s.order 4 head 4 - 12) given →
      (more : List ℕ) × IsKeptWhole IsFrameBlock (block_in Open n s.order 12 (head ++ (given ++ more)) (body_said s (number_at s.order 4 head 0)))
  block_can_come given good room tells =
      let total = number_at s.order 4 head 4 in
      let type = number_at s.order 4 head 0 in
      let said = body_said s type in
      let tail = replicate (total - 12 - length given) 0 in
      let end = drop 4 head in
      let few : length given ≤ total - 12 = omega (arith, tells.3.1, tells.3.3) in
      let zeros : length tail ≡ total - 12 - length given = length-replicate (total - 12 - length given) 0 in
      let size : length (given ++ tail) ≡ total - 12 = simp length-append (omega (arith, zeros, few)) in
      let last : length end ≡ 4 = simp length-drop (omega (arith, h)) in
      let four : length (take 4 head) ≡ 4 = length-take-le 4 head (omega (arith, h)) in
      let length_behind : number_at s.order 4 end 0 ≡ total = sym (number_behind s.order 4 (take 4 head) end 4 0 (omega (arith, four))) ∙ ap (λ (l : List ℕ). number_at s.order 4 l 4) (take-append-drop 4 head) in
      let same : (number_at s.order 4 end 0 == total) ≡ true = grind (arith, nat_tests, length_behind) in
      let p = frame_said s type (total - 12) given tail tells size in
      let rest = (given ++ tail) ++ end in
      let says : block_rest s.order total rest said ≡ Ok (captures p.0) = sym (rest_good s.order total (given ++ tail) end said (omega (arith, size, room)) true (sym same) refl) ∙ p.1 in
      let all : length rest + 8 ≡ total = simp length-append (let l = simp length-append at size in omega (arith, l, last, room)) in
      let text : given ++ (tail ++ end) ≡ rest ++ [] = sym (append_assoc given tail end) ∙ sym (append-nil rest) in
      let is = ap (λ (l : List ℕ). block_in Open n s.order 12 (head ++ l) said) text ∙ block_whole n s.order 12 head said h Open rest [] good room all ∙ ap (block_with n total) says in
      (tail ++ end, subst (IsKeptWhole IsFrameBlock) (sym is) p.2)

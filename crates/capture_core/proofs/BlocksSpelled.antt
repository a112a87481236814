-- Octets that are a block or a section header, and what is read of them.
use Rattle.std.proofs.Common.{◌≡◌, ℕ, ◌+◌, ◌-◌, ◌≤◌, Bool, true, false, ltb, eqb, List, ◌++◌, length, take, drop, Option, Some, None, Result, Ok, Err, ap, sym, ◌∙◌, refl, arith, append_assoc}
use Rattle.std.specs.Prelude.{◌%◌, if◌then◌else◌}
use Rattle.std.proofs.lemmas.List.{length-append, length-take-le, length-drop, take-append-drop}
use Rattle.std.proofs.Math.Seq.{take-add}
use Rattle.std.proofs.lemmas.Bool.Decides.{nat_tests}
use Rattle.list_core.specs.declared.device.InputEnd.{InputEnd}
use Rattle.capture_core.specs.Numbers.{number_at}
use Rattle.capture_core.specs.Capture.{cut, fault_in}
use Rattle.capture_core.specs.Blocks.{Block, begins, block_in, block_with, is_bad_length, section_header, section_in, section_order, section_said}
use Rattle.capture_core.specs.SpelledBlocks.{IsBlock, IsSectionHeader}
use Rattle.capture_core.specs.declared.form.OctetOrder.{OctetOrder}
use Rattle.capture_core.specs.declared.form.OctetOrder.TheVariants.{BigEndian, LittleEndian}
use Rattle.capture_core.specs.declared.capture_fault.CaptureCause.{CaptureCause}
use Rattle.capture_core.specs.declared.capture_fault.CaptureCause.TheVariants as cause
use Rattle.capture_core.proofs.BlocksRead.{block_whole, rest_good}
use Rattle.capture_core.proofs.NumberPlaces.{number_behind, number_front}

-- ---- tests that were passed

pub not_refused : {T E : Type 0} (b : Bool) (e : E) (r : Result T E) (t : T) → (if b then Err e else r) ≡ Ok t → (b ≡ false) × (r ≡ Ok t)
not_refused true e r t h = cc
not_refused false e r t h = (refl, h)

pub accepted : {T E : Type 0} (b : Bool) (e : E) (r : Result T E) (t : T) → (if b then r else Err e) ≡ Ok t → (b ≡ true) × (r ≡ Ok t)
accepted true e r t h = (refl, h)
accepted false e r t h = cc

-- a number in the front of octets
pub number_taken : (order : OctetOrder) (n p k : ℕ) (o : List ℕ) → p + n ≤ k → k ≤ length o → number_at order n (take k o) p ≡ number_at order n o p
number_taken order n p k o h l =
    let size : length (take k o) ≡ k = length-take-le k o l in
    sym (number_front order n (take k o) (drop k o) p (omega (arith, size, h))) ∙ ap (λ t. number_at order n t p) (take-append-drop k o)

-- ---- blocks

good_length : (least total : ℕ) → least ≤ total → total % 4 ≡ 0 → total ≤ 16777216 → is_bad_length least total ≡ false
good_length least total a b c =
    let long : ltb total least ≡ false = grind (arith, nat_tests) in
    let fours : eqb (total % 4) 0 ≡ true = grind (arith, nat_tests) in
    let short : ltb 16777216 total ≡ false = grind (arith, nat_tests) in
    rw (long, fours, short) refl

-- the size of a block's body
pub body_size : (order : OctetOrder) (body octets : List ℕ) (b : IsBlock order body octets) → length body + 12 ≡ length octets
body_size order body octets b =
    let all : length octets ≡ length ((b.head ++ body) ++ b.tail) = ap length b.parts in
    let parts : length ((b.head ++ body) ++ b.tail) ≡ (length b.head + length body) + length b.tail = simp length-append in
    omega (arith, all, parts, b.head_size, b.tail_size)

-- octets that are a block are read as what its body says
pub spelled_block : (z : InputEnd) (n : ℕ) (order : OctetOrder) (least : ℕ) (body octets more : List ℕ) (said : List ℕ → Result Block CaptureCause) → IsBlock order body octets → least ≤ length octets →
    block_in z n order least (octets ++ more) said ≡ block_with n (length octets) (said body)
spelled_block z n order least body octets more said b room =
    let size = body_size order body octets b in
    let total : number_at order 4 b.head 4 ≡ length octets = b.tells in
    let good : is_bad_length least (number_at order 4 b.head 4) ≡ false = rw total (good_length least (length octets) room b.in_fours b.at_most) in
    let text : octets ++ more ≡ b.head ++ ((body ++ b.tail) ++ more) = ap (λ l. l ++ more) (b.parts ∙ append_assoc b.head body b.tail) ∙ append_assoc b.head (body ++ b.tail) more in
    let rest : length (body ++ b.tail) + 8 ≡ number_at order 4 b.head 4 = simp length-append (omega (arith, size, b.tail_size, total)) in
    let same : eqb (number_at order 4 b.tail 0) (length octets) ≡ true = let t = b.tells_again in grind (arith, nat_tests, t) in
    ap (λ l. block_in z n order least l said) text
    ∙ block_whole n order least b.head said b.head_size z (body ++ b.tail) more good (omega (arith, size, total)) rest
    ∙ rw total (ap (block_with n (length octets)) (sym (rest_good order (length octets) body b.tail said size true (sym same) refl)))

read_with : (n total size : ℕ) (r : Result Block CaptureCause) (b : Block) → block_with n total r ≡ Ok (b, size) → (r ≡ Ok b) × (total ≡ size)
read_with n total size (Ok x) b e =
    let p : ◌≡◌ {A = Block × ℕ} (x, total) (b, size) = cc in
    (ap (λ (q : Block × ℕ). Ok q.0) p, ap (λ (q : Block × ℕ). q.1) p)
read_with n total size (Err why) b e = cc

pub good_is : (least total : ℕ) → is_bad_length least total ≡ false → (least ≤ total) × (total % 4 ≡ 0) × (total ≤ 16777216)
good_is least total e = (grind (arith, nat_tests, e), grind (arith, nat_tests, e), grind (arith, nat_tests, e))

-- octets that are one block at least, by its lengths
pub whole_block : (order : OctetOrder) (total : ℕ) (o : List ℕ) → 12 ≤ total → total % 4 ≡ 0 → total ≤ 16777216 → total ≤ length o → number_at order 4 o 4 ≡ total → number_at order 4 o (total - 4) ≡ total →
    IsBlock order (take (total - 12) (drop 8 o)) (take total o)
whole_block order total o room fours most whole first same =
    let head = take 8 o in
    let body = take (total - 12) (drop 8 o) in
    let tail = take 4 (drop (total - 4) o) in
    let head_size : length head ≡ 8 = length-take-le 8 o (omega (arith, room, whole)) in
    let tail_size : length tail ≡ 4 = length-take-le 4 (drop (total - 4) o) (simp length-drop (omega (arith, room, whole))) in
    let all : length (take total o) ≡ total = length-take-le total o whole in
    let split : (8 + (total - 12)) + 4 ≡ total = omega (arith, room) in
    let at : 8 + (total - 12) ≡ total - 4 = omega (arith, room) in
    let parts : take total o ≡ (head ++ body) ++ tail =
    ap (λ (k : ℕ). take k o) (sym split) ∙ take-add (8 + (total - 12)) 4 o ∙ ap (λ l. l ++ take 4 (drop (8 + (total - 12)) o)) (take-add 8 (total - 12) o) ∙ ap (λ (k : ℕ). (head ++ body) ++ take 4 (drop k o)) at in
    let end : number_at order 4 tail 0 ≡ number_at order 4 o (total - 4) =
    number_taken order 4 0 4 (drop (total - 4) o) (omega arith) (simp length-drop (omega (arith, room, whole)))
    ∙ sym (ap (λ l. number_at order 4 l (total - 4)) (sym (take-append-drop (total - 4) o)) ∙ number_behind order 4 (take (total - 4) o) (drop (total - 4) o) (total - 4) 0 (let k = length-take-le (total - 4) o (omega (arith, whole)) in omega (arith, k))) in
    record {
      head = head;
      tail = tail;
      parts = parts;
      head_size = head_size;
      tail_size = tail_size;
      tells = number_taken order 4 4 8 o (omega arith) (omega (arith, room, whole)) ∙ first ∙ sym all;
      tells_again = end ∙ same ∙ sym all;
      in_fours = ap (λ (k : ℕ). k % 4) all ∙ fours;
      at_most = omega (arith, all, most);
    }

-- what is read as a block is the octets of one, and what its body says
pub read_block : (z : InputEnd) (n : ℕ) (order : OctetOrder) (least : ℕ) (o : List ℕ) (said : List ℕ → Result Block CaptureCause) (b : Block) (size : ℕ) → 12 ≤ least → block_in z n order least o said ≡ Ok (b, size) →
    (body : List ℕ) × IsBlock order body (take size o) × (least ≤ size) × (size ≤ length o) × (said body ≡ Ok b)
read_block z n order least o said b size room e =
    let total = number_at order 4 o 4 in
    let first = not_refused (is_bad_length least total) (fault_in n cause.BlockLength) _ (b, size) e in
    let second = not_refused (ltb (length o) total) (cut z n) _ (b, size) first.1 in
    let third = accepted (eqb (number_at order 4 o (total - 4)) total) (fault_in n cause.BlockLength) _ (b, size) second.1 in
    let told = read_with n total size (said (take (total - 12) (drop 8 o))) b third.1 in
    let good = good_is least total first.0 in
    let whole : total ≤ length o = let f = second.0 in grind (arith, nat_tests, f) in
    let same : number_at order 4 o (total - 4) ≡ total = let f = third.0 in grind (arith, nat_tests, f) in
    let block = whole_block order total o (omega (arith, room, good.0)) good.1 good.2 whole refl same in
    rw (← told.1) (take (total - 12) (drop 8 o), block, good.0, whole, told.0)

-- ---- section headers

-- the byte-order magic stands in the front
pub magic_front : (o more : List ℕ) → 12 ≤ length o → section_order (o ++ more) ≡ section_order o
magic_front o more h =
    let big : number_at BigEndian 4 (o ++ more) 8 ≡ number_at BigEndian 4 o 8 = number_front BigEndian 4 o more 8 (omega (arith, h)) in
    let little : number_at LittleEndian 4 (o ++ more) 8 ≡ number_at LittleEndian 4 o 8 = number_front LittleEndian 4 o more 8 (omega (arith, h)) in
    rw (big, little) refl

-- octets that are a section header are read as one
pub spelled_section : (z : InputEnd) (n : ℕ) (why : CaptureCause) (order : OctetOrder) (o more : List ℕ) → IsSectionHeader order o → section_header z n why (o ++ more) ≡ Ok (begins order, length o)
spelled_section z n why order o more h =
    let long : ltb (length (o ++ more)) 12 ≡ false = let k = h.at_least in simp length-append (grind (arith, nat_tests, k)) in
    let major : eqb (number_at order 2 h.body 4) 1 ≡ true = let k = h.major in grind (arith, nat_tests, k) in
    rw long (ap (section_in z n why (o ++ more)) (magic_front o more (omega (arith, h.at_least)) ∙ h.magic)
    ∙ spelled_block z n order 28 h.body o more (section_said order why) h.block h.at_least ∙ rw major refl)

-- what is read as a section header is one
section_is : (z : InputEnd) (n : ℕ) (why : CaptureCause) (o : List ℕ) (b : Block) (size : ℕ) (found : Option OctetOrder) → found ≡ section_order o → 12 ≤ length o → section_in z n why o found ≡ Ok (b, size) →
    (order : OctetOrder) × (b ≡ begins order) × IsSectionHeader order (take size o) × (size ≤ length o)
section_is z n why o b size None f h e = cc
section_is z n why o b size (Some order) f h e =
    let r = read_block z n order 28 o (section_said order why) b size (omega arith) e in
    let body = r.0 in
    let v = accepted (eqb (number_at order 2 body 4) 1) why (Ok (begins order)) b r.4 in
    let major : number_at order 2 body 4 ≡ 1 = let k = v.0 in grind (arith, nat_tests, k) in
    let all : length (take size o) ≡ size = length-take-le size o r.3 in
    let magic : section_order (take size o) ≡ Some order =
    sym (magic_front (take size o) (drop size o) (omega (arith, all, r.2))) ∙ ap section_order (take-append-drop size o) ∙ sym f in
    (order, cc, record { body = body; block = r.1; at_least = omega (arith, all, r.2); magic = magic; major = major }, r.3)

pub read_section : (z : InputEnd) (n : ℕ) (why : CaptureCause) (o : List ℕ) (b : Block) (size : ℕ) → section_header z n why o ≡ Ok (b, size) →
    (order : OctetOrder) × (b ≡ begins order) × IsSectionHeader order (take size o) × (size ≤ length o)
read_section z n why o b size e =
    let first = not_refused (ltb (length o) 12) (cut z n) (section_in z n why o (section_order o)) (b, size) e in
    let long : 12 ≤ length o = let f = first.0 in grind (arith, nat_tests, f) in
    section_is z n why o b size (section_order o) refl long first.1

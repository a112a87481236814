-- Octets that begin with no block, and what is read of them.
use Rattle.std.proofs.Common.{◌≡◌, ℕ, ◌+◌, ◌-◌, ◌<◌, ◌≤◌, Bool, true, false, not, ◌||◌, ltb, eqb, inl, inr, List, [], ◌∷◌, ◌++◌, length, take, drop, Option, Some, None, Result, Ok, Err, ap, sym, ◌∙◌, refl, subst, arith}
use Rattle.std.specs.Prelude.{◌%◌, if◌then◌else◌}
use Rattle.std.proofs.lemmas.Bool.{eqb-false, eqb-true, false_from_ne_true, le-ltb, lt-ltb, ltb-false, ltb-true, true_from_ne_false}
use Rattle.std.proofs.lemmas.Bool.Decides.{nat_tests}
use Rattle.std.proofs.lemmas.List.{length-append, length-take-le, take-append-drop}
use Rattle.list_core.specs.declared.device.InputEnd.{InputEnd}
use Rattle.list_core.specs.declared.device.InputEnd.TheVariants.{Open, End, Failed}
use Rattle.list_core.specs.Lines.{Stop, faulty}
use Rattle.capture_core.specs.Numbers.{number_at}
use Rattle.capture_core.specs.Capture.{cut, ended, fault_in}
use Rattle.capture_core.specs.Interfaces.{interface_in}
use Rattle.capture_core.specs.Blocks.{Block, BlockRead, Settled, begins, block_in, block_with, body_said, describes, first_block, interface_said, is_bad_length, next_block, section_header, section_in, section_order, section_said}
use Rattle.capture_core.specs.SpelledBlocks.{IsBlock, type_of}
use Rattle.capture_core.specs.FirstFault.{BlockFault, BodyFault, EndsBy, IsBadLength, LengthFault, SectionFault, bad_length, ends_in_block, ends_in_byte_order, ends_in_first_eight, in_body, in_enhanced, in_later_section, in_lengths, in_obsolete, in_section_lengths, in_simple, no_byte_order, no_interface, other_at_end, other_version, too_many_interfaces, total_length}
use Rattle.capture_core.specs.declared.form.OctetOrder.{OctetOrder}
use Rattle.capture_core.specs.declared.interface.Interface.{Interface}
use Rattle.capture_core.specs.declared.capture_fault.CaptureCause.{CaptureCause}
use Rattle.capture_core.specs.declared.capture_fault.CaptureCause.TheVariants as cause
use Rattle.capture_core.specs.declared.capture_fault.CaptureFault.{CaptureFault}
use Rattle.capture_core.proofs.NumberPlaces.{number_front}
use Rattle.capture_core.proofs.BlocksSpelled.{body_size, good_is, magic_front, number_taken, spelled_block, whole_block}
use Rattle.capture_core.proofs.InterfacesSpelled.{read_interface, spelled_interface}
use Rattle.capture_core.proofs.FaultyInterfaces.{describes_none, none_described}
use Rattle.capture_core.proofs.FaultyPackets.{enhanced_fault, enhanced_refused, obsolete_fault, obsolete_refused, simple_fault, simple_refused}

-- ---- faults as stops

-- a stop that is a fault has this number, and a cause of which this is so
abbrev pub StopsAs : (CaptureCause → Type 0) → ℕ → Stop CaptureFault → Type 0
StopsAs Has n stop = (f : CaptureFault) → stop ≡ faulty f → (f.number ≡ n) × Has f.cause

pub fault_as : (Has : CaptureCause → Type 0) (n : ℕ) (why : CaptureCause) → Has why → StopsAs Has n (fault_in n why)
fault_as Has n why h = λ f e.
    let same : ◌≡◌ {A = CaptureFault} (record { number = n; cause = why }) f = cc in
    (sym (ap (λ (k : CaptureFault). k.number) same), subst Has (ap (λ (k : CaptureFault). k.cause) same) h)

pub cut_as : (Has : CaptureCause → Type 0) (z : InputEnd) (n : ℕ) → ((why : CaptureCause) → EndsBy z why → Has why) → StopsAs Has n (cut z n)
cut_as Has End n h = fault_as Has n cause.CaptureShort (h cause.CaptureShort refl)
cut_as Has Failed n h = fault_as Has n cause.ReadFailed (h cause.ReadFailed refl)
cut_as Has Open n h = λ f e. absurd cc

pub ended_as : (Has : CaptureCause → Type 0) (z : InputEnd) (n : ℕ) → (z ≡ Failed → Has cause.ReadFailed) → StopsAs Has n (ended z n)
ended_as Has End n h = λ f e. absurd cc
ended_as Has Failed n h = fault_as Has n cause.ReadFailed (h refl)
ended_as Has Open n h = λ f e. absurd cc

pub cut_is : (z : InputEnd) (n : ℕ) (why : CaptureCause) → EndsBy z why → cut z n ≡ fault_in n why
cut_is End n why e = ap (fault_in n) (sym e)
cut_is Failed n why e = ap (fault_in n) (sym e)
cut_is Open n why e = absurd e

-- what is read as a block, or why it is not
abbrev pub ReadAs : (CaptureCause → Type 0) → ℕ → BlockRead → Type 0
ReadAs Has n (Ok b) = Unit {0}
ReadAs Has n (Err stop) = StopsAs Has n stop

read_by_test : (Has : CaptureCause → Type 0) (n : ℕ) (b : Bool) (x y : BlockRead) → (b ≡ true → ReadAs Has n x) → (b ≡ false → ReadAs Has n y) → ReadAs Has n (if b then x else y)
read_by_test Has n true x y f g = f refl
read_by_test Has n false x y f g = g refl

pub read_also : (Has Also : CaptureCause → Type 0) (n : ℕ) (r : BlockRead) → ((why : CaptureCause) → Has why → Also why) → ReadAs Has n r → ReadAs Also n r
read_also Has Also n (Ok b) m h = tt
read_also Has Also n (Err stop) m h = λ f e. let t = h f e in (t.0, m f.cause t.1)

-- a refusal by this cause
refusal : (n : ℕ) (why form : CaptureCause) → why ≡ form → ◌≡◌ {A = BlockRead} (Err (fault_in n form)) (Err (fault_in n why))
refusal n why form e = ap (λ (k : CaptureCause). Err (fault_in n k)) (sym e)

cut_refusal : (z : InputEnd) (n : ℕ) (why : CaptureCause) → EndsBy z why → ◌≡◌ {A = BlockRead} (Err (cut z n)) (Err (fault_in n why))
cut_refusal z n why e = ap (λ (k : Stop CaptureFault). Err k) (cut_is z n why e)

-- ---- lengths

bad_by : (least total : ℕ) (x y w : Bool) → ltb total least ≡ x → eqb (total % 4) 0 ≡ y → ltb 16777216 total ≡ w → ((x || not y) || w) ≡ true → IsBadLength least total
bad_by least total true y w a b c e = inl (ltb-true total least a)
bad_by least total false false w a b c e = inr (inl (eqb-false (total % 4) 0 b))
bad_by least total false true true a b c e = inr (inr (ltb-true 16777216 total c))
bad_by least total false true false a b c e = cc

bad_is : (least total : ℕ) → is_bad_length least total ≡ true → IsBadLength least total
bad_is least total e = bad_by least total (ltb total least) (eqb (total % 4) 0) (ltb 16777216 total) refl refl refl e

not_bad : (least total : ℕ) → (least ≤ total) × (total % 4 ≡ 0) × (total ≤ 16777216) → IsBadLength least total → ⊥
not_bad least total g (inl h) = omega (arith, h, g.0)
not_bad least total g (inr (inl h)) = h g.1
not_bad least total g (inr (inr h)) = omega (arith, h, g.2)

good_not : (least total : ℕ) → is_bad_length least total ≡ false → ¬ IsBadLength least total
good_not least total e = λ b. not_bad least total (good_is least total e) b

bad_told : (least total : ℕ) → IsBadLength least total → is_bad_length least total ≡ true
bad_told least total b = true_from_ne_false (is_bad_length least total) (λ e. good_not least total e b)

good_told : (least total : ℕ) → ¬ IsBadLength least total → is_bad_length least total ≡ false
good_told least total n = false_from_ne_true (is_bad_length least total) (λ e. n (bad_is least total e))

with_as : (Has : CaptureCause → Type 0) (n total : ℕ) (r : Result Block CaptureCause) → ((why : CaptureCause) → r ≡ Err why → Has why) → ReadAs Has n (block_with n total r)
with_as Has n total (Ok b) h = tt
with_as Has n total (Err why) h = fault_as Has n why (h why refl)

-- what is not read as a block has a fault in its lengths, or is a whole block whose body is refused
block_as : (Has : CaptureCause → Type 0) (z : InputEnd) (n : ℕ) (order : OctetOrder) (least : ℕ) (o : List ℕ) (said : List ℕ → Result Block CaptureCause) → 12 ≤ least →
    ((why : CaptureCause) → LengthFault z order least why o → Has why) →
    ((body : List ℕ) (why : CaptureCause) → IsBlock order body (take (total_length order o) o) → least ≤ total_length order o → total_length order o ≤ length o → said body ≡ Err why → Has why) →
    ReadAs Has n (block_in z n order least o said)
block_as Has z n order least o said room lengths bodies =
    let total = total_length order o in
    let body = take (total - 12) (drop 8 o) in
    read_by_test Has n (is_bad_length least total) _ _ (λ b. fault_as Has n cause.BlockLength (lengths cause.BlockLength (bad_length (bad_is least total b) refl)))
    (λ b. let good = good_is least total b in
    read_by_test Has n (ltb (length o) total) _ _ (λ c. cut_as Has z n (λ why e. lengths why (ends_in_block (good_not least total b) (ltb-true (length o) total c) e)))
    (λ c. let whole : total ≤ length o = ltb-false (length o) total c in
    read_by_test Has n (eqb (number_at order 4 o (total - 4)) total) _ _
    (λ d. with_as Has n total (said body) (λ why e. bodies body why (whole_block order total o (omega (arith, room, good.0)) good.1 good.2 whole refl (eqb-true (number_at order 4 o (total - 4)) total d)) good.0 whole e))
    (λ d. fault_as Has n cause.BlockLength (lengths cause.BlockLength (other_at_end (good_not least total b) whole (eqb-false (number_at order 4 o (total - 4)) total d) refl)))))

-- octets with a fault in their lengths are refused by it
length_told : (z : InputEnd) (n : ℕ) (order : OctetOrder) (least : ℕ) (o : List ℕ) (said : List ℕ → Result Block CaptureCause) (why : CaptureCause) → LengthFault z order least why o → block_in z n order least o said ≡ Err (fault_in n why)
length_told z n order least o said why (bad_length b e) = rw (bad_told least (total_length order o) b) (refusal n why cause.BlockLength e)
length_told z n order least o said why (ends_in_block b h e) = rw (good_told least (total_length order o) b, lt-ltb (length o) (total_length order o) h) (cut_refusal z n why e)
length_told z n order least o said why (other_at_end b h d e) =
    let total = total_length order o in
    let other : eqb (number_at order 4 o (total - 4)) total ≡ false = false_from_ne_true (eqb (number_at order 4 o (total - 4)) total) (λ f. d (eqb-true (number_at order 4 o (total - 4)) total f)) in
    rw (good_told least total b, le-ltb (length o) total h, other) (refusal n why cause.BlockLength e)

-- a whole block whose body is refused is refused by that
body_told : (z : InputEnd) (n : ℕ) (order : OctetOrder) (least : ℕ) (body block rest : List ℕ) (said : List ℕ → Result Block CaptureCause) (why : CaptureCause) → IsBlock order body block → least ≤ length block →
    said body ≡ Err why → block_in z n order least (block ++ rest) said ≡ Err (fault_in n why)
body_told z n order least body block rest said why b h e = spelled_block z n order least body block rest said b h ∙ ap (block_with n (length block)) e

-- ---- section headers

refused_else : (b : Bool) (x : Block) (form why : CaptureCause) → ◌≡◌ {A = Result Block CaptureCause} (if b then Ok x else Err form) (Err why) → (b ≡ false) × (why ≡ form)
refused_else true x form why e = cc
refused_else false x form why e = (refl, cc)

module _ (z : InputEnd) (n : ℕ) (form : CaptureCause) (o : List ℕ) where
  order_as : (found : Option OctetOrder) → section_order o ≡ found → 12 ≤ length o → ReadAs (λ why. SectionFault z form why o) n (section_in z n form o found)
  order_as None e h = fault_as (λ why. SectionFault z form why o) n form (no_byte_order h e refl)
  order_as (Some order) e h =
      let total = total_length order o in
      block_as (λ why. SectionFault z form why o) z n order 28 o (section_said order form) (omega arith) (λ why l. in_section_lengths order h e l)
      (λ body why b least all said.
      let v = refused_else (eqb (number_at order 2 body 4) 1) (begins order) form why said in
      let size : length (take total o) ≡ total = length-take-le total o all in
      let magic : section_order (take total o) ≡ Some order =
      sym (magic_front (take total o) (drop total o) (omega (arith, size, least))) ∙ ap section_order (take-append-drop total o) ∙ e in
      other_version order (take total o) (drop total o) body (sym (take-append-drop total o)) magic b (omega (arith, size, least)) (eqb-false (number_at order 2 body 4) 1 v.0) v.1)

  -- what is not read as a section header has that fault
  pub section_as : ReadAs (λ why. SectionFault z form why o) n (section_header z n form o)
  section_as =
      read_by_test (λ why. SectionFault z form why o) n (ltb (length o) 12) _ _ (λ b. cut_as (λ why. SectionFault z form why o) z n (λ why e. ends_in_byte_order (ltb-true (length o) 12 b) e))
      (λ b. order_as (section_order o) refl (ltb-false (length o) 12 b))

-- octets with a fault in their section header are refused by it
pub section_told : (z : InputEnd) (n : ℕ) (form why : CaptureCause) (o : List ℕ) → SectionFault z form why o → section_header z n form o ≡ Err (fault_in n why)
section_told z n form why o (ends_in_byte_order h e) = rw (lt-ltb (length o) 12 h) (cut_refusal z n why e)
section_told z n form why o (no_byte_order h m e) = rw (le-ltb (length o) 12 h) (ap (section_in z n form o) m ∙ refusal n why form e)
section_told z n form why o (in_section_lengths order h m l) = rw (le-ltb (length o) 12 h) (ap (section_in z n form o) m ∙ length_told z n order 28 o (section_said order form) why l)
section_told z n form why o (other_version order header rest body e m b h v w) =
    let long : ltb (length (header ++ rest)) 12 ≡ false = simp length-append (le-ltb (length header + length rest) 12 (omega (arith, h))) in
    let other : eqb (number_at order 2 body 4) 1 ≡ false = false_from_ne_true (eqb (number_at order 2 body 4) 1) (λ f. v (eqb-true (number_at order 2 body 4) 1 f)) in
    let said : section_said order form body ≡ Err why = rw other (ap (λ (k : CaptureCause). Err k) (sym w)) in
    ap (section_header z n form) e ∙ rw long (ap (section_in z n form (header ++ rest)) (magic_front header rest (omega (arith, h)) ∙ m) ∙ body_told z n order 28 body header rest (section_said order form) why b h said)

-- ---- bodies

module _ (s : Settled) (type : ℕ) (why : CaptureCause) (body : List ℕ) where
  interface_fault : (found : Option Interface) → interface_in s.order body ≡ found → type ≡ 1 → interface_said s found ≡ Err why → BodyFault s type why body
  interface_fault None f t e = no_interface t (describes_none s.order body f) (let same : why ≡ cause.BlockForm = cc in same)
  interface_fault (Some i) f t e =
      let v = refused_else (ltb (length s.interfaces) 65536) (describes i) cause.BlockForm why e in
      too_many_interfaces t i (read_interface s.order i body f) (ltb-false (length s.interfaces) 65536 v.0) v.1

  body_by : (x six two three : Bool) → eqb type 1 ≡ x → eqb type 6 ≡ six → eqb type 2 ≡ two → eqb type 3 ≡ three → body_said s type body ≡ Err why → BodyFault s type why body
  body_by true six two three e f g h r = interface_fault (interface_in s.order body) refl (eqb-true type 1 e) (rw e at r)
  body_by false true two three e f g h r = in_enhanced (eqb-true type 6 f) (enhanced_fault s why body (rw (e, f) at r))
  body_by false false true three e f g h r = in_obsolete (eqb-true type 2 g) (obsolete_fault s why body (rw (e, f, g) at r))
  body_by false false false true e f g h r = in_simple (eqb-true type 3 h) (simple_fault s why body (rw (e, f, g, h) at r))
  body_by false false false false e f g h r = let wrong = rw (e, f, g, h) at r in cc

  -- a body that is refused has that fault
  body_fault : body_said s type body ≡ Err why → BodyFault s type why body
  body_fault r = body_by (eqb type 1) (eqb type 6) (eqb type 2) (eqb type 3) refl refl refl refl r

  no_section : BodyFault s type why body → type ≡ 0x0a0d0d0a → ⊥
  no_section (no_interface t d e) f = omega (arith, t, f)
  no_section (too_many_interfaces t i d m e) f = omega (arith, t, f)
  no_section (in_enhanced t d) f = omega (arith, t, f)
  no_section (in_obsolete t d) f = omega (arith, t, f)
  no_section (in_simple t d) f = omega (arith, t, f)

body_refusal : (why form : CaptureCause) → why ≡ form → ◌≡◌ {A = Result Block CaptureCause} (Err form) (Err why)
body_refusal why form e = ap (λ (k : CaptureCause). Err k) (sym e)

-- a body with a fault is refused by it
body_refused : (s : Settled) (type : ℕ) (why : CaptureCause) (body : List ℕ) → BodyFault s type why body → body_said s type body ≡ Err why
body_refused s type why body (no_interface t d e) = ap (λ (k : ℕ). body_said s k body) t ∙ ap (interface_said s) (none_described s.order body d) ∙ body_refusal why cause.BlockForm e
body_refused s type why body (too_many_interfaces t i d m e) =
    let full : ltb (length s.interfaces) 65536 ≡ false = le-ltb (length s.interfaces) 65536 m in
    ap (λ (k : ℕ). body_said s k body) t ∙ ap (interface_said s) (spelled_interface s.order i body d) ∙ rw full (body_refusal why cause.BlockForm e)
body_refused s type why body (in_enhanced t d) = ap (λ (k : ℕ). body_said s k body) t ∙ enhanced_refused s why body d
body_refused s type why body (in_obsolete t d) = ap (λ (k : ℕ). body_said s k body) t ∙ obsolete_refused s why body d
body_refused s type why body (in_simple t d) = ap (λ (k : ℕ). body_said s k body) t ∙ simple_refused s why body d

-- ---- one block

module _ (z : InputEnd) (n : ℕ) (s : Settled) where
  -- what is not read as a block has that fault
  first_as : (o : List ℕ) → ReadAs (λ why. BlockFault z s why o) n (first_block z n s o)
  first_as o =
      let Has = λ (why : CaptureCause). BlockFault z s why o in
      let total = total_length s.order o in
      read_by_test Has n (ltb (length o) 8) _ _ (λ b. cut_as Has z n (λ why e. ends_in_first_eight (ltb-true (length o) 8 b) e))
      (λ b. let h = ltb-false (length o) 8 b in
      read_by_test Has n (eqb (type_of s o) 0x0a0d0d0a) _ _
      (λ t. read_also (λ why. SectionFault z cause.BlockForm why o) Has n (section_header z n cause.BlockForm o) (λ why f. in_later_section h (eqb-true (type_of s o) 0x0a0d0d0a t) f) (section_as z n cause.BlockForm o))
      (λ t. block_as Has z n s.order 12 o (body_said s (type_of s o)) (omega arith) (λ why l. in_lengths h (eqb-false (type_of s o) 0x0a0d0d0a t) l)
      (λ body why k least all said.
      let type : type_of s (take total o) ≡ type_of s o = number_taken s.order 4 0 total o (omega (arith, least)) all in
      in_body (take total o) (drop total o) body (sym (take-append-drop total o)) k (subst (λ (j : ℕ). BodyFault s j why body) (sym type) (body_fault s (type_of s o) why body said)))))

  -- octets with a fault in their first block are refused by it
  first_refused : (why : CaptureCause) (o : List ℕ) → BlockFault z s why o → first_block z n s o ≡ Err (fault_in n why)
  first_refused why o (ends_in_first_eight h e) = rw (lt-ltb (length o) 8 h) (cut_refusal z n why e)
  first_refused why o (in_later_section h t f) =
      let same : eqb (type_of s o) 0x0a0d0d0a ≡ true = grind (arith, nat_tests, t) in
      rw (le-ltb (length o) 8 h, same) (section_told z n cause.BlockForm why o f)
  first_refused why o (in_lengths h t l) =
      let other : eqb (type_of s o) 0x0a0d0d0a ≡ false = false_from_ne_true (eqb (type_of s o) 0x0a0d0d0a) (λ f. t (eqb-true (type_of s o) 0x0a0d0d0a f)) in
      rw (le-ltb (length o) 8 h, other) (length_told z n s.order 12 o (body_said s (type_of s o)) why l)
  first_refused why o (in_body block rest body e b f) =
      let size = body_size s.order body block b in
      let room : 12 ≤ length block = omega (arith, size) in
      let long : ltb (length (block ++ rest)) 8 ≡ false = simp length-append (le-ltb (length block + length rest) 8 (omega (arith, room))) in
      let type : number_at s.order 4 (block ++ rest) 0 ≡ type_of s block = number_front s.order 4 block rest 0 (omega (arith, room)) in
      let other : eqb (type_of s block) 0x0a0d0d0a ≡ false = false_from_ne_true (eqb (type_of s block) 0x0a0d0d0a) (λ t. no_section s (type_of s block) why body f (eqb-true (type_of s block) 0x0a0d0d0a t)) in
      ap (first_block z n s) e ∙ rw (long, type, other) (body_told z n s.order 12 body block rest (body_said s (type_of s block)) why b room (body_refused s (type_of s block) why body f))

  pub next_refused : (why : CaptureCause) (o : List ℕ) → 0 < length o → BlockFault z s why o → next_block z n s o ≡ Err (fault_in n why)
  next_refused why [] h f = absurd (omega (arith, h))
  next_refused why (x ∷ xs) h f = first_refused why (x ∷ xs) f

  pub next_as : (Has : CaptureCause → Type 0) (o : List ℕ) → (o ≡ [] → z ≡ Failed → Has cause.ReadFailed) → ((why : CaptureCause) → 0 < length o → BlockFault z s why o → Has why) → ReadAs Has n (next_block z n s o)
  next_as Has [] p q = ended_as Has z n (λ f. p refl f)
  next_as Has (x ∷ xs) p q = read_also (λ why. BlockFault z s why (x ∷ xs)) Has n (first_block z n s (x ∷ xs)) (λ why f. q why (omega arith) f) (first_as (x ∷ xs))

-- The start of a capture that is read part by part.
use Rattle.std.proofs.Common.{◌≡◌, ℕ, ◌<◌, true, false, ltb, eqb, List, [], ◌++◌, length, drop, Option, Some, None, Ok, Err, ap, sym, ◌∙◌, refl, arith, append_assoc}
use Rattle.std.specs.Prelude.{is_some}
use borrow.Rule.Slice.PartMut.{put_mid, post_of}
use Rattle.std.proofs.lemmas.List.{append-nil, drop_all, drop_at, length-append, take_at}
use Rattle.std.proofs.lemmas.Bool.Decides.{nat_tests}
use Rattle.list_core.specs.declared.device.InputEnd.{InputEnd}
use Rattle.capture_core.specs.Numbers.{number_at}
use Rattle.capture_core.specs.Header.{form_of, header_of}
use Rattle.capture_core.specs.Capture.{cut, fault_in}
use Rattle.list_core.specs.declared.device.InputEnd.TheVariants.{Open}
use Rattle.list_core.specs.Lines.{Stop}
use Rattle.capture_core.specs.Blocks.{begins, section_header}
use Rattle.capture_core.specs.computed.OneRead.{ReadsFront, capture_front, classic_form, classic_front, start_by_magic, start_of_block}
use Rattle.capture_core.specs.declared.form.CaptureForm.{CaptureForm}
use Rattle.capture_core.specs.declared.form.OctetOrder.{OctetOrder}
use Rattle.capture_core.specs.declared.form.OctetOrder.TheVariants.{BigEndian}
use Rattle.capture_core.specs.declared.start.Start.TheVariants as start
use Rattle.capture_core.specs.declared.capture_fault.CaptureFault.{CaptureFault}
use Rattle.capture_core.specs.declared.capture_fault.CaptureCause.{CaptureCause}
use Rattle.capture_core.specs.declared.capture_fault.CaptureCause.TheVariants as cause
use Rattle.capture_core.proofs.NumberPlaces.{number_front}

pub start_short : (z : InputEnd) (octets : List ℕ) → length octets < 4 → capture_front z octets ≡ Err (cut z 0)
start_short z octets few =
    let short : ltb (length octets) 4 ≡ true = grind (arith, nat_tests) in
    rw short refl

-- the first four octets are these
start_is : (z : InputEnd) (magic rest : List ℕ) → length magic ≡ 4 → capture_front z (magic ++ rest) ≡ start_by_magic (form_of magic) z (magic ++ rest)
start_is z magic rest m =
    let long : ltb (length (magic ++ rest)) 4 ≡ false = simp length-append (grind (arith, nat_tests)) in
    rw long (ap (λ (l : List ℕ). start_by_magic (form_of l) z (magic ++ rest)) (take_at magic rest 4 m))

pub start_classic : (z : InputEnd) (magic rest : List ℕ) (form : CaptureForm) → length magic ≡ 4 → Some form ≡ form_of magic → capture_front z (magic ++ rest) ≡ classic_front z (magic ++ rest)
start_classic z magic rest form m e = start_is z magic rest m ∙ ap (λ (f : Option CaptureForm). start_by_magic f z (magic ++ rest)) (sym e)

type_is : (magic rest : List ℕ) → length magic ≡ 4 → number_at BigEndian 4 (magic ++ rest) 0 ≡ number_at BigEndian 4 magic 0
type_is magic rest m = number_front BigEndian 4 magic rest 0 (omega (arith, m))

pub start_section : (z : InputEnd) (magic rest : List ℕ) → length magic ≡ 4 → None ≡ form_of magic → number_at BigEndian 4 magic 0 ≡ 0x0a0d0d0a → capture_front z (magic ++ rest) ≡ start_of_block (section_header z 0 cause.CaptureHeader (magic ++ rest))
start_section z magic rest m e t =
    let same : eqb (number_at BigEndian 4 (magic ++ rest) 0) 0x0a0d0d0a ≡ true = let i = type_is magic rest m in grind (arith, nat_tests, i, t) in
    start_is z magic rest m ∙ ap (λ (f : Option CaptureForm). start_by_magic f z (magic ++ rest)) (sym e) ∙ rw same refl

pub start_none : (z : InputEnd) (magic rest : List ℕ) → length magic ≡ 4 → None ≡ form_of magic → (number_at BigEndian 4 magic 0 ≡ 0x0a0d0d0a → ⊥) → capture_front z (magic ++ rest) ≡ Err (fault_in 0 cause.CaptureHeader)
start_none z magic rest m e t =
    let other : eqb (number_at BigEndian 4 magic 0) 0x0a0d0d0a ≡ false = grind (arith, nat_tests) in
    start_is z magic rest m ∙ ap (λ (f : Option CaptureForm). start_by_magic f z (magic ++ rest)) (sym e) ∙ rw (type_is magic rest m, other) refl

some_form : (o : Option CaptureForm) → is_some o ≡ true → (f : CaptureForm) × (Some f ≡ o)
some_form None e = cc
some_form (Some f) e = (f, refl)

no_form : (o : Option CaptureForm) → is_some o ≡ false → None ≡ o
no_form None e = refl
no_form (Some f) e = cc

-- the magic number is one of the classic form
pub start_some : (z : InputEnd) (magic rest : List ℕ) → length magic ≡ 4 → is_some (form_of magic) ≡ true → capture_front z (magic ++ rest) ≡ classic_front z (magic ++ rest)
start_some z magic rest m e = let f = some_form (form_of magic) e in start_classic z magic rest f.0 m f.1

pub start_other : (z : InputEnd) (magic rest : List ℕ) → length magic ≡ 4 → is_some (form_of magic) ≡ false → (number_at BigEndian 4 magic 0 ≡ 0x0a0d0d0a → ⊥) → capture_front z (magic ++ rest) ≡ Err (fault_in 0 cause.CaptureHeader)
start_other z magic rest m e t = start_none z magic rest m (no_form (form_of magic) e) t

pub start_blocks : (z : InputEnd) (magic rest : List ℕ) → length magic ≡ 4 → is_some (form_of magic) ≡ false → number_at BigEndian 4 magic 0 ≡ 0x0a0d0d0a → capture_front z (magic ++ rest) ≡ start_of_block (section_header z 0 cause.CaptureHeader (magic ++ rest))
start_blocks z magic rest m e t = start_section z magic rest m (no_form (form_of magic) e) t

-- fewer octets than the byte-order magic needs
pub section_few : (z : InputEnd) (n : ℕ) (why : CaptureCause) (octets : List ℕ) → length octets < 12 → section_header z n why octets ≡ Err (cut z n)
section_few z n why octets few =
    let short : ltb (length octets) 12 ≡ true = grind (arith, nat_tests) in
    rw short refl

module _ (held : List ℕ) (old new : Option (List ℕ)) (z w : InputEnd) (f : (y : InputEnd) (rest : List ℕ) → capture_front y (held ++ rest) ≡ start_of_block (section_header y 0 cause.CaptureHeader (held ++ rest))) where
  -- a section header that was read is the start of a capture
  pub section_starts : (order : OctetOrder) → ReadsFront (λ y octets. section_header y 0 cause.CaptureHeader octets) held old z (Ok (begins order)) new w → ReadsFront capture_front held old z (Ok (start.Blocks order)) new w
  section_starts order r = record {
    given = r.given;
    took = r.took;
    only_open = r.only_open;
    asked = λ front rest e c. f Open front ∙ ap start_of_block (r.asked front rest e c);
    stands = λ more y c. ap (capture_front y) (append_assoc held r.given more) ∙ f y (r.given ++ more)
        ∙ ap start_of_block (ap (section_header y 0 cause.CaptureHeader) (sym (append_assoc held r.given more)) ∙ r.stands more y c);
  }

  pub section_fails : (stop : Stop CaptureFault) → ReadsFront (λ y octets. section_header y 0 cause.CaptureHeader octets) held old z (Err (Some stop)) new w → ReadsFront capture_front held old z (Err (Some stop)) new w
  section_fails stop r = record {
    given = r.given;
    took = r.took;
    only_open = r.only_open;
    asked = λ front rest e c. f Open front ∙ ap start_of_block (r.asked front rest e c);
    stands = λ more y c. ap (capture_front y) (append_assoc held r.given more) ∙ f y (r.given ++ more)
        ∙ ap start_of_block (ap (section_header y 0 cause.CaptureHeader) (sym (append_assoc held r.given more)) ∙ r.stands more y c);
  }

-- octets written over the rest behind others
pub joined : (a b zeros : List ℕ) (m k : ℕ) → length a ≡ m → length zeros ≡ k → put_mid m k (a ++ zeros) b ≡ a ++ b
joined a b zeros m k h l =
    let none : post_of m k (a ++ zeros) ≡ [] = ap (drop k) (drop_at a zeros m h) ∙ drop_all k zeros (omega (arith, l)) in
    ap (λ x. x ++ (b ++ post_of m k (a ++ zeros))) (take_at a zeros m h) ∙ ap (λ x. a ++ (b ++ x)) none ∙ ap (λ x. a ++ x) (append-nil b)

-- ---- the header of the classic form

pub classic_short : (z : InputEnd) (magic part : List ℕ) → length magic ≡ 4 → length part < 20 → classic_front z (magic ++ part) ≡ Err (cut z 0)
classic_short z magic part m few =
    let short : ltb (length (magic ++ part)) 24 ≡ true = simp length-append (grind (arith, nat_tests)) in
    rw short refl

pub classic_whole : (z : InputEnd) (magic given more : List ℕ) → length magic ≡ 4 → length given ≡ 20 → classic_front z ((magic ++ given) ++ more) ≡ classic_form (header_of (magic ++ given))
classic_whole z magic given more m g =
    let size : length (magic ++ given) ≡ 24 = simp length-append (omega (arith, m, g)) in
    let long : ltb (length ((magic ++ given) ++ more)) 24 ≡ false = simp length-append (grind (arith, nat_tests)) in
    rw long (ap (λ (l : List ℕ). classic_form (header_of l)) (take_at (magic ++ given) more 24 size))

-- Texts that spell records, and captures that end without a fault.
use Rattle.std.proofs.Common.{Bool, ◌≡◌, ℕ, ◌+◌, ◌-◌, ◌≤◌, zero, suc, true, false, ltb, inl, inr, List, [], ◌∷◌, ◌++◌, length, take, drop, Option, Some, None, ap, sym, ◌∙◌, refl, subst, arith, append_assoc}
use Rattle.std.specs.Prelude.{if◌then◌else◌}
use Rattle.std.proofs.lemmas.List.{take_at, drop_at, length-append, length-take, length-take-le, take-append-drop}
use Rattle.std.proofs.lemmas.Bool.Decides.{leb_tells, nat_tests}
use Rattle.list_core.specs.declared.device.InputEnd.{InputEnd}
use Rattle.list_core.specs.declared.device.InputEnd.TheVariants.{Open, End, Failed}
use Rattle.list_core.specs.Lines.{finished}
use Rattle.capture_core.specs.declared.form.CaptureForm.{CaptureForm}
use Rattle.capture_core.specs.declared.capture_fault.CaptureCause.{CaptureCause}
use Rattle.capture_core.specs.declared.capture_fault.CaptureCause.TheVariants.{CaptureHeader, RecordLength}
use Rattle.capture_core.specs.Header.{header_of}
use Rattle.capture_core.specs.Capture.{Capture, CaptureRecord, records_behind, capture, captured_size, cut, ended, fault_in, moment_in_head, put_record, read_one, records_of, no_records}
use Rattle.capture_core.specs.Spelling.{SpellsCapture, SpellsRecord, SpellsRecords, numbered, whole_capture}
use Rattle.capture_core.specs.Laws.{ReadIsSpelled, SpelledIsRead}
use Rattle.capture_core.proofs.Headers.{capture_first}
use Rattle.capture_core.proofs.Records.{none_of, one_whole}

-- ---- how a capture stops

pub not_cut : (z : InputEnd) (n : ℕ) → cut z n ≡ finished → ⊥
not_cut End n e = cc
not_cut Failed n e = cc
not_cut Open n e = cc

pub only_end : (z : InputEnd) (n : ℕ) → ended z n ≡ finished → z ≡ End
only_end End n e = refl
only_end Failed n e = cc
only_end Open n e = cc

pub no_fault : (n : ℕ) (why : CaptureCause) → fault_in n why ≡ finished → ⊥
no_fault n why e = cc

-- where three refusals are passed over, none of their tests holds
passed : (a b c : Bool) (x y w good : Capture) → (x.stop ≡ finished → ⊥) → (y.stop ≡ finished → ⊥) → (w.stop ≡ finished → ⊥) →
    (if a then x else (if b then y else (if c then w else good))).stop ≡ finished → (a ≡ false) × (b ≡ false) × (c ≡ false) × ((if a then x else (if b then y else (if c then w else good))) ≡ good)
passed true b c x y w good p q r s = absurd (p s)
passed false true c x y w good p q r s = absurd (q s)
passed false false true x y w good p q r s = absurd (r s)
passed false false false x y w good p q r s = (refl, refl, refl, refl)

module _ (form : CaptureForm) where
  -- the first of records, where there is room for it
  pub step_of : (z : InputEnd) (n most : ℕ) (head rest : List ℕ) → length head ≡ 16 →
      records_of form z n (suc most) (head ++ rest) ≡ read_one form z (n + 1) head rest (records_of form z (n + 1) most (drop (captured_size form head) rest))
  unfolding records_of
  step_of z n most [] rest h = absurd (omega (arith, h))
  step_of z n most (x ∷ xs) rest h =
      let one = λ (hd : List ℕ) (rs : List ℕ). read_one form z (n + 1) hd rs (records_of form z (n + 1) most (drop (captured_size form hd) rs)) in
      ap (λ hd. one hd (drop 16 (x ∷ (xs ++ rest)))) (take_at (x ∷ xs) rest 16 h) ∙ ap (one (x ∷ xs)) (drop_at (x ∷ xs) rest 16 h)

  -- ---- what is spelled is read

  pub spelled_reads : (n most : ℕ) (rs : List CaptureRecord) (o : List ℕ) → length rs ≤ most → SpellsRecords form rs o → records_of form End n most o ≡ record { records = numbered n rs; stop = finished }
  spelled_reads n most [] o h s = ap (records_of form End n most) s ∙ none_of form End n most
  spelled_reads n zero (r ∷ rs) o h s = absurd (omega arith)
  spelled_reads n (suc most) (r ∷ rs) o h (front, rest, e, (head, whole, moment, size, short, is), s) =
      let text : o ≡ head ++ (r.octets ++ rest) = e ∙ ap (λ l. l ++ rest) is ∙ append_assoc head r.octets rest in
      let others = records_of form End (n + 1) most (drop (captured_size form head) (r.octets ++ rest)) in
      let octets : take (captured_size form head) (r.octets ++ rest) ≡ r.octets = take_at r.octets rest (captured_size form head) (sym size) in
      let records_behind : drop (captured_size form head) (r.octets ++ rest) ≡ rest = drop_at r.octets rest (captured_size form head) (sym size) in
      ap (records_of form End n (suc most)) text ∙ step_of End n most head (r.octets ++ rest) whole
      ∙ one_whole form End (n + 1) head (r.octets ++ rest) others whole (omega (arith, size)) (simp length-append (omega (arith, size)))
      ∙ rw (octets, moment, records_behind) (ap (put_record (n + 1, r)) (spelled_reads (n + 1) most rs rest (omega arith) s))

  -- ---- what is read is spelled

  -- a record behind which a capture ends without a fault
  one_read : (z : InputEnd) (n : ℕ) (head rest : List ℕ) (others : Capture) → (read_one form z n head rest others).stop ≡ finished →
      (16 ≤ length head) × (captured_size form head ≤ 262144) × (captured_size form head ≤ length rest)
      × (read_one form z n head rest others ≡ put_record (n, record { moment = moment_in_head form head; octets = take (captured_size form head) rest }) others)
  one_read z n head rest others s =
      let good = put_record (n, record { moment = moment_in_head form head; octets = take (captured_size form head) rest }) others in
      let p = passed (ltb (length head) 16) (ltb 262144 (captured_size form head)) (ltb (length rest) (captured_size form head)) (no_records (cut z n)) (no_records (fault_in n RecordLength)) (no_records (cut z n)) good
      (not_cut z n) (no_fault n RecordLength) (not_cut z n) s in
      let a : ltb (length head) 16 ≡ false = p.0 in
      let b : ltb 262144 (captured_size form head) ≡ false = p.1 in
      let c : ltb (length rest) (captured_size form head) ≡ false = p.2 in
      (grind (arith, nat_tests), grind (arith, nat_tests), grind (arith, nat_tests), p.3)

  unfoldable pub Read : InputEnd → ℕ → ℕ → List ℕ → Type 0
  Read z n most o = (z ≡ End) × ((rs : List CaptureRecord) × SpellsRecords form rs o × (length rs ≤ most) × (records_of form z n most o ≡ record { records = numbered n rs; stop = finished }))

  pub read_spelled : (z : InputEnd) (n most : ℕ) (o : List ℕ) → (records_of form z n most o).stop ≡ finished → Read z n most o
  unfolding records_of Read
  read_spelled z n zero [] s = let e = only_end z (n + 1) s in (e, ([], refl, omega arith, ap (λ w. no_records (ended w (n + 1))) e))
  read_spelled z n zero (x ∷ xs) s = cc
  read_spelled z n (suc most) [] s = let e = only_end z (n + 1) s in (e, ([], refl, omega arith, ap (λ w. no_records (ended w (n + 1))) e))
  read_spelled z n (suc most) (x ∷ xs) s =
      let o = x ∷ xs in
      let head = take 16 o in
      let rest = drop 16 o in
      let size = captured_size form head in
      let r : CaptureRecord = record { moment = moment_in_head form head; octets = take size rest } in
      let others = records_of form z (n + 1) most (drop size rest) in
      let one = one_read z (n + 1) head rest others s in
      let more = read_spelled z (n + 1) most (drop size rest) (sym (ap (λ (c : Capture). c.stop) one.3) ∙ s) in
      let whole : length head ≡ 16 = omega (arith, one.0, length-take 16 o) in
      let all : length (take size rest) ≡ size = length-take-le size rest one.2 in
      let text : o ≡ (head ++ take size rest) ++ drop size rest =
      sym (append_assoc head (take size rest) (drop size rest) ∙ ap (λ l. head ++ l) (take-append-drop size rest) ∙ take-append-drop 16 o) in
      let spelled : SpellsRecord form r (head ++ take size rest) = (head, whole, refl, sym all, omega (arith, all, one.1), refl) in
      (more.0, (r ∷ more.1.0, (head ++ take size rest, drop size rest, text, spelled, more.1.1), omega (arith, more.1.2), one.3 ∙ ap (put_record (n + 1, r)) more.1.3))

spelled_is_read_in : (form : CaptureForm) (header rest : List ℕ) (rs : List CaptureRecord) → length header ≡ 24 → header_of header ≡ Some form → length rs ≤ 999999 → SpellsRecords form rs rest → capture End (header ++ rest) ≡ whole_capture rs
spelled_is_read_in form header rest rs h e few s =
    capture_first End header rest (Some form) h (sym e) ∙ spelled_reads form 0 (999999 - 0) rs rest (omega arith) s

pub spelled_is_read : SpelledIsRead
spelled_is_read rs o (form, header, rest, e, h, f, few, s) = ap (capture End) e ∙ spelled_is_read_in form header rest rs h f few s

-- a header before octets
behind_spelled : (z : InputEnd) (header rest : List ℕ) (form : Option CaptureForm) → length header ≡ 24 → form ≡ header_of header → (records_behind form z rest).stop ≡ finished →
    (z ≡ End) × ((rs : List CaptureRecord) × SpellsCapture rs (header ++ rest) × (records_behind form z rest ≡ whole_capture rs))
unfolding Read
behind_spelled z header rest None h e s = absurd (no_fault 0 CaptureHeader s)
behind_spelled z header rest (Some form) h e s =
    let r = read_spelled form z 0 (999999 - 0) rest s in
    (r.0, (r.1.0, (form, header, rest, refl, h, sym e, omega (arith, r.1.2), r.1.1), r.1.3))

pub read_is_spelled : ReadIsSpelled
read_is_spelled z o s =
    elim (leb_tells 24 (length o)) [
      | inl e ↦
          let header = take 24 o in
          let rest = drop 24 o in
          let whole : length header ≡ 24 = length-take-le 24 o e.1 in
          let text : header ++ rest ≡ o = take-append-drop 24 o in
          let first : capture z o ≡ records_behind (header_of header) z rest = ap (capture z) (sym text) ∙ capture_first z header rest (header_of header) whole refl in
          let r = behind_spelled z header rest (header_of header) whole refl (sym (ap (λ (c : Capture). c.stop) first) ∙ s) in
          (r.0, (r.1.0, subst (SpellsCapture r.1.0) text r.1.1, first ∙ r.1.2))
      | inr e ↦
          let short : ltb (length o) 24 ≡ true = grind (arith, nat_tests) in
          absurd (not_cut z 0 (rw short at s))
    ]

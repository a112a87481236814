-- Records one behind another up to a first fault, and what is read of them.
use Rattle.std.proofs.Common.{◌≡◌, ℕ, ◌+◌, ◌-◌, ◌<◌, ◌≤◌, zero, suc, Bool, true, false, ltb, List, [], ◌∷◌, ◌++◌, length, take, drop, ap, sym, ◌∙◌, refl, arith, append_assoc}
use Rattle.std.specs.Prelude.{if◌then◌else◌}
use Rattle.std.proofs.lemmas.Bool.{le-ltb, lt-ltb, ltb-false, ltb-true}
use Rattle.std.proofs.lemmas.List.{append-nil, drop_at, length-append, length-drop, length-take, length-take-le, take-append-drop, take_all, take_at}
use Rattle.list_core.specs.declared.device.InputEnd.{InputEnd}
use Rattle.list_core.specs.Lines.{Stop, faulty}
use Rattle.capture_core.specs.Numbers.{number_at}
use Rattle.capture_core.specs.Capture.{Capture, CaptureRecord, captured_size, cut, ended, fault_in, moment_in_head, no_records, put_record, read_one, records_of}
use Rattle.capture_core.specs.Spelling.{SpellsRecord, SpellsRecords, numbered}
use Rattle.capture_core.specs.FirstFault.{NextFault, RecordFault, before_next, ends_in_head, ends_in_record, in_next, record_too_long, too_many}
use Rattle.capture_core.specs.declared.form.CaptureForm.{CaptureForm}
use Rattle.capture_core.specs.declared.capture_fault.CaptureCause.{CaptureCause}
use Rattle.capture_core.specs.declared.capture_fault.CaptureCause.TheVariants as cause
use Rattle.capture_core.specs.declared.capture_fault.CaptureFault.{CaptureFault}
use Rattle.capture_core.proofs.BlocksSpelled.{number_taken}
use Rattle.capture_core.proofs.Records.{none_of, one_whole}
use Rattle.capture_core.proofs.SpelledCaptures.{step_of}
use Rattle.capture_core.proofs.FaultyBlocks.{cut_as, cut_is, ended_as, fault_as}
use Rattle.capture_core.proofs.FaultySections.{next_shift}

-- records before others
abbrev put_records : List (ℕ × CaptureRecord) → Capture → Capture
put_records es c = record { records = es ++ c.records; stop = c.stop }

module _ (form : CaptureForm) where
  -- ---- whole records before others

  records_front : (rs : List CaptureRecord) (z : InputEnd) (n m most left : ℕ) (front rest : List ℕ) → m ≡ n + length rs → most ≡ length rs + left → SpellsRecords form rs front →
      records_of form z n most (front ++ rest) ≡ put_records (numbered n rs) (records_of form z m left rest)
  records_front [] z n m most left front rest g h e =
      let same : most ≡ left = omega (arith, h) in
      let here : n ≡ m = omega (arith, g) in
      ap (λ (k : ℕ). records_of form z n k (front ++ rest)) same ∙ ap (λ (t : List ℕ). records_of form z n left (t ++ rest)) e ∙ ap (λ (k : ℕ). records_of form z k left rest) here
  records_front (r ∷ rs) z n m most left front rest g h (one, others, e, (head, whole, moment, size, short, is), are) =
      let k = length rs + left in
      let next : most ≡ suc k = omega (arith, h) in
      let behind = others ++ rest in
      let text : front ++ rest ≡ head ++ (r.octets ++ behind) =
      ap (λ (t : List ℕ). t ++ rest) e ∙ append_assoc one others rest ∙ ap (λ (t : List ℕ). t ++ behind) is ∙ append_assoc head r.octets behind in
      let more = records_of form z (n + 1) k (drop (captured_size form head) (r.octets ++ behind)) in
      let octets : take (captured_size form head) (r.octets ++ behind) ≡ r.octets = take_at r.octets behind (captured_size form head) (sym size) in
      let records_behind : drop (captured_size form head) (r.octets ++ behind) ≡ behind = drop_at r.octets behind (captured_size form head) (sym size) in
      ap (λ (j : ℕ). records_of form z n j (front ++ rest)) next
      ∙ ap (records_of form z n (suc k)) text ∙ step_of form z n k head (r.octets ++ behind) whole
      ∙ one_whole form z (n + 1) head (r.octets ++ behind) more whole (omega (arith, size, short)) (simp length-append (omega (arith, size)))
      ∙ rw (octets, moment, records_behind) (ap (put_record (n + 1, r)) (records_front rs z (n + 1) m k left others rest (omega (arith, g)) refl are))

  -- ---- a record with a fault is refused by it

  one_refused : (z : InputEnd) (n : ℕ) (why : CaptureCause) (o : List ℕ) (others : Capture) → RecordFault z form why o → read_one form z n (take 16 o) (drop 16 o) others ≡ no_records (fault_in n why)
  one_refused z n why o others (ends_in_head h e) =
      let all : length (take 16 o) ≡ length o = ap length (take_all 16 o (omega (arith, h))) in
      rw (lt-ltb (length (take 16 o)) 16 (omega (arith, all, h))) (ap no_records (cut_is z n why e))
  one_refused z n why o others (record_too_long h l e) =
      let all : length (take 16 o) ≡ 16 = length-take-le 16 o h in
      let size : captured_size form (take 16 o) ≡ number_at form.order 4 o 8 = number_taken form.order 4 8 16 o (omega arith) h in
      rw (le-ltb (length (take 16 o)) 16 (omega (arith, all)), size, lt-ltb 262144 (number_at form.order 4 o 8) l) (ap (λ (k : CaptureCause). no_records (fault_in n k)) (sym e))
  one_refused z n why o others (ends_in_record h l s e) =
      let all : length (take 16 o) ≡ 16 = length-take-le 16 o h in
      let left : length (drop 16 o) ≡ length o - 16 = length-drop 16 o in
      let size : captured_size form (take 16 o) ≡ number_at form.order 4 o 8 = number_taken form.order 4 8 16 o (omega arith) h in
      let few : length (drop 16 o) < number_at form.order 4 o 8 = omega (arith, left, s, h) in
      rw (le-ltb (length (take 16 o)) 16 (omega (arith, all)), size, le-ltb 262144 (number_at form.order 4 o 8) l, lt-ltb (length (drop 16 o)) (number_at form.order 4 o 8) few) (ap no_records (cut_is z n why e))

  next_record : (z : InputEnd) (n most : ℕ) (why : CaptureCause) (o : List ℕ) → 0 < length o → RecordFault z form why o → records_of form z n (suc most) o ≡ no_records (fault_in (n + 1) why)
  unfolding records_of
  next_record z n most why [] h f = absurd (omega (arith, h))
  next_record z n most why (x ∷ xs) h f = one_refused z (n + 1) why (x ∷ xs) _ f

  no_more : (z : InputEnd) (n : ℕ) (o : List ℕ) → 0 < length o → records_of form z n 0 o ≡ no_records (fault_in (n + 1) cause.TooManyRecords)
  unfolding records_of
  no_more z n [] h = absurd (omega (arith, h))
  no_more z n (x ∷ xs) h = refl

  stops_so : (z : InputEnd) (n came most left : ℕ) (why : CaptureCause) (rest : List ℕ) → most ≡ came + left → NextFault z came most (RecordFault z form) why rest → records_of form z n left rest ≡ no_records (fault_in (n + 1) why)
  stops_so z n came most left why rest q (before_next h e f w) =
      ap (records_of form z n left) e ∙ none_of form z n left ∙ ap (λ (y : InputEnd). no_records (ended y (n + 1))) f ∙ ap (λ (k : CaptureCause). no_records (fault_in (n + 1) k)) (sym w)
  stops_so z n came most left why rest q (too_many h m w) =
      let none : left ≡ 0 = omega (arith, q, h) in
      ap (λ (k : ℕ). records_of form z n k rest) none ∙ no_more z n rest m ∙ ap (λ (k : CaptureCause). no_records (fault_in (n + 1) k)) (sym w)
  stops_so z n came most left why rest q (in_next h m f) =
      let more : left ≡ suc (left - 1) = omega (arith, q, h) in
      ap (λ (k : ℕ). records_of form z n k rest) more ∙ next_record z n (left - 1) why rest m f

  few_came : (z : InputEnd) (came most : ℕ) (why : CaptureCause) (rest : List ℕ) → NextFault z came most (RecordFault z form) why rest → came ≤ most
  few_came z came most why rest (before_next h e f w) = h
  few_came z came most why rest (too_many h m w) = omega (arith, h)
  few_came z came most why rest (in_next h m f) = omega (arith, h)

  -- whole records, and then a fault, are read as these
  pub records_refused : (z : InputEnd) (most : ℕ) (rs : List CaptureRecord) (front rest : List ℕ) (why : CaptureCause) → SpellsRecords form rs front → NextFault z (length rs) most (RecordFault z form) why rest →
      records_of form z 0 most (front ++ rest) ≡ record { records = numbered 0 rs; stop = fault_in (length rs + 1) why }
  records_refused z most rs front rest why are f =
      let few = few_came z (length rs) most why rest f in
      let split : most ≡ length rs + (most - length rs) = omega (arith, few) in
      records_front rs z 0 (length rs) most (most - length rs) front rest (omega arith) split are
      ∙ ap (put_records (numbered 0 rs)) (stops_so z (length rs) (length rs) most (most - length rs) why rest split f)
      ∙ ap (λ (l : List (ℕ × CaptureRecord)). record { records = l; stop = fault_in (length rs + 1) why }) (append-nil (numbered 0 rs))

  -- ---- records that are read up to a fault

  -- whole records, and then this fault
  unfoldable pub AreReadTo : InputEnd → ℕ → ℕ → CaptureFault → List ℕ → Capture → Type 0
  AreReadTo z n most f o c = (rs : List CaptureRecord) × (front : List ℕ) × (rest : List ℕ) × (o ≡ front ++ rest) × SpellsRecords form rs front × NextFault z (length rs) most (RecordFault z form) f.cause rest
      × (f.number ≡ n + length rs + 1) × (c.records ≡ numbered n rs)

  at_once : (z : InputEnd) (n most : ℕ) (f : CaptureFault) (o : List ℕ) (stop : Stop CaptureFault) → (f.number ≡ n + 1) × NextFault z 0 most (RecordFault z form) f.cause o → AreReadTo z n most f o (no_records stop)
  unfolding AreReadTo
  at_once z n most f o stop t = let at = t.0 in ([], [], o, refl, refl, t.1, omega (arith, at), refl)

  -- by three tests, one thing or another
  tested : (P : Capture → Type 0) (a b c : Bool) (x y w good : Capture) → (a ≡ true → P x) → (a ≡ false → b ≡ true → P y) → (a ≡ false → b ≡ false → c ≡ true → P w) → (a ≡ false → b ≡ false → c ≡ false → P good) →
      P (if a then x else (if b then y else (if c then w else good)))
  tested P true b c x y w good p q r s = p refl
  tested P false true c x y w good p q r s = q refl refl
  tested P false false true x y w good p q r s = r refl refl refl
  tested P false false false x y w good p q r s = s refl refl refl

  module _ (z : InputEnd) (n most : ℕ) (f : CaptureFault) (o : List ℕ) (some : 0 < length o)
      (others : (rest : List ℕ) → (records_of form z (n + 1) most rest).stop ≡ faulty f → AreReadTo z (n + 1) most f rest (records_of form z (n + 1) most rest)) where
    one_more : (read_one form z (n + 1) (take 16 o) (drop 16 o) (records_of form z (n + 1) most (drop (captured_size form (take 16 o)) (drop 16 o)))).stop ≡ faulty f →
        AreReadTo z n (suc most) f o (read_one form z (n + 1) (take 16 o) (drop 16 o) (records_of form z (n + 1) most (drop (captured_size form (take 16 o)) (drop 16 o))))
    unfolding AreReadTo
    one_more =
        let head = take 16 o in
        let rest = drop 16 o in
        let size = captured_size form head in
        let behind = records_of form z (n + 1) most (drop size rest) in
        let Has = λ (why : CaptureCause). NextFault z 0 (suc most) (RecordFault z form) why o in
        let next : (why : CaptureCause) → RecordFault z form why o → NextFault z 0 (suc most) (RecordFault z form) why o = λ why g. in_next (omega arith) some g in
        let left : length rest ≡ length o - 16 = length-drop 16 o in
        let front = length-take 16 o in
        tested (λ (c : Capture). c.stop ≡ faulty f → AreReadTo z n (suc most) f o c) (ltb (length head) 16) (ltb 262144 size) (ltb (length rest) size)
        (no_records (cut z (n + 1))) (no_records (fault_in (n + 1) cause.RecordLength)) (no_records (cut z (n + 1))) (put_record (n + 1, record { moment = moment_in_head form head; octets = take size rest }) behind)
        (λ a e. let few = ltb-true (length head) 16 a in
        at_once z n (suc most) f o (cut z (n + 1)) (cut_as Has z (n + 1) (λ why g. next why (ends_in_head (omega (arith, few, front)) g)) f e))
        (λ a b e. let whole : 16 ≤ length o = let k = ltb-false (length head) 16 a in omega (arith, k, front) in
        let is : size ≡ number_at form.order 4 o 8 = number_taken form.order 4 8 16 o (omega arith) whole in
        let long = ltb-true 262144 size b in
        at_once z n (suc most) f o (fault_in (n + 1) cause.RecordLength) (fault_as Has (n + 1) cause.RecordLength (next cause.RecordLength (record_too_long whole (rw (← is) long) refl)) f e))
        (λ a b c e. let whole : 16 ≤ length o = let k = ltb-false (length head) 16 a in omega (arith, k, front) in
        let is : size ≡ number_at form.order 4 o 8 = number_taken form.order 4 8 16 o (omega arith) whole in
        let short = ltb-false 262144 size b in
        let few = ltb-true (length rest) size c in
        at_once z n (suc most) f o (cut z (n + 1)) (cut_as Has z (n + 1) (λ why g. next why (ends_in_record whole (rw (← is) short) (rw (← is) (omega (arith, few, left, whole))) g)) f e))
        (λ a b c e. let whole : length head ≡ 16 = let k = ltb-false (length head) 16 a in omega (arith, k, front) in
        let all : length (take size rest) ≡ size = length-take-le size rest (ltb-false (length rest) size c) in
        let short = ltb-false 262144 size b in
        let r : CaptureRecord = record { moment = moment_in_head form head; octets = take size rest } in
        let one : SpellsRecord form r (head ++ take size rest) = (head, whole, refl, sym all, omega (arith, all, short), refl) in
        let t = others (drop size rest) e in
        let text : o ≡ ((head ++ take size rest) ++ t.1) ++ t.2 =
        sym (append_assoc (head ++ take size rest) t.1 t.2 ∙ ap (λ (l : List ℕ). (head ++ take size rest) ++ l) (sym t.3)
        ∙ append_assoc head (take size rest) (drop size rest) ∙ ap (λ (l : List ℕ). head ++ l) (take-append-drop size rest) ∙ take-append-drop 16 o) in
        let number = t.6 in
        let shifted = next_shift z (length t.0) most (length (r ∷ t.0)) (suc most) (RecordFault z form) f.cause t.2 (omega arith) (omega arith) t.5 in
        (r ∷ t.0, (head ++ take size rest) ++ t.1, t.2, text, (head ++ take size rest, t.1, refl, one, t.4), shifted, omega (arith, number), ap (λ (l : List (ℕ × CaptureRecord)). (n + 1, r) ∷ l) t.7))

  pub records_to_fault : (most : ℕ) (z : InputEnd) (n : ℕ) (f : CaptureFault) (o : List ℕ) → (records_of form z n most o).stop ≡ faulty f → AreReadTo z n most f o (records_of form z n most o)
  unfolding records_of
  records_to_fault zero z n f [] e = at_once z n 0 f [] (ended z (n + 1)) (ended_as (λ why. NextFault z 0 0 (RecordFault z form) why []) z (n + 1) (λ g. before_next (omega arith) refl g refl) f e)
  records_to_fault zero z n f (x ∷ xs) e =
      at_once z n 0 f (x ∷ xs) (fault_in (n + 1) cause.TooManyRecords) (fault_as (λ why. NextFault z 0 0 (RecordFault z form) why (x ∷ xs)) (n + 1) cause.TooManyRecords (too_many refl (omega arith) refl) f e)
  records_to_fault (suc most) z n f [] e =
      at_once z n (suc most) f [] (ended z (n + 1)) (ended_as (λ why. NextFault z 0 (suc most) (RecordFault z form) why []) z (n + 1) (λ g. before_next (omega arith) refl g refl) f e)
  records_to_fault (suc most) z n f (x ∷ xs) e = one_more z n most f (x ∷ xs) (omega arith) (λ rest g. records_to_fault most z (n + 1) f rest g) e

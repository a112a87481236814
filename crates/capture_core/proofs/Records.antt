-- What stands first in the records of a capture, and the answers that tell it.
use Rattle.std.proofs.Common.{◌≡◌, ◌≢◌, ℕ, ◌+◌, ◌-◌, ◌<◌, ◌≤◌, zero, suc, true, false, ltb, eqb, inl, inr, List, [], ◌∷◌, ◌++◌, length, take, drop, Option, Some, None, Result, Ok, Err, ap, sym, ◌∙◌, refl, arith, append_assoc}
use Rattle.std.proofs.lemmas.List.{append-nil, take_all, take_at, drop_at, length-append}
use Rattle.std.proofs.lemmas.Bool.Decides.{leb_tells, nat_tests}
use Rattle.std.specs.Io.KnownBytes.{Consumes}
use Rattle.list_core.specs.declared.device.InputEnd.{InputEnd}
use Rattle.list_core.specs.declared.device.InputEnd.TheVariants.{Open, End, Failed}
use Rattle.list_core.specs.Device.{GivesOctets, OnlyOpen}
use Rattle.list_core.specs.Lines.{CanFollow, faulty}
use Rattle.list_core.proofs.Devices.{Consumes-append, Gives-append}
use Rattle.list_core.proofs.Readers.{OnlyOpen-append, OnlyOpen-none}
use Rattle.capture_core.specs.declared.form.CaptureForm.{CaptureForm}
use Rattle.capture_core.specs.declared.capture_fault.CaptureCause.TheVariants.{RecordLength, TooManyRecords}
use Rattle.capture_core.specs.declared.capture_fault.CaptureFault.{CaptureFault}
use Rattle.capture_core.specs.declared.record.Captured.{Captured}
use Rattle.capture_core.specs.Capture.{Capture, CaptureRecord, captured_size, cut, ended, fault_in, moment_in_head, put_record, read_one, records_after, records_of, no_records}
use Rattle.capture_core.specs.RecordAnswers.{IsRecordToldAs, ReadsRecord, TakesFor, WithinRecord}
use Rattle.capture_core.specs.computed.PrivateCalls.{StopsBy, short_stop}

-- nothing follows where a source has ended
pub nothing_follows : (w : InputEnd) (more : List ℕ) (y : InputEnd) → w ≢ Open → CanFollow w more y → (more ≡ []) × (y ≡ w)
nothing_follows Open more y c f = absurd (c refl)
nothing_follows End more y c f = f
nothing_follows Failed more y c f = f

-- a source that was not asked gave nothing
pub gave_nothing : (a : Option (List ℕ)) → GivesOctets a a []
gave_nothing None = tt
gave_nothing (Some os) = refl

module _ (form : CaptureForm) where
  -- ---- one record, of which the head is known

  one_long : (z : InputEnd) (n : ℕ) (head rest : List ℕ) (others : Capture) → length head ≡ 16 → 262144 < captured_size form head → read_one form z n head rest others ≡ no_records (fault_in n RecordLength)
  one_long z n head rest others h s =
      let a : ltb (length head) 16 ≡ false = grind (arith, nat_tests) in
      let b : ltb 262144 (captured_size form head) ≡ true = grind (arith, nat_tests) in
      rw (a, b) refl

  one_cut : (z : InputEnd) (n : ℕ) (head rest : List ℕ) (others : Capture) → length head ≡ 16 → captured_size form head ≤ 262144 → length rest < captured_size form head → read_one form z n head rest others ≡ no_records (cut z n)
  one_cut z n head rest others h s t =
      let a : ltb (length head) 16 ≡ false = grind (arith, nat_tests) in
      let b : ltb 262144 (captured_size form head) ≡ false = grind (arith, nat_tests) in
      let c : ltb (length rest) (captured_size form head) ≡ true = grind (arith, nat_tests) in
      rw (a, b, c) refl

  pub one_whole : (z : InputEnd) (n : ℕ) (head rest : List ℕ) (others : Capture) → length head ≡ 16 → captured_size form head ≤ 262144 → captured_size form head ≤ length rest →
      read_one form z n head rest others ≡ put_record (n, record { moment = moment_in_head form head; octets = take (captured_size form head) rest }) others
  one_whole z n head rest others h s t =
      let a : ltb (length head) 16 ≡ false = grind (arith, nat_tests) in
      let b : ltb 262144 (captured_size form head) ≡ false = grind (arith, nat_tests) in
      let c : ltb (length rest) (captured_size form head) ≡ false = grind (arith, nat_tests) in
      rw (a, b, c) refl

  one_short : (z : InputEnd) (n : ℕ) (head rest : List ℕ) (others : Capture) → length head < 16 → read_one form z n head rest others ≡ no_records (cut z n)
  one_short z n head rest others h =
      let a : ltb (length head) 16 ≡ true = grind (arith, nat_tests) in
      rw a refl

  -- ---- the first record

  pub none_of : (z : InputEnd) (n most : ℕ) → records_of form z n most [] ≡ no_records (ended z (n + 1))
  unfolding records_of
  none_of z n zero = refl
  none_of z n (suc most) = refl

  records_none : (z : InputEnd) (n : ℕ) → records_after form z n [] ≡ no_records (ended z (n + 1))
  records_none z n = none_of z n (999999 - n)

  records_many : (z : InputEnd) (n : ℕ) (octets : List ℕ) → 999999 ≤ n → 0 < length octets → records_after form z n octets ≡ no_records (fault_in (n + 1) TooManyRecords)
  unfolding records_of
  records_many z n [] a b = absurd (omega arith)
  records_many z n (x ∷ xs) a b =
      let none : 999999 - n ≡ 0 = omega arith in
      ap (λ most. records_of form z n most (x ∷ xs)) none

  -- the first record by itself
  first_of_records : InputEnd → ℕ → List ℕ → List ℕ → Capture
  first_of_records z n head rest = read_one form z (n + 1) head rest (records_after form z (n + 1) (drop (captured_size form head) rest))

  records_step : (z : InputEnd) (n x : ℕ) (xs : List ℕ) → n < 999999 → records_after form z n (x ∷ xs) ≡ first_of_records z n (take 16 (x ∷ xs)) (drop 16 (x ∷ xs))
  unfolding records_of first_of_records
  records_step z n x xs a =
      let more : 999999 - n ≡ suc (999999 - (n + 1)) = omega arith in
      ap (λ most. records_of form z n most (x ∷ xs)) more

  records_first : (z : InputEnd) (n : ℕ) (head rest : List ℕ) → n < 999999 → length head ≡ 16 → records_after form z n (head ++ rest) ≡ first_of_records z n head rest
  records_first z n [] rest a b = absurd (omega (arith, b))
  records_first z n (x ∷ xs) rest a b =
      records_step z n x (xs ++ rest) a ∙ ap (λ h. first_of_records z n h (drop 16 (x ∷ (xs ++ rest)))) (take_at (x ∷ xs) rest 16 b) ∙ ap (first_of_records z n (x ∷ xs)) (drop_at (x ∷ xs) rest 16 b)

  records_short : (z : InputEnd) (n : ℕ) (head : List ℕ) → n < 999999 → 0 < length head → length head < 16 → records_after form z n head ≡ no_records (cut z (n + 1))
  unfolding first_of_records
  records_short z n [] a b c = absurd (omega arith)
  records_short z n (x ∷ xs) a b c =
      records_step z n x xs a ∙ ap (λ h. first_of_records z n h (drop 16 (x ∷ xs))) (take_all 16 (x ∷ xs) (omega arith)) ∙ one_short z (n + 1) (x ∷ xs) (drop 16 (x ∷ xs)) _ c

  -- the records of octets that end inside a head
  stops_short : (z : InputEnd) (n : ℕ) (octets : List ℕ) → length octets < 16 → records_after form z n octets ≡ no_records (short_stop z n (length octets))
  stops_short z n [] b = records_none z n
  stops_short z n (x ∷ xs) b =
      let some : eqb (length (x ∷ xs)) 0 ≡ false = grind (arith, nat_tests) in
      elim (leb_tells 999999 n) [
        | inl e ↦ rw (some, e.0) (records_many z n (x ∷ xs) e.1 (omega arith))
        | inr e ↦ rw (some, e.0) (records_short z n (x ∷ xs) e.1 (omega arith) b)
      ]

  -- nothing comes after a source has ended
  closed : (w : InputEnd) (n : ℕ) (octets more : List ℕ) (y : InputEnd) → w ≢ Open → CanFollow w more y → records_after form y n (octets ++ more) ≡ records_after form w n octets
  closed w n octets more y c f =
      let e = nothing_follows w more y c f in
      ap (λ m. records_after form y n (octets ++ m)) e.0 ∙ ap (records_after form y n) (append-nil octets) ∙ ap (λ v. records_after form v n octets) e.1

  -- ---- answers

  -- the octets ended inside a head
  pub answered_short : (result : Result (Option Captured) CaptureFault) (array given : List ℕ) (old new : Option (List ℕ)) (z w : InputEnd) (n : ℕ) →
      w ≢ Open → length given < 16 → GivesOctets old new given → OnlyOpen z given w → StopsBy result (short_stop w n (length given)) →
      (answer : Result (Option CaptureRecord) CaptureFault) × IsRecordToldAs answer result array × ReadsRecord form n [] old z answer new w
  answered_short (Ok (Some c)) array given old new z w n shut few g o s = absurd s
  answered_short (Ok None) array given old new z w n shut few g o s = (
    Ok None,
    refl,
    record {
      given = given;
      took = g;
      only_open = o;
      room = tt;
      within = inl (omega arith);
      reads = λ more y f. closed w n given more y shut f ∙ stops_short w n given few ∙ ap no_records s;
    },
  )
  answered_short (Err e) array given old new z w n shut few g o s = (
    Err e,
    refl,
    record {
      given = given;
      took = g;
      only_open = o;
      room = tt;
      within = inl (omega arith);
      reads = λ more y f. closed w n given more y shut f ∙ stops_short w n given few ∙ ap no_records s;
    },
  )

  -- there is no room for a record that has begun
  pub answered_many : (e : CaptureFault) (given : List ℕ) (old new : Option (List ℕ)) (z w : InputEnd) (n : ℕ) → 999999 ≤ n → length given ≡ 16 → GivesOctets old new given → OnlyOpen z given w →
      fault_in (n + 1) TooManyRecords ≡ faulty e → ReadsRecord form n [] old z (Err e) new w
  answered_many e given old new z w n many some g o s = record {
    given = given;
    took = g;
    only_open = o;
    room = tt;
    within = inl (omega (arith, some));
    reads = λ more y f. records_many y n (given ++ more) many (simp length-append (omega (arith, some))) ∙ ap no_records s;
  }

  -- what was taken behind a head that is accepted
  within_record : (head given : List ℕ) (n : ℕ) → n < 999999 → length head ≡ 16 → captured_size form head ≤ 262144 → length given ≤ captured_size form head → WithinRecord form n (head ++ given)
  within_record head given n few h short all =
      let front : take 16 (head ++ given) ≡ head = take_at head given 16 h in
      inr (few, rw front short, rw front (simp length-append (omega (arith, h, all))))

  -- a record is longer than it may be
  pub answered_long : (e : CaptureFault) (head : List ℕ) (old : Option (List ℕ)) (z : InputEnd) (n : ℕ) → n < 999999 → length head ≡ 16 → 262144 < captured_size form head →
      fault_in (n + 1) RecordLength ≡ faulty e → ReadsRecord form n head old z (Err e) old z
  unfolding first_of_records
  answered_long e head old z n few h long s = record {
    given = [];
    took = gave_nothing old;
    only_open = OnlyOpen-none z;
    room = tt;
    within = inl (simp length-append (omega (arith, h)));
    reads = λ more y f. records_first y n head more few h ∙ one_long y (n + 1) head more _ h long ∙ ap no_records s;
  }

  -- the octets ended inside a record
  pub answered_cut : (e : CaptureFault) (head given : List ℕ) (old new : Option (List ℕ)) (z w : InputEnd) (n : ℕ) → w ≢ Open → n < 999999 → length head ≡ 16 → captured_size form head ≤ 262144 →
      length given < captured_size form head → GivesOctets old new given → OnlyOpen z given w → cut w (n + 1) ≡ faulty e → ReadsRecord form n head old z (Err e) new w
  unfolding first_of_records
  answered_cut e head given old new z w n shut few h short less g o s = record {
    given = given;
    took = g;
    only_open = o;
    room = tt;
    within = within_record head given n few h short (omega arith);
    reads = λ more y f. ap (records_after form y n) (sym (append_assoc head given more)) ∙ closed w n (head ++ given) more y shut f
        ∙ records_first w n head given few h ∙ one_cut w (n + 1) head given _ h short less ∙ ap no_records s;
  }

  -- a record is whole
  pub answered_whole : (head given : List ℕ) (old new : Option (List ℕ)) (z w : InputEnd) (n : ℕ) → n < 999999 → length head ≡ 16 → captured_size form head ≤ 262144 →
      length given ≡ captured_size form head → Consumes old new given → OnlyOpen z given w → ReadsRecord form n head old z (Ok (Some (record { moment = moment_in_head form head; octets = given }))) new w
  unfolding first_of_records
  answered_whole head given old new z w n few h short size g o = record {
    given = given;
    took = g;
    only_open = o;
    room = few;
    within = within_record head given n few h short (omega (arith, size));
    reads = λ more y f. records_first y n head (given ++ more) few h
        ∙ one_whole y (n + 1) head (given ++ more) _ h short (simp length-append (omega arith))
        ∙ ap (λ (l : List ℕ). put_record (n + 1, record { moment = moment_in_head form head; octets = l }) (records_after form y (n + 1) (drop (captured_size form head) (given ++ more)))) (take_at given more (captured_size form head) size)
        ∙ ap (λ l. put_record (n + 1, record { moment = moment_in_head form head; octets = given }) (records_after form y (n + 1) l)) (drop_at given more (captured_size form head) size);
  }

  took_behind : (answer : Result (Option CaptureRecord) CaptureFault) (old mid new : Option (List ℕ)) (head given : List ℕ) → Consumes old mid head → TakesFor answer mid new given → TakesFor answer old new (head ++ given)
  took_behind (Ok (Some r)) old mid new head given p q = Consumes-append old mid new head given p q
  took_behind (Ok None) old mid new head given p q = Gives-append old mid new head given p q
  took_behind (Err e) old mid new head given p q = Gives-append old mid new head given p q

  -- a head was read, and then the rest of its record
  pub behind_head : (answer : Result (Option CaptureRecord) CaptureFault) (head : List ℕ) (old mid new : Option (List ℕ)) (z m w : InputEnd) (n : ℕ) →
      Consumes old mid head → OnlyOpen z head m → ReadsRecord form n head mid m answer new w → ReadsRecord form n [] old z answer new w
  behind_head answer head old mid new z m w n p o r = record {
    given = head ++ r.given;
    took = took_behind answer old mid new head r.given p r.took;
    only_open = OnlyOpen-append z m w head r.given o r.only_open;
    room = r.room;
    within = r.within;
    reads = λ more y f. ap (records_after form y n) (append_assoc head r.given more) ∙ r.reads more y f;
  }

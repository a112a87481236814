-- What several answers of a reader of records make `import` write.
use Rattle.std.proofs.Common.{Option, Some, None, Ok, Err, Result, ◌≡◌, ℕ, ◌+◌, Bool, true, false, List, [], ◌∷◌, ◌++◌, inl, inr, ap, sym, ◌∙◌, refl, subst, append_assoc}
use Rattle.std.specs.Prelude.{◌||◌, if◌then◌else◌, codes}
use Rattle.std.specs.List.{flat_map, list_any}
use Rattle.std.proofs.lemmas.List.{append-nil}
use Rattle.std.proofs.lemmas.Grind.{flat_map-append}
use Rattle.std.proofs.lemmas.List.Folds.{list_any-append}
use Rattle.std.specs.Io.KnownBytes.{Appends, Consumes}
use Rattle.list_core.specs.declared.device.InputEnd.{InputEnd}
use Rattle.list_core.specs.Device.{AppendsPrefix, GivesOctets, OnlyOpen}
use Rattle.list_core.specs.Lines.{CanFollow, finished, faulty}
use Rattle.list_core.proofs.Devices.{Appends-append, Appends-none, AppendsPrefix-append, AppendsPrefix-more, Consumes-append, Gives-append, Gives-from_Consumes}
use Rattle.list_core.proofs.Readers.{CanFollow-given, CanFollow-none, OnlyOpen-append}
use Rattle.capture_core.specs.declared.form.CaptureForm.{CaptureForm}
use Rattle.capture_core.specs.declared.capture_fault.CaptureFault.{CaptureFault}
use Rattle.capture_core.specs.declared.capture_fault.CaptureCause.{CaptureCause}
use Rattle.capture_core.specs.declared.capture_fault.CaptureCause.TheVariants.{CaptureHeader, CaptureShort, RecordLength, TooManyRecords, ReadFailed, BlockForm, BlockLength, Interface, PacketTime}
use Rattle.capture_core.specs.Capture.{Capture, CaptureRecord, capture, records_after, no_records}
use Rattle.capture_core.specs.Packets.{is_by_source, is_failed_read}
use Rattle.capture_core.specs.RecordAnswers.{ReadsHeader, ReadsRecord, TakesFor, behind_record}
use Rattle.engine_core.specs.declared.ending.Ending.{Ending}
use Rattle.engine_core.specs.declared.stopped.Halt.{Halt}
use Rattle.engine_core.specs.declared.stopped.Halt.TheVariants as halt
use Rattle.engine_core.specs.RunOver.{ending_by_halt, fault_by_halt}
use Rattle.engine_core.specs.declared.ending.Ending.TheVariants.{Done, Findings, InputFault, ReadFault, WriteFault}
use Rattle.engine_core.specs.Ending.{ending_by_fault}
use Rattle.engine_core.proofs.ItemTexts.{or_false}
use Rattle.frame_engines.specs.ImportText.{AtRecord, EndsBehind, FailsBehind, ImportsTo, ImportsToFault, capture_fault_line, is_left_out, last_line, put_records, record_line, text_behind}
use Rattle.frame_engines.specs.computed.ImportStep.{ImportHalts, import_due}

-- ---- texts

-- the text of some records
abbrev pub text_to : List (ℕ × CaptureRecord) → List ℕ
text_to rs = flat_map record_line rs

text_parts : (rs : List (ℕ × CaptureRecord)) (c : Capture) → text_behind (put_records rs c) ≡ text_to rs ++ text_behind c
text_parts rs c = ap (λ l. l ++ last_line c.stop) (flat_map-append record_line rs c.records) ∙ append_assoc (text_to rs) (text_to c.records) (last_line c.stop)

text_more : (rs : List (ℕ × CaptureRecord)) (e : ℕ × CaptureRecord) → text_to (rs ++ e ∷ []) ≡ text_to rs ++ record_line e
text_more rs e = flat_map-append record_line rs (e ∷ []) ∙ ap (λ l. text_to rs ++ l) (append-nil (record_line e))

-- a line more
pub wrote_more : (rs : List (ℕ × CaptureRecord)) (n : ℕ) (r : CaptureRecord) (old mid new : Option (List ℕ)) → Appends old mid (text_to rs) → Appends mid new (record_line (n, r)) → Appends old new (text_to (rs ++ (n, r) ∷ []))
wrote_more rs n r old mid new p q = subst (Appends old new) (sym (text_more rs (n, r))) (Appends-append old mid new (text_to rs) (record_line (n, r)) p q)

-- a finding more
pub found_more : (rs : List (ℕ × CaptureRecord)) (n : ℕ) (r : CaptureRecord) (found more : Bool) → found ≡ list_any is_left_out rs → more ≡ is_left_out (n, r) → (found || more) ≡ list_any is_left_out (rs ++ (n, r) ∷ [])
found_more rs n r found more p q =
    let last : list_any is_left_out ((n, r) ∷ []) ≡ is_left_out (n, r) = or_false (is_left_out (n, r)) in
    ap (λ b. b || more) p ∙ ap (λ b. list_any is_left_out rs || b) (q ∙ sym last) ∙ sym (list_any-append is_left_out rs ((n, r) ∷ []))

-- what an answer asks for comes first in what follows
due_first : (form : CaptureForm) (n : ℕ) (z : InputEnd) (answer : Result (Option CaptureRecord) CaptureFault) → (rest : List ℕ) × (text_behind (behind_record form n answer z []) ≡ import_due n answer ++ rest)
due_first form n z (Ok (Some r)) = (text_behind (records_after form z (n + 1) []), append_assoc (record_line (n + 1, r)) _ _)
due_first form n z (Ok None) = ([], refl)
due_first form n z (Err f) = ([], sym (append-nil (capture_fault_line f)))

-- ---- what was taken

-- these records were taken, n of them with those before, and whatever comes follows them
pub record Took (form : CaptureForm) (a : Option (List ℕ)) (z : InputEnd) (rs : List (ℕ × CaptureRecord)) (n : ℕ) (b : Option (List ℕ)) (w : InputEnd) : Type 0 where
  pub given : List ℕ
  pub took : Consumes a b given
  pub only_open : OnlyOpen z given w
  pub reads : (more : List ℕ) (y : InputEnd) → CanFollow w more y → capture y (given ++ more) ≡ put_records rs (records_after form y n more)

pub took_header : (form : CaptureForm) (a b : Option (List ℕ)) (z w : InputEnd) → ReadsHeader a z (Ok form) b w → Took form a z [] 0 b w
took_header form a b z w h = record { given = h.given; took = h.took; only_open = h.only_open; reads = λ more y f. h.reads more y f }

pub took_more : (form : CaptureForm) (a b c : Option (List ℕ)) (z w v : InputEnd) (rs : List (ℕ × CaptureRecord)) (n : ℕ) (r : CaptureRecord) →
    Took form a z rs n b w → ReadsRecord form n [] b w (Ok (Some r)) c v → Took form a z (rs ++ (n + 1, r) ∷ []) (n + 1) c v
took_more form a b c z w v rs n r p q = record {
  given = p.given ++ q.given;
  took = Consumes-append a b c p.given q.given p.took q.took;
  only_open = OnlyOpen-append z w v p.given q.given p.only_open q.only_open;
  reads = λ more y f.
      let others = records_after form y (n + 1) more in
      ap (capture y) (append_assoc p.given q.given more) ∙ p.reads (q.given ++ more) y (CanFollow-given w v q.given more y q.only_open f)
      ∙ ap (put_records rs) (q.reads more y f)
      ∙ ap (λ (l : List (ℕ × CaptureRecord)). record { records = l; stop = others.stop }) (sym (append_assoc rs ((n + 1, r) ∷ []) others.records));
}

-- nothing was read
no_more : (a : Option (List ℕ)) → GivesOctets a a []
no_more None = tt
no_more (Some os) = refl

gives_for : (answer : Result (Option CaptureRecord) CaptureFault) (a b : Option (List ℕ)) (given : List ℕ) → TakesFor answer a b given → GivesOctets a b given
gives_for (Ok (Some r)) a b given t = Gives-from_Consumes a b given t
gives_for (Ok None) a b given t = t
gives_for (Err f) a b given t = t

-- all that was given, where nothing more is read
record Given (form : CaptureForm) (a : Option (List ℕ)) (rs : List (ℕ × CaptureRecord)) (n : ℕ) (answer : Result (Option CaptureRecord) CaptureFault) (c : Option (List ℕ)) (v : InputEnd) : Type 0 where
  given : List ℕ
  gives : GivesOctets a c given
  is : capture v given ≡ put_records rs (behind_record form n answer v [])
  at_record : AtRecord v given rs

given_all : (form : CaptureForm) (a b c : Option (List ℕ)) (z w v : InputEnd) (rs : List (ℕ × CaptureRecord)) (n : ℕ) (answer : Result (Option CaptureRecord) CaptureFault) →
    Took form a z rs n b w → ReadsRecord form n [] b w answer c v → Given form a rs n answer c v
given_all form a b c z w v rs n answer p q =
    let follows = CanFollow-given w v q.given [] v q.only_open (CanFollow-none v) in
    record {
      given = p.given ++ q.given;
      gives = Gives-append a b c p.given q.given p.took (gives_for answer b c q.given q.took);
      is = ap (λ l. capture v (p.given ++ l)) (sym (append-nil q.given)) ∙ p.reads (q.given ++ []) v follows ∙ ap (put_records rs) (q.reads [] v (CanFollow-none v));
      at_record = record {
        number = n;
        form = form;
        front = p.given;
        rest = q.given;
        parts = refl;
        few = q.within;
        earlier = subst (λ l. capture v (p.given ++ l) ≡ put_records rs (records_after form v n l)) (append-nil q.given) (p.reads (q.given ++ []) v follows);
      };
    }

-- ---- the exits of the run

abbrev Imported : InputEnd → Ending → Option CaptureFault → Option (List ℕ) → Option (List ℕ) → InputEnd → Option (List ℕ) → Option (List ℕ) → Type 0
Imported z ending fault a c v old new = (given : List ℕ) × GivesOctets a c given × ImportsTo z ending v given old new fault

-- the first line was not written whole, and the reader is untouched
pub not_begun : (a : Option (List ℕ)) (z : InputEnd) (old new : Option (List ℕ)) → AppendsPrefix old new (codes "V2\n") → Imported z WriteFault None a a z old new
not_begun a z old new w = ([], no_more a, (record { prefix = AppendsPrefix-more old new (codes "V2\n") (text_behind (capture z [])) w; fails_at = inl (refl, refl) }, refl))

module _ (z v : InputEnd) (given : List ℕ) (start held new : Option (List ℕ)) (first : Appends start held (codes "V2\n")) where
  well : (found : Bool) → (capture v given).stop ≡ finished → list_any is_left_out (capture v given).records ≡ found → Appends held new (text_behind (capture v given)) → ImportsTo z (if found then Findings else Done) v given start new None
  well true s f w = (record { capture_ends = s; finds = f; written = Appends-append start held new (codes "V2\n") (text_behind (capture v given)) first w }, refl)
  well false s f w = (record { capture_ends = s; finds = f; written = Appends-append start held new (codes "V2\n") (text_behind (capture v given)) first w }, refl)

  by_fault : (failed : Bool) (w : ImportsToFault (if failed then ReadFault else InputFault) v given start new) → ImportsTo z (if failed then ReadFault else InputFault) v given start new (Some w.why)
  by_fault true w = (w, refl)
  by_fault false w = (w, refl)

  badly : (f : CaptureFault) → (capture v given).stop ≡ faulty f → Appends held new (text_behind (capture v given)) → EndsBehind v given (capture v given).records → ImportsTo z (ending_by_fault is_failed_read f) v given start new (Some f)
  badly f s w i =
      by_fault (is_failed_read f) (record { why = f; has_fault = s; has_ending = refl; written = Appends-append start held new (codes "V2\n") (text_behind (capture v given)) first w; none_behind = i })

  in_part : (rs : List (ℕ × CaptureRecord)) (others : Capture) (mid : Option (List ℕ)) → EndsBehind v given rs → capture v given ≡ put_records rs others → Appends held mid (text_to rs) → AppendsPrefix mid new (text_behind others) → ImportsTo z WriteFault v given start new None
  in_part rs others mid i e w p =
      let text : text_behind (capture v given) ≡ text_to rs ++ text_behind others = ap text_behind e ∙ text_parts rs others in
      let front : AppendsPrefix held new (text_behind (capture v given)) = subst (AppendsPrefix held new) (sym text) (AppendsPrefix-append held mid new (text_to rs) (text_behind others) w p) in
      let behind : FailsBehind v given start new =
      record { records = rs; others = others; says = e; none_behind = i; held = mid; written = Appends-append start held mid (codes "V2\n") (text_to rs) first w; next = p } in
      (record { prefix = AppendsPrefix-append start held new (codes "V2\n") (text_behind (capture v given)) first front; fails_at = inr behind }, refl)

-- a fault ends the text behind these records
faulted : (rs : List (ℕ × CaptureRecord)) (z v : InputEnd) (given : List ℕ) (f : CaptureFault) (start held mid new : Option (List ℕ)) → Appends start held (codes "V2\n") →
    capture v given ≡ put_records rs (no_records (faulty f)) → EndsBehind v given rs → Appends held mid (text_to rs) → Appends mid new (capture_fault_line f) → ImportsTo z (ending_by_fault is_failed_read f) v given start new (Some f)
faulted rs z v given f start held mid new first e i w q =
    let text : text_behind (capture v given) ≡ text_to rs ++ capture_fault_line f = ap text_behind e ∙ text_parts rs (no_records (faulty f)) in
    let all : (capture v given).records ≡ rs = ap (λ (c : Capture). c.records) e ∙ append-nil rs in
    badly z v given start held new first f (ap (λ (c : Capture). c.stop) e) (subst (Appends held new) (sym text) (Appends-append held mid new (text_to rs) (capture_fault_line f) w q)) (subst (EndsBehind v given) (sym all) i)

-- the header has a fault
pub bad_header : (a b : Option (List ℕ)) (z w : InputEnd) (f : CaptureFault) (h : Halt CaptureFault) (start held new : Option (List ℕ)) → ReadsHeader a z (Err f) b w → Appends start held (codes "V2\n") → ImportHalts 0 (Err f) h held new →
    Imported z (ending_by_halt is_failed_read h) (fault_by_halt h) a b w start new
bad_header a b z w f (halt.Fault why) start held new read first p =
    let same : f ≡ why = cc in
    rw (← same) (read.given, read.took, faulted [] z w read.given f start held held new first (ap (capture w) (sym (append-nil read.given)) ∙ read.reads [] w (CanFollow-none w)) (inl (refl, read.few)) (Appends-none held) (rw (← same) at p.1))
bad_header a b z w f halt.WriteFault start held new read first p =
    (read.given, read.took, in_part z w read.given start held new first [] (no_records (faulty f)) held (inl (refl, read.few)) (ap (capture w) (sym (append-nil read.given)) ∙ read.reads [] w (CanFollow-none w)) (Appends-none held) p)
bad_header a b z w f halt.Memory start held new read first p = absurd p

module _ (form : CaptureForm) (a b c : Option (List ℕ)) (z w v : InputEnd) (rs : List (ℕ × CaptureRecord)) (n : ℕ) (start held mid new : Option (List ℕ)) (p : Took form a z rs n b w) (first : Appends start held (codes "V2\n")) (so_far : Appends held mid (text_to rs)) where
  -- the capture has ended
  pub import_ended : (found : Bool) → found ≡ list_any is_left_out rs → ReadsRecord form n [] b w (Ok None) c v → new ≡ mid → Imported z (if found then Findings else Done) None a c v start new
  import_ended found finds q same =
      let g = given_all form a b c z w v rs n (Ok None) p q in
      let text : text_behind (capture v g.given) ≡ text_to rs = ap text_behind g.is ∙ text_parts rs (no_records finished) ∙ append-nil (text_to rs) in
      let all : list_any is_left_out (capture v g.given).records ≡ found = ap (λ (k : Capture). list_any is_left_out k.records) g.is ∙ ap (list_any is_left_out) (append-nil rs) ∙ sym finds in
      (g.given, g.gives, well z v g.given start held new first found (ap (λ (k : Capture). k.stop) g.is) all (subst (Appends held new) (sym text) (rw same so_far)))

  -- the run stops at an answer
  pub import_stopped : (answer : Result (Option CaptureRecord) CaptureFault) (h : Halt CaptureFault) → ReadsRecord form n [] b w answer c v → ImportHalts n answer h mid new → Imported z (ending_by_halt is_failed_read h) (fault_by_halt h) a c v start new
  import_stopped answer (halt.Fault why) q s =
      let g = given_all form a b c z w v rs n answer p q in
      (g.given, g.gives, faulted rs z v g.given why start held mid new first (g.is ∙ ap (λ o. put_records rs (behind_record form n o v [])) s.0) (inr g.at_record) so_far s.1)
  import_stopped answer halt.WriteFault q s =
      let g = given_all form a b c z w v rs n answer p q in
      let d = due_first form n v answer in
      let front : AppendsPrefix mid new (text_behind (behind_record form n answer v [])) = subst (AppendsPrefix mid new) (sym d.1) (AppendsPrefix-more mid new (import_due n answer) d.0 s) in
      (g.given, g.gives, in_part z v g.given start held new first rs (behind_record form n answer v []) mid (inr g.at_record) g.is so_far front)
  import_stopped answer halt.Memory q s = absurd s

by_reading : (why : CaptureCause) → (if is_by_source why then ReadFault else InputFault) ≡ ReadFault → why ≡ ReadFailed
by_reading ReadFailed e = refl
by_reading CaptureHeader e = cc
by_reading CaptureShort e = cc
by_reading RecordLength e = cc
by_reading TooManyRecords e = cc
by_reading BlockForm e = cc
by_reading BlockLength e = cc
by_reading Interface e = cc
by_reading PacketTime e = cc

-- a run that stops at a fault ends by a read fault only where the source failed
pub read_failed : (n : ℕ) (f : CaptureFault) (h : Halt CaptureFault) (old new : Option (List ℕ)) → ImportHalts n (Err f) h old new → ending_by_halt is_failed_read h ≡ ReadFault → f.cause ≡ ReadFailed
read_failed n f (halt.Fault why) old new p e = let same : f ≡ why = cc in rw same (by_reading why.cause e)
read_failed n f halt.WriteFault old new p e = cc
read_failed n f halt.Memory old new p e = absurd p

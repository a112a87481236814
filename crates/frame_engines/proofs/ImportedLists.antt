-- What the list that `import` writes says.
use Rattle.std.proofs.Common.{◌≡◌, ℕ, ◌+◌, ◌≤◌, true, ltb, leb, inl, List, [], ◌∷◌, ◌++◌, length, ap, sym, ◌∙◌, refl, arith}
use Rattle.std.specs.List.{All, flat_map}
use Rattle.std.proofs.lemmas.List.{append-nil}
use Rattle.std.proofs.lemmas.List.Elements.{All-head, All-tail}
use Rattle.std.proofs.lemmas.Bool.Decides.{nat_tests}
use Rattle.list_core.specs.declared.device.InputEnd.TheVariants.{End}
use Rattle.list_core.specs.declared.event.Event.{Event}
use Rattle.list_core.specs.declared.event.EventKind.{EventKind}
use Rattle.list_core.specs.declared.event.EventKind.TheVariants.{Frame}
use Rattle.list_core.specs.declared.event_lines.EventLines.TheVariants.{First, After}
use Rattle.list_core.specs.declared.event_lines.MomentUnit.TheVariants.{Microseconds}
use Rattle.list_core.specs.declared.list_fault.ListCause.{ListCause}
use Rattle.list_core.specs.EventLine.{event_rules}
use Rattle.list_core.specs.EventText.{event_text}
use Rattle.list_core.specs.Items.{Listing, items_in, listing, put_item}
use Rattle.list_core.specs.Lines.{finished}
use Rattle.list_core.proofs.ItemReaders.{items_in-end}
use Rattle.list_core.proofs.Lines.{reading-end}
use Rattle.list_core.proofs.WrittenLines.{version-first, written-first}
use Rattle.capture_core.specs.Capture.{Capture, CaptureRecord, capture}
use Rattle.capture_core.specs.Captured.{captured_packets}
use Rattle.capture_core.specs.Packets.{Numbered, Packet, events_of, kind_of, packets_of_records}
use Rattle.capture_core.specs.Spelling.{SpellsCapture, SpellsClassic, numbered, whole_capture}
use Rattle.capture_core.proofs.PacketsRead.{frame_is}
use Rattle.capture_core.proofs.SpelledCaptures.{spelled_is_read}
use Rattle.capture_core.proofs.SpelledPackets.{packets_read}
use Rattle.frame_engines.specs.ImportText.{import_text, record_line}
use Rattle.frame_engines.specs.Laws.{ImportedListsSayTheirCapture, IsListedRecord, one_line_later}

-- what these records say as the lines of a list
told : {A : Type 0} → ℕ → List CaptureRecord → Listing (Event A) ListCause
told n rs = record { items = one_line_later (events_of (packets_of_records (record { records = numbered n rs; stop = finished }))).items; stop = finished }

-- the line of a record that a list can hold
line_is : (A : Type 0) (n : ℕ) (r : CaptureRecord) → IsListedRecord r → record_line (n, r) ≡ event_text {A = A} (record { moment = r.moment; kind = Frame r.octets })
line_is A n r (moment, some, short, octets) =
    let first : ltb 0 (length r.octets) ≡ true = grind (arith, nat_tests) in
    let second : leb (length r.octets) 2000 ≡ true = grind (arith, nat_tests) in
    rw (first, second) refl

records_listed : {A : Type 0} (rs : List CaptureRecord) (n : ℕ) → n + length rs ≤ 999999 → All IsListedRecord rs →
    listing (event_rules {A = A}) (After Microseconds) End (n + 1) (flat_map record_line (numbered n rs)) ≡ told n rs
unfolding told
records_listed {A = A} [] n h l = ap (items_in (event_rules {A = A}) (After Microseconds) (n + 1)) (reading-end (n + 1)) ∙ items_in-end (event_rules {A = A}) (After Microseconds) (n + 1) finished
records_listed {A = A} (r ∷ rs) n h l =
    let listed = All-head IsListedRecord r rs l in
    let e : Event A = record { moment = r.moment; kind = Frame r.octets } in
    let rest = flat_map record_line (numbered (n + 1) rs) in
    let kind : Frame r.octets ≡ kind_of {A = A} 1 r.octets = frame_is 1 r.octets refl listed.1 in
    ap (λ (t : List ℕ). listing (event_rules {A = A}) (After Microseconds) End (n + 1) (t ++ rest)) (line_is A (n + 1) r listed)
    ∙ written-first e (listed.0, (listed.1, listed.2)) listed.3 End (n + 1) rest (omega (arith, h))
    ∙ ap (put_item (n + 1 + 1, e)) (records_listed {A = A} rs (n + 1) (omega (arith, h)) (All-tail IsListedRecord r rs l))
    ∙ ap (λ (k : EventKind A). put_item (n + 1 + 1, record { moment = r.moment; kind = k }) (told (n + 1) rs)) kind

-- fewer records than a list holds are fewer than a capture holds
wide : (rs : List CaptureRecord) (o : List ℕ) → SpellsCapture rs o → SpellsClassic 999999999999999998 rs o
wide rs o (form, header, rest, e, h, f, few, s) = (form, header, rest, e, h, f, omega (arith, few), s)

few_records : (rs : List CaptureRecord) (o : List ℕ) → SpellsCapture rs o → length rs ≤ 999999
few_records rs o (form, header, rest, e, h, f, few, s) = few

pub imported_says : (A : Type 0) → ImportedListsSayTheirCapture A
unfolding told
imported_says A rs o s l =
    let records : capture End o ≡ whole_capture rs = spelled_is_read rs o s in
    let packets : captured_packets End o ≡ packets_of_records (whole_capture rs) = packets_read (packets_of_records (whole_capture rs)) o (inl (rs, wide rs o s, refl)) in
    let text = flat_map record_line (numbered 0 rs) in
    let list : listing (event_rules {A = A}) First End 0 (import_text (capture End o)) ≡ told 0 rs =
    ap (λ (c : Capture). listing (event_rules {A = A}) First End 0 (import_text c)) records ∙ version-first A End (text ++ [])
    ∙ ap (listing (event_rules {A = A}) (After Microseconds) End 1) (append-nil text) ∙ records_listed rs 0 (omega (arith, few_records rs o s)) l in
    record {
      items = ap (λ (t : Listing (Event A) ListCause). t.items) list ∙ ap (λ (p : Numbered Packet). one_line_later (events_of {A = A} p).items) (sym packets);
      list_ends = ap (λ (t : Listing (Event A) ListCause). t.stop) list;
      capture_ends = ap (λ (p : Numbered Packet). p.stop) packets;
    }

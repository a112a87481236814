-- What `show`, `check`, `watch` and `blocks` write of an event, as objects and as text.
use Rattle.std.proofs.Common.{◌≡◌, ℕ, ◌^◌, ◌<◌, List, [], ◌∷◌, ◌++◌, map, Option, Some, None, ap₂, refl, arith, Bool, true, ap, sym, subst, ◌∙◌, false, length, suc, ◌*◌, ◌+◌, append_assoc, zero, take, slice_get}
use Rattle.std.specs.Prelude.{IfSome, codes, Result, Ok, Err, if◌then◌else◌, nat_lt, ◌==◌}
use Rattle.std.specs.List.{AllByRecursion, concat}
use Rattle.std.specs.Fmt.{decimal}
use Rattle.hex.specs.Hex.{encode_lower}
use Rattle.mms_data.specs.Spellable.{IsTime}
use Rattle.mms_data.specs.declared.time.UtcTime.{UtcTime}
use Rattle.pdu_core.specs.SampledSpellable.{IsFixed, IsSpellableAsdu}
use Rattle.pdu_core.specs.declared.sampled.asdu.Asdu.{Asdu}
use Rattle.json.specs.Json.{Items, item, no_items, null, object, Json, array}
use Rattle.text_core.specs.Pieces.{decimal_or_dash, octets_or_dash, quoted, quoted_or_dash, boolean_text, four_digits, two_octets}
use Rattle.text_core.specs.ValueText.{time_or_dash, time_text}
use Rattle.frame_engines.specs.SampledText.{asdu_text}
use Rattle.object_core.specs.Objects as objects
use Rattle.object_core.specs.Objects.{Field, decimal_or_null, octets_or_null, octets_value, text_or_null, object_line}
use Rattle.joint_laws.proofs.object_lemmas.Values.{null_is, IsTextOf, deeper}
use Rattle.joint_laws.proofs.object_lemmas.Containers.{AreTextsOf, Named, members_of, object_is, array_is}
use Rattle.joint_laws.proofs.object_lemmas.Names.{are_distinct}
use Rattle.joint_laws.proofs.object_lemmas.Fields.{by, decimal_field, octets_field, string_or_null, text_field, time_then, boolean_field}
use Rattle.joint_laws.proofs.object_lemmas.MemberValues.{Says, members_say}
use Rattle.frame_engines.specs.FrameObject.{asdu_object, refresh_fields, AreApduFields, apdu_kind, envelope_fields, tag_value, trailer_value}
use Rattle.joint_laws.proofs.line_lemmas.LineSaid.{asdu_said, asdu_words, asdus_said, envelope_words, frame_words, goose_words, sv_words}
use Rattle.joint_laws.proofs.line_lemmas.Optional.{digits_or_null, digits_or_null_is, digits_said, number_or_null, number_or_null_is, number_said, text_or_null_is, text_said, tag_is, tag_json, tag_said, trailer_is, trailer_json, trailer_said, two_are_octets}
use Rattle.joint_laws.proofs.line_lemmas.Spelled.{HasOctets, IsHeldFrame, asdus_have_octets, frame_held, members_spelled}
use Rattle.ber_core.specs.Length.{AreOctets}
use Rattle.ber_core.specs.declared.fault.Fault.{Fault}
use Rattle.pdu_core.specs.Spellable.{IsSpellableGoose}
use Rattle.pdu_core.specs.declared.goose.GoosePdu.{GoosePdu}
use Rattle.list_core.specs.EventText.{mode_text}
use Rattle.list_core.specs.declared.event.EventKind.{EventKind}
use Rattle.list_core.specs.declared.event.EventKind.TheVariants as kinds
use Rattle.frame_core.specs.Apdu.{SpellsApdu}
use Rattle.frame_core.specs.Written.{ApduIsSpellable}
use Rattle.frame_core.specs.declared.frame.Apdu.{Apdu}
use Rattle.frame_core.specs.declared.frame.Apdu.TheVariants as apdus
use Rattle.frame_core.specs.declared.frame.Frame.{Frame}
use Rattle.frame_core.specs.computed.FrameReading.{frame_at}
use Rattle.frame_core.proofs.ReadingLaws.{frame_read_found}
use Rattle.frame_core.proofs.SpelledSpellable.{frame_spellable}
use Rattle.text_core.specs.LineText.{clock_line, fault_line}
use Rattle.object_core.specs.EventObject.{event_fields, fault_object}
use Rattle.object_core.specs.declared.counted.Counted.{Counted}
use Rattle.joint_laws.proofs.object_lemmas.PlainTexts.{are_plain, by_test}
use Rattle.joint_laws.proofs.object_lemmas.Lines.{moment_then}
use Rattle.frame_engines.specs.FrameText.{apdu_text, apdu_word, envelope_text, trailer_text}
use Rattle.frame_engines.specs.ShowObject.{IsAnswerObject, IsKindObject, show_allows}
use Rattle.frame_engines.specs.ShowText.{answer_line, kind_line}
use Rattle.joint_laws.specs.Given.{IsGivenKind, IsWide}
use Rattle.joint_laws.specs.JsonLines.{ShowIsJson, CheckIsJson, WatchIsJson, BlocksIsJson}
use Rattle.joint_laws.proofs.line_lemmas.FaultPlaces.{fault_wide}
use Rattle.joint_laws.proofs.line_lemmas.SpokenLines.{Say, SayEach, json_said, say_same, say_both, say_none, same_place, say_clock, say_event, say_fault, say_mode, say_destination, say_not_written}
use Rattle.std.proofs.lemmas.Fmt.{decimal_nonempty}
use Rattle.std.proofs.lemmas.List.{length-append}
use Rattle.engine_core.specs.EventsText.{exactly_each, EventText}
use Rattle.frame_engines.specs.CheckObject.{check_event_in, frame_note_objects, kind_note_objects, note_object_unless}
use Rattle.frame_engines.specs.CheckText.{frame_notes, goes_where_recommended, has_text, is_form, note_unless, notes}
use Rattle.frame_engines.specs.WrittenForm.{fitting_form}
use Rattle.std.proofs.lemmas.Bool.{cond_both, ltb-true}
use Rattle.std.specs.Str.{bytes_eq}
use Rattle.list_core.specs.declared.event.Event.{Event}
use Rattle.subscribe_core.specs.Watch.{AreSeen, by_way, seen_after, way}
use Rattle.subscribe_core.specs.declared.watch.Seen.{Seen}
use Rattle.subscribe_core.specs.declared.watch.Seen.TheVariants as seen
use Rattle.subscribe_core.proofs.Counts.{answers_are_one}
use Rattle.object_core.specs.declared.counted.Form.TheVariants as forms
use Rattle.exchange_engines.specs.SampleLine.{Sample, sample_line, seen_word}
use Rattle.exchange_engines.specs.SampleObject.{sample_object}
use Rattle.exchange_engines.specs.WatchText.{AreWatchTexts, WatchesEvent, counts, counts_of, frame_watched, sample_lines, samples_from, samples_in, samples_of, telling, watched, Telling}
use Rattle.object_core.specs.declared.counted.Form.{Form}
use Rattle.joint_laws.proofs.text_lemmas.OneText.{end_same}
use Rattle.std.proofs.lemmas.Option.{same_Some}
use Rattle.inventory_engine.specs.Configuration.{configuration_of}
use Rattle.inventory_engine.specs.Sightings.{Sighting, block_sighting, block_text, sightings_in, sightings_of, sightings_read, sightings_with, stream_sighting, stream_sightings}
use Rattle.inventory_engine.specs.BlocksText.{AreBlocksTexts, AreLines, IsLineAfter, ShowsEvent, Telling as BlocksTelling, line_after, telling as blocks_telling}
use Rattle.inventory_engine.proofs.FirstLines.{behind, lines_one}
use Rattle.joint_laws.proofs.text_lemmas.BlockTexts.{block_visible}

-- the fields of an ASDU whose buffer was refreshed at this moment
abbrev fields_with : {A : Type 0} → Asdu A → Option UtcTime → List Field
fields_with a refreshed =
    (codes "svID", quoted a.sv_id)
    ∷ (codes "datSet", text_or_null a.dat_set)
    ∷ (codes "smpCnt", decimal a.smp_cnt)
    ∷ (codes "confRev", decimal a.conf_rev)
    ∷ refresh_fields refreshed
    ++ (codes "smpSynch", decimal a.smp_synch)
    ∷ (codes "smpRate", decimal_or_null a.smp_rate)
    ∷ (codes "sample", octets_value a.sample)
    ∷ (codes "smpMod", octets_or_null a.smp_mod)
    ∷ (codes "field89", octets_or_null a.field_89)
    ∷ []

-- its words
abbrev words_with : {A : Type 0} → Asdu A → Option UtcTime → List ℕ
words_with a refreshed =
    asdu_words (quoted a.sv_id) (quoted_or_dash a.dat_set) (decimal a.smp_cnt) (decimal a.conf_rev) (time_or_dash refreshed) (decimal a.smp_synch) (decimal_or_dash a.smp_rate) (encode_lower a.sample)
    (octets_or_dash a.smp_mod) (octets_or_dash a.field_89)

fixed_wide : (n : Option ℕ) → IfSome n (IsFixed 2) → IfSome n (λ k. k < 2 ^ 64)
fixed_wide None h = tt
fixed_wide (Some n) h = omega (arith, h)

-- what stands behind the moment
abbrev last_fields : {A : Type 0} (a : Asdu A) → IsSpellableAsdu a → HasOctets a → List (Named 1)
last_fields a h o =
    decimal_field 1 (codes "smpSynch") a.smp_synch refl (omega (arith, h.smp_synch))
    ∷ by 1 (codes "smpRate") (decimal_or_null a.smp_rate) (number_or_null a.smp_rate) refl (number_or_null_is 1 a.smp_rate (fixed_wide a.smp_rate h.smp_rate))
    ∷ octets_field 1 (codes "sample") a.sample refl o.sample
    ∷ by 1 (codes "smpMod") (octets_or_null a.smp_mod) (digits_or_null a.smp_mod) refl (digits_or_null_is 1 a.smp_mod o.smp_mod)
    ∷ by 1 (codes "field89") (octets_or_null a.field_89) (digits_or_null a.field_89) refl (digits_or_null_is 1 a.field_89 o.field_89)
    ∷ []

-- what stands before it, behind the first field
abbrev front_fields : {A : Type 0} (a : Asdu A) → IsSpellableAsdu a → List (Named 1) → List (Named 1)
front_fields a h more =
    by 1 (codes "datSet") (text_or_null a.dat_set) (string_or_null a.dat_set) refl (text_or_null_is 1 a.dat_set h.dat_set)
    ∷ decimal_field 1 (codes "smpCnt") a.smp_cnt refl (omega (arith, h.smp_cnt))
    ∷ decimal_field 1 (codes "confRev") a.conf_rev refl (omega (arith, h.conf_rev))
    ∷ more

abbrev first_field : {A : Type 0} (a : Asdu A) → IsSpellableAsdu a → Named 1
first_field a h = text_field 1 (codes "svID") a.sv_id refl h.sv_id

-- no two names are the same
abbrev last_names : List (List ℕ)
last_names = codes "smpSynch" ∷ codes "smpRate" ∷ codes "sample" ∷ codes "smpMod" ∷ codes "field89" ∷ []

abbrev front_names : List (List ℕ) → List (List ℕ)
front_names more = codes "svID" ∷ codes "datSet" ∷ codes "smpCnt" ∷ codes "confRev" ∷ more

says_with : {A : Type 0} (a : Asdu A) (refreshed : Option UtcTime) → IsSpellableAsdu a → HasOctets a → IfSome refreshed IsTime → Says 2 asdu_said (objects.object (fields_with a refreshed)) (words_with a refreshed)
says_with a None h o time =
    let rest = front_fields a h (by 1 (codes "refrTm") objects.null null refl (null_is 1) ∷ last_fields a h o) in
    record {
      json = object (members_of (first_field a h ∷ rest));
      is_text = object_is 1 (first_field a h) rest (are_distinct (front_names (codes "refrTm" ∷ last_names)) refl);
      says = λ i.
          asdu_words (quoted a.sv_id) (text_said a.dat_set i) (decimal a.smp_cnt) (decimal a.conf_rev) (codes "-") (decimal a.smp_synch) (number_said a.smp_rate i) (encode_lower a.sample)
          (digits_said a.smp_mod i) (digits_said a.field_89 i);
    }
says_with a (Some t) h o time =
    let rest = front_fields a h (time_then 0 (codes "refrTm") (codes "refrTime") (codes "refrQuality") t refl refl refl time.2 (last_fields a h o)) in
    record {
      json = object (members_of (first_field a h ∷ rest));
      is_text = object_is 1 (first_field a h) rest (are_distinct (front_names (codes "refrTm" ∷ codes "refrTime" ∷ codes "refrQuality" ∷ last_names)) refl);
      says = λ i.
          asdu_words (quoted a.sv_id) (text_said a.dat_set i) (decimal a.smp_cnt) (decimal a.conf_rev) (time_or_dash (Some t)) (decimal a.smp_synch) (number_said a.smp_rate i) (encode_lower a.sample)
          (digits_said a.smp_mod i) (digits_said a.field_89 i);
    }

-- the ASDUs of an APDU
pub record AsdusSay {A : Type 0} (asdus : List (Asdu A)) : Type 0 where
  pub json : Items
  pub are_texts : AreTextsOf 2 json (map asdu_object asdus)
  pub says : asdus_said json ≡ map asdu_text asdus

pub asdus_say : {A : Type 0} (asdus : List (Asdu A)) → AllByRecursion IsSpellableAsdu asdus → AllByRecursion HasOctets asdus → AsdusSay asdus
asdus_say [] h o = record { json = no_items; are_texts = tt; says = refl }
asdus_say (a ∷ more) h o =
    let one = says_with a a.refr_tm h.0 o.0 h.0.refr_tm in
    let others = asdus_say more h.1 o.1 in
    record { json = item one.json others.json; are_texts = (one.is_text, others.are_texts); says = ap₂ (λ (x : List ℕ) (xs : List (List ℕ)). x ∷ xs) one.says others.says }

-- ---- the lines of `show`, as objects and as text

-- a word of a header
abbrev word_field : (name : List ℕ) (m : ℕ) → are_plain name ≡ true → m < 65536 → Named 35
word_field name m plain small = octets_field 35 name (two_octets m) plain (two_are_octets m small)

-- the envelope, and what follows it
abbrev envelope_then : {A : Type 0} (f : Frame A) → IsHeldFrame f → List (Named 35) → List (Named 35)
envelope_then f h more =
    octets_field 35 (codes "destination") f.destination refl h.destination
    ∷ octets_field 35 (codes "source") f.source refl h.source
    ∷ by 35 (codes "tag") (tag_value f.tag) (tag_json f.tag) refl (tag_is 35 f.tag h.tag)
    ∷ word_field (codes "appid") f.app_id refl h.app_id
    ∷ word_field (codes "reserved1") f.reserved1 refl h.reserved1
    ∷ word_field (codes "reserved2") f.reserved2 refl h.reserved2
    ∷ more

abbrev trailer_last : {A : Type 0} (f : Frame A) → IsHeldFrame f → List (Named 35)
trailer_last f h = by 35 (codes "trailer") (trailer_value f.trailer) (trailer_json f.trailer) refl (trailer_is 35 f.trailer h.trailer) ∷ []

-- the fields of a GOOSE APDU, and what follows them
abbrev goose_then : {A : Type 0} (p : GoosePdu A) → IsSpellableGoose p → (members : List ℕ) (json : Json) → IsTextOf 35 json members → List (Named 35) → List (Named 35)
goose_then p h members json is more =
    text_field 35 (codes "gocbRef") p.gocb_ref refl h.gocb_ref
    ∷ decimal_field 35 (codes "timeAllowedtoLive") p.live refl (omega (arith, h.live))
    ∷ text_field 35 (codes "datSet") p.dat_set refl h.dat_set
    ∷ by 35 (codes "goID") (text_or_null p.go_id) (string_or_null p.go_id) refl (text_or_null_is 35 p.go_id h.go_id)
    ∷ time_then 34 (codes "t") (codes "tTime") (codes "tQuality") p.t refl refl refl h.t.2 (
    decimal_field 35 (codes "stNum") p.st_num refl (omega (arith, h.st_num))
    ∷ decimal_field 35 (codes "sqNum") p.sq_num refl (omega (arith, h.sq_num))
    ∷ boolean_field 35 (codes "simulation") p.simulation refl
    ∷ decimal_field 35 (codes "confRev") p.conf_rev refl (omega (arith, h.conf_rev))
    ∷ boolean_field 35 (codes "ndsCom") p.nds_com refl
    ∷ by 35 (codes "members") members json refl is
    ∷ more
    )

-- the object and the line of a frame, were its APDU this one
abbrev IsObjectWith : {A : Type 0} → Counted → ℕ → ℕ → Frame A → Apdu A → List ℕ → Type 0
IsObjectWith c n moment f a text =
    (fields : List Field) × AreApduFields a fields × (text ≡ object_line (event_fields c n moment (apdu_kind a) ++ envelope_fields f ++ fields ++ (codes "trailer", trailer_value f.trailer) ∷ []))

abbrev line_with : {A : Type 0} → ℕ → Frame A → Apdu A → List ℕ
line_with n f a = concat (decimal n ∷ apdu_word a ∷ envelope_text f ∷ apdu_text a ∷ (codes " trailer=" ++ trailer_text f.trailer) ∷ codes "\n" ∷ [])

apdu_says : {A : Type 0} (c : Counted) (n moment : ℕ) (f : Frame A) (a : Apdu A) (o text : List ℕ) → IsWide n → IsWide moment → IsHeldFrame f → AreOctets o → SpellsApdu a o → ApduIsSpellable a → IsObjectWith c n moment f a text
    → Say text (line_with n f a)
apdu_says c n moment f (apdus.Goose p) o text wide past held are spells h (fields, (members, some, those), is) =
    let spelled = members_spelled p o are spells in
    let said = members_say p.members spelled.0 members spelled.1 spelled.2 some in
    let vs = moment_then 35 moment (codes "goose") past (by_test (codes "goose") refl) (envelope_then f held (goose_then p h members said.json said.is_text (trailer_last f held))) in
    let whole = λ (fs : List Field). object_line (event_fields c n moment (codes "goose") ++ envelope_fields f ++ fs ++ (codes "trailer", trailer_value f.trailer) ∷ []) in
    subst (λ (t : List ℕ). Say t (line_with n f (apdus.Goose p))) (sym (is ∙ ap whole those))
    (say_event 35 c n wide vs (line_with n f (apdus.Goose p)) (omega arith) refl refl (λ i.
    frame_words (decimal n) (codes " goose ")
    (envelope_words (encode_lower f.destination) (encode_lower f.source) (tag_said f.tag i) (four_digits f.app_id) (four_digits f.reserved1) (four_digits f.reserved2))
    (goose_words (quoted p.gocb_ref) (decimal p.live) (quoted p.dat_set) (text_said p.go_id i) (time_text p.t) (decimal p.st_num) (decimal p.sq_num) (boolean_text p.simulation) (decimal p.conf_rev)
    (boolean_text p.nds_com) (said.says i))
    (trailer_said f.trailer i)))
apdu_says c n moment f (apdus.Sampled p) o text wide past held are spells h (fields, those, is) =
    let said = asdus_say p.asdus h.each (asdus_have_octets p o are spells) in
    let value = deeper 3 35 (array said.json) (objects.array (map asdu_object p.asdus)) (omega arith) (array_is 2 said.json (map asdu_object p.asdus) said.are_texts) in
    let vs =
    moment_then 35 moment (codes "sv") past (by_test (codes "sv") refl)
    (envelope_then f held (by 35 (codes "asdus") (objects.array (map asdu_object p.asdus)) (array said.json) refl value ∷ trailer_last f held)) in
    let whole = λ (fs : List Field). object_line (event_fields c n moment (codes "sv") ++ envelope_fields f ++ fs ++ (codes "trailer", trailer_value f.trailer) ∷ []) in
    subst (λ (t : List ℕ). Say t (line_with n f (apdus.Sampled p))) (sym (is ∙ ap whole those))
    (say_event 35 c n wide vs (line_with n f (apdus.Sampled p)) (omega arith) refl refl (λ i.
    frame_words (decimal n) (codes " sv ")
    (envelope_words (encode_lower f.destination) (encode_lower f.source) (tag_said f.tag i) (four_digits f.app_id) (four_digits f.reserved1) (four_digits f.reserved2))
    (sv_words (said.says i)) (trailer_said f.trailer i)))

answer_says : {A : Type 0} (c : Counted) (n moment : ℕ) (octets : List ℕ) (r : Result (Frame A) Fault) (text : List ℕ) → frame_at octets ≡ r → IsWide n → IsWide moment → AreOctets octets → ((f : Fault) → r ≡ Err f → IsWide f.place)
    → IsAnswerObject c n moment r text → Say text (answer_line n r)
answer_says c n moment octets (Err f) text read wide past are place is = subst (λ (t : List ℕ). Say t (fault_line n f)) (sym is) (say_fault c n moment f wide past (place f refl))
answer_says c n moment octets (Ok f) text read wide past are place is =
    let spelled = frame_read_found octets f read in
    let held = frame_held octets f are spelled in
    apdu_says c n moment f f.apdu held.apdu text wide past held held.are_octets held.spells (frame_spellable octets f are spelled) is

kind_says : {A : Type 0} (c : Counted) (n moment : ℕ) (k : EventKind A) (text : List ℕ) → IsWide n → IsWide moment → IsGivenKind k → IsKindObject c n moment k text → Say text (kind_line n moment k)
kind_says c n moment kinds.Clock text wide past given is = subst (λ (t : List ℕ). Say t (clock_line n moment)) (sym is) (say_clock c n moment wide past)
kind_says c n moment (kinds.Mode on) text wide past given is = subst (λ (t : List ℕ). Say t (decimal n ++ codes " mode " ++ decimal moment ++ codes " " ++ mode_text on ++ codes "\n")) (sym is) (say_mode c n moment on wide past)
kind_says c n moment (kinds.Frame octets) text wide past given is = answer_says {A = Unit {0}} c n moment octets (frame_at octets) text refl wide past given (λ f e. fault_wide {A = Unit {0}} octets f e) is

pub show_says : {A : Type 0} → SayEach {A = A} show_allows
show_says c before e objects lines given is also = (
  say_same _ _ _ _ refl (ap (λ (w : List ℕ × Bool). w.0) (sym also)) (kind_says c e.0 e.1.moment e.1.kind objects.0 given.number given.moment given.kind is.0),
  is.1 ∙ ap (λ (w : List ℕ × Bool). w.1) also,
)

pub show_is_json : {A C F : Type 0} → ShowIsJson A C F
show_is_json {A} {C} {F} = json_said C F show_allows (λ before e. (_, refl)) show_says

-- ---- the notes of `check`, as objects and as text

frame_notes_say : {A : Type 0} (c : Counted) (n moment : ℕ) (octets : List ℕ) (r : Result (Frame A) Fault) → IsWide n → IsWide moment → ((f : Fault) → r ≡ Err f → IsWide f.place)
    → Say (frame_note_objects c n moment octets r) (frame_notes n octets r)
frame_notes_say c n moment octets (Err f) small past place = say_fault c n moment f small past (place f refl)
frame_notes_say c n moment octets (Ok f) small past place =
    say_both _ _ _ _ (say_not_written (is_form (fitting_form (Ok f)) octets) c n moment small past) (say_destination (goes_where_recommended f) c n moment small past)

notes_say : {A : Type 0} (c : Counted) (n moment : ℕ) (k : EventKind A) → IsWide n → IsWide moment → IsGivenKind k → Say (kind_note_objects c n moment k) (notes n k)
notes_say c n moment (kinds.Frame octets) small past given = frame_notes_say {A = Unit {0}} c n moment octets (frame_at octets) small past (λ f e. fault_wide {A = Unit {0}} octets f e)
notes_say _ _ _ _ _ _ _ = say_none

-- ---- something is noted in both or in none

some_there : (text : List ℕ) → 0 < length text → has_text text ≡ true
some_there [] h = absurd (omega arith)
some_there (c ∷ text) h = refl

some_more : (a b : List ℕ) → 0 < length a → 0 < length (a ++ b)
some_more a b h = omega (arith, length-append a b)

number_there : (n : ℕ) → IsWide n → 0 < length (decimal n)
number_there n wide = decimal_nonempty n wide

notes_found : (a b : Bool) (c : Counted) (n moment : ℕ) → IsWide n
    → has_text (note_object_unless a c n moment (codes "not-written") ++ note_object_unless b c n moment (codes "destination")) ≡ has_text (note_unless a n (codes " not-written\n") ++ note_unless b n (codes " destination\n"))
notes_found true true c n moment wide = refl
notes_found true false c n moment wide = sym (some_there (decimal n ++ codes " destination\n") (some_more (decimal n) _ (number_there n wide)))
notes_found false b c n moment wide = sym (some_there _ (some_more (decimal n ++ codes " not-written\n") (note_unless b n (codes " destination\n")) (some_more (decimal n) _ (number_there n wide))))

fault_found : (c : Counted) (n moment : ℕ) (f : Fault) → IsWide n → has_text (fault_object c n moment f) ≡ has_text (fault_line n f)
fault_found c n moment f wide = sym (some_there (fault_line n f) (some_more _ _ (some_more _ _ (some_more _ _ (some_more (decimal n) _ (number_there n wide))))))

frame_notes_found : {A : Type 0} (c : Counted) (n moment : ℕ) (octets : List ℕ) (r : Result (Frame A) Fault) → IsWide n → has_text (frame_note_objects c n moment octets r) ≡ has_text (frame_notes n octets r)
frame_notes_found c n moment octets (Err f) wide = fault_found c n moment f wide
frame_notes_found c n moment octets (Ok f) wide = notes_found (is_form (fitting_form (Ok f)) octets) (goes_where_recommended f) c n moment wide

all_notes_found : {A : Type 0} (c : Counted) (n moment : ℕ) (k : EventKind A) → IsWide n → has_text (kind_note_objects c n moment k) ≡ has_text (notes n k)
all_notes_found c n moment (kinds.Frame octets) wide = frame_notes_found {A = Unit {0}} c n moment octets (frame_at octets) wide
all_notes_found _ _ _ _ _ = refl

-- ---- what is written

pub check_says : {A : Type 0} → SayEach {A = A} (exactly_each check_event_in)
check_says c before e objects lines given is also =
    let first = λ (w : List ℕ × Bool). w.0 in
    let found = λ (w : List ℕ × Bool). w.1 in (
      say_same _ _ _ _ (ap first (sym is)) (ap first (sym also)) (notes_say c e.0 e.1.moment e.1.kind given.number given.moment given.kind),
      ap found (sym is) ∙ all_notes_found c e.0 e.1.moment e.1.kind given.number ∙ ap found also,
    )

pub check_is_json : {A C F : Type 0} → CheckIsJson A C F
check_is_json {A} {C} {F} = json_said C F (exactly_each check_event_in) (λ before e. (_, refl)) check_says

-- ---- the samples of `watch`, as objects and as text

-- a sample of few bits, and an answer of few
abbrev IsSmall : Sample → Type 0
IsSmall s = IsWide s.position × IsWide s.count

abbrev IsSmallSeen : Seen → Type 0
IsSmallSeen (seen.Skipped missing) = IsWide missing
IsSmallSeen _ = Unit {0}

abbrev sample_fields : (s : Sample) → IsSmall s → List (Named 0) → List (Named 0)
sample_fields s small more = decimal_field 0 (codes "asdu") s.position refl small.0 ∷ decimal_field 0 (codes "smpCnt") s.count refl small.1 ∷ more

sample_said : (n p q w : List ℕ) → n ++ ((codes " " ++ p) ++ ((codes " " ++ q) ++ (w ++ codes "\n"))) ≡ n ++ (codes " " ++ p) ++ (codes " " ++ q) ++ w ++ codes "\n"
sample_said n p q w = simp append_assoc

say_sample : (c : Counted) (n moment : ℕ) (s : Sample) (answer : Seen) → IsWide n → IsWide moment → IsSmall s → IsSmallSeen answer → Say (sample_object c n moment s answer) (sample_line n s answer)
say_sample c n moment s seen.First small past few told = say_event 0 c n small (moment_then 0 moment (codes "first") past (by_test (codes "first") refl) (sample_fields s few [])) _ (omega arith) refl refl (sample_said (decimal n) (decimal s.position) (decimal s.count) (seen_word seen.First))
say_sample c n moment s seen.Next small past few told = say_event 0 c n small (moment_then 0 moment (codes "next") past (by_test (codes "next") refl) (sample_fields s few [])) _ (omega arith) refl refl (sample_said (decimal n) (decimal s.position) (decimal s.count) (seen_word seen.Next))
say_sample c n moment s (seen.Skipped missing) small past few told =
    say_event 0 c n small (moment_then 0 moment (codes "skipped") past (by_test (codes "skipped") refl) (sample_fields s few (decimal_field 0 (codes "missing") missing refl told ∷ []))) _ (omega arith) refl refl (sample_said (decimal n) (decimal s.position) (decimal s.count) (seen_word (seen.Skipped missing)))
say_sample c n moment s seen.Same small past few told = say_event 0 c n small (moment_then 0 moment (codes "same") past (by_test (codes "same") refl) (sample_fields s few [])) _ (omega arith) refl refl (sample_said (decimal n) (decimal s.position) (decimal s.count) (seen_word seen.Same))
say_sample c n moment s seen.Late small past few told = say_event 0 c n small (moment_then 0 moment (codes "late") past (by_test (codes "late") refl) (sample_fields s few [])) _ (omega arith) refl refl (sample_said (decimal n) (decimal s.position) (decimal s.count) (seen_word seen.Late))
say_sample c n moment s seen.OutOfRange small past few told =
    say_event 0 c n small (moment_then 0 moment (codes "out-of-range") past (by_test (codes "out-of-range") refl) (sample_fields s few [])) _ (omega arith) refl refl (sample_said (decimal n) (decimal s.position) (decimal s.count) (seen_word seen.OutOfRange))

-- ---- the answers

wide_way : (period d : ℕ) → IsWide period → IsSmallSeen (by_way period d)
wide_way period d wide =
    cond_both (d == 0) _ _ IsSmallSeen (λ none. tt) (λ some. cond_both (d == 1) _ _ IsSmallSeen (λ one. tt) (λ more. cond_both (nat_lt (2 * d) period) _ _ IsSmallSeen (λ near. let lt = ltb-true (2 * d) period near in omega (arith, lt)) (λ far. tt)))

wide_answer : (period : ℕ) (last : Option ℕ) (count : ℕ) → IsWide period → IsSmallSeen (seen_after period last count)
wide_answer period None count wide = cond_both (nat_lt count period) _ _ IsSmallSeen (λ below. tt) (λ above. tt)
wide_answer period (Some l) count wide = cond_both (nat_lt count period) _ _ IsSmallSeen (λ below. wide_way period (way period l count) wide) (λ above. tt)

each_small : (ss : List Seen) → ((i : ℕ) (s : Seen) → slice_get ss i ≡ Some s → IsSmallSeen s) → AllByRecursion IsSmallSeen ss
each_small [] h = tt
each_small (s ∷ ss) h = (h 0 s refl, each_small ss (λ i r e. h (suc i) r e))

behind_small : (xs ys : List Seen) → AllByRecursion IsSmallSeen (xs ++ ys) → AllByRecursion IsSmallSeen ys
behind_small [] ys h = h
behind_small (x ∷ xs) ys h = behind_small xs ys h.1

answers_small : (period : ℕ) (cs : List ℕ) (earlier answers : List Seen) → IsWide period → AreSeen period cs (earlier ++ answers) → AllByRecursion IsSmallSeen answers
answers_small period cs earlier answers wide h =
    behind_small earlier answers (each_small (earlier ++ answers) (λ i s e.
    let here = same_place cs (earlier ++ answers) i s h.sizes e in
    let is = h.each i here.0 s here.1 e in
    subst IsSmallSeen (sym is.2) (wide_answer period is.0 here.0 wide)))

-- ---- the samples of an event

samples_small : {A : Type 0} (k : ℕ) (id : List ℕ) (those : List (Asdu A)) → k + length those < 2 ^ 64 → AllByRecursion IsSpellableAsdu those → AllByRecursion IsSmall (samples_from k id those)
samples_small k id [] few spelled = tt
samples_small k id (a ∷ others) few spelled = go (bytes_eq a.sv_id id) (samples_small (k + 1) id others (omega arith) spelled.1)
  where
    go : (b : Bool) → AllByRecursion IsSmall (samples_from (k + 1) id others) → AllByRecursion IsSmall ((if b then record { position = k; count = a.smp_cnt } ∷ [] else []) ++ samples_from (k + 1) id others)
    go true rest = ((omega arith, omega (arith, spelled.0.smp_cnt)), rest)
    go false rest = rest

samples_say : (c : Counted) (n moment : ℕ) (samples : List Sample) (answers : List Seen) → IsWide n → IsWide moment → AllByRecursion IsSmall samples → AllByRecursion IsSmallSeen answers
    → Say (sample_lines (telling (forms.Object c) n moment) samples answers) (sample_lines (telling forms.Text n moment) samples answers)
samples_say c n moment (s ∷ samples) (answer ∷ answers) small past few told =
    say_both _ _ _ _ (say_sample c n moment s answer small past few.0 told.0) (samples_say c n moment samples answers small past few.1 told.1)
samples_say _ _ _ _ _ _ _ _ _ = say_none

apdu_samples : {A : Type 0} (id : List ℕ) (a : Apdu A) → ApduIsSpellable a → AllByRecursion IsSmall (samples_in id a)
apdu_samples id (apdus.Goose p) spelled = tt
apdu_samples id (apdus.Sampled p) spelled = samples_small 0 id p.asdus (omega (arith, spelled.count)) spelled.each

frame_watched_says : {A : Type 0} (c : Counted) (n moment : ℕ) (id octets : List ℕ) (answers : List Seen) (r : Result (Frame A) Fault) → frame_at octets ≡ r → IsWide n → IsWide moment → AreOctets octets → ((f : Fault) → r ≡ Err f → IsWide f.place) → AllByRecursion IsSmallSeen answers
    → Say (frame_watched (telling (forms.Object c) n moment) id r answers).0 (frame_watched (telling forms.Text n moment) id r answers).0
frame_watched_says c n moment id octets answers (Err f) read small past are place told = say_fault c n moment f small past (place f refl)
frame_watched_says c n moment id octets answers (Ok f) read small past are place told =
    samples_say c n moment (samples_in id f.apdu) answers small past (apdu_samples id f.apdu (frame_spellable octets f are (frame_read_found octets f read))) told

watched_says : {A : Type 0} (c : Counted) (n moment : ℕ) (id : List ℕ) (k : EventKind A) (answers : List Seen) → IsWide n → IsWide moment → IsGivenKind k → AllByRecursion IsSmallSeen answers
    → Say (watched (telling (forms.Object c) n moment) id k answers).0 (watched (telling forms.Text n moment) id k answers).0
watched_says c n moment id (kinds.Frame octets) answers small past given told = frame_watched_says {A = Unit {0}} c n moment id octets answers (frame_at octets) refl small past given (λ f e. fault_wide {A = Unit {0}} octets f e) told
watched_says _ _ _ _ _ _ _ _ _ _ = say_none

-- ---- what is written

watch_told : {A : Type 0} (form : Form) (period : ℕ) (id : List ℕ) (texts : Form → EventText A) (before : List (ℕ × Event A)) (e : ℕ × Event A)
    (w : WatchesEvent (telling form e.0 e.1.moment) period id before e (Ok (texts form before e))) → texts form before e ≡ watched (telling form e.0 e.1.moment) id e.1.kind w.answers
watch_told form period id texts before e w = let lines = w.lines in cc

-- whether it is a finding does not depend on how it is told
frame_found : {A : Type 0} (t u : Telling) (id : List ℕ) (r : Result (Frame A) Fault) (answers : List Seen) → (frame_watched t id r answers).1 ≡ (frame_watched u id r answers).1
frame_found t u id (Err f) answers = refl
frame_found t u id (Ok f) answers = refl

kind_found : {A : Type 0} (t u : Telling) (id : List ℕ) (k : EventKind A) (answers : List Seen) → (watched t id k answers).1 ≡ (watched u id k answers).1
kind_found t u id (kinds.Frame octets) answers = frame_found {A = Unit {0}} t u id (frame_at octets) answers
kind_found _ _ _ _ _ = refl

-- the text of an event in a form, by its answers
watch_written : {A : Type 0} (form : Form) (period : ℕ) (id : List ℕ) (texts : Form → EventText A) (before : List (ℕ × Event A)) (e : ℕ × Event A) (written : List ℕ × Bool)
    (w : WatchesEvent (telling form e.0 e.1.moment) period id before e (Ok (texts form before e))) → texts form before e ≡ written → written.0 ≡ (watched (telling form e.0 e.1.moment) id e.1.kind w.answers).0
watch_written form period id texts before e written w is =
    ap (λ (x : List ℕ × Bool). x.0) (sym is ∙ watch_told form period id texts before e w)

pub watch_says : {A : Type 0} (period : ℕ) (id : List ℕ) (texts : Form → EventText A) → IsWide period → AreWatchTexts period id texts → SayEach (exactly_each texts)
watch_says period id texts wide are c before e objects lines given is also =
    let w = are (forms.Object c) before e in
    let v = are forms.Text before e in
    let seen = (answers_are_one period (counts_of id before ++ counts (samples_of id e.1.kind))).1 (w.earlier ++ w.answers) (v.earlier ++ v.answers) w.are_seen v.are_seen in
    let same : w.answers ≡ v.answers = end_same w.earlier w.answers v.earlier v.answers (w.one_each ∙ sym v.one_each) seen in
    let found = λ (x : List ℕ × Bool). x.1 in
    let as_text = telling forms.Text e.0 e.1.moment in (
      say_same _ _ _ _ (watch_written (forms.Object c) period id texts before e objects w is)
          (watch_written forms.Text period id texts before e lines v also ∙ sym (ap (λ (answers : List Seen). (watched as_text id e.1.kind answers).0) same))
          (watched_says c e.0 e.1.moment id e.1.kind w.answers given.number given.moment given.kind (answers_small period _ w.earlier w.answers wide w.are_seen)),
      ap found (sym is ∙ watch_told (forms.Object c) period id texts before e w) ∙ kind_found (telling (forms.Object c) e.0 e.1.moment) as_text id e.1.kind w.answers
          ∙ ap (λ (answers : List Seen). (watched as_text id e.1.kind answers).1) same
          ∙ ap found (sym (watch_told forms.Text period id texts before e v) ∙ also),
    )

pub watch_is_json : {A C F : Type 0} → WatchIsJson A C F
watch_is_json {A} {C} {F} period id texts wide are = json_said C F (exactly_each texts) (λ before e. (_, refl)) (watch_says period id texts wide are)

-- ---- the sightings of `blocks`, as objects and as text

abbrev block_named : {A : Type 0} (app_id : ℕ) (p : GoosePdu A) → app_id < 65536 → IsSpellableGoose p → List (Named 0)
block_named app_id p small spelled =
    text_field 0 (codes "text") (block_text (configuration_of app_id p)) refl (block_visible app_id p small spelled)
    ∷ octets_field 0 (codes "appid") (two_octets app_id) refl (two_are_octets app_id small)
    ∷ text_field 0 (codes "gocbRef") p.gocb_ref refl spelled.gocb_ref
    ∷ text_field 0 (codes "datSet") p.dat_set refl spelled.dat_set
    ∷ by 0 (codes "goID") (text_or_null p.go_id) (string_or_null p.go_id) refl (text_or_null_is 0 p.go_id spelled.go_id)
    ∷ decimal_field 0 (codes "confRev") p.conf_rev refl (omega (arith, spelled.conf_rev))
    ∷ decimal_field 0 (codes "entries") (length p.members) refl (omega (arith, spelled.entries))
    ∷ []

abbrev stream_named : {A : Type 0} (a : Asdu A) → IsSpellableAsdu a → List (Named 0)
stream_named a spelled = decimal_field 0 (codes "confRev") a.conf_rev refl (omega (arith, spelled.conf_rev)) ∷ text_field 0 (codes "svID") a.sv_id refl spelled.sv_id ∷ []

-- a sighting is told alike, as the first and as a changed one
record IsTold (c : Counted) (n moment : ℕ) (s : Sighting) : Type 0 where
  first : Say ((blocks_telling (forms.Object c) n moment).of_first s) ((blocks_telling forms.Text n moment).of_first s)
  changed : Say ((blocks_telling (forms.Object c) n moment).of_changed s) ((blocks_telling forms.Text n moment).of_changed s)

block_told : {A : Type 0} (c : Counted) (n moment app_id : ℕ) (p : GoosePdu A) → IsWide n → IsWide moment → app_id < 65536 → IsSpellableGoose p → IsTold c n moment (block_sighting (configuration_of app_id p))
block_told c n moment app_id p wide past small spelled = record {
  first = say_event 0 c n wide (moment_then 0 moment (codes "block") past (by_test (codes "block") refl) (block_named app_id p small spelled)) _ (omega arith) refl refl refl;
  changed = say_event 0 c n wide (moment_then 0 moment (codes "block-changed") past (by_test (codes "block-changed") refl) (block_named app_id p small spelled)) _ (omega arith) refl refl refl;
}

stream_told : {A : Type 0} (c : Counted) (n moment : ℕ) (a : Asdu A) → IsWide n → IsWide moment → IsSpellableAsdu a → IsTold c n moment (stream_sighting a)
stream_told c n moment a wide past spelled = record {
  first = say_event 0 c n wide (moment_then 0 moment (codes "stream") past (by_test (codes "stream") refl) (stream_named a spelled)) _ (omega arith) refl refl refl;
  changed = say_event 0 c n wide (moment_then 0 moment (codes "stream-changed") past (by_test (codes "stream-changed") refl) (stream_named a spelled)) _ (omega arith) refl refl refl;
}

streams_told : {A : Type 0} (c : Counted) (n moment : ℕ) (those : List (Asdu A)) → IsWide n → IsWide moment → AllByRecursion IsSpellableAsdu those → AllByRecursion (IsTold c n moment) (stream_sightings those)
streams_told c n moment [] wide past spelled = tt
streams_told c n moment (a ∷ those) wide past spelled = (stream_told c n moment a wide past spelled.0, streams_told c n moment those wide past spelled.1)

apdu_told : {A : Type 0} (c : Counted) (n moment app_id : ℕ) (a : Apdu A) → IsWide n → IsWide moment → app_id < 65536 → ApduIsSpellable a → AllByRecursion (IsTold c n moment) (sightings_with app_id a)
apdu_told c n moment app_id (apdus.Goose p) wide past small spelled = (block_told c n moment app_id p wide past small spelled, tt)
apdu_told c n moment app_id (apdus.Sampled p) wide past small spelled = streams_told c n moment p.asdus wide past spelled.each

frame_told : {A : Type 0} (c : Counted) (n moment : ℕ) (octets : List ℕ) (r : Result (Frame A) Fault) → frame_at octets ≡ r → IsWide n → IsWide moment → AreOctets octets → AllByRecursion (IsTold c n moment) (sightings_read r)
frame_told c n moment octets (Err f) read wide past are = tt
frame_told c n moment octets (Ok f) read wide past are =
    let spelled = frame_read_found octets f read in
    apdu_told c n moment f.app_id f.apdu wide past (frame_held octets f are spelled).app_id (frame_spellable octets f are spelled)

kind_told : {A : Type 0} (c : Counted) (n moment : ℕ) (k : EventKind A) → IsWide n → IsWide moment → IsGivenKind k → AllByRecursion (IsTold c n moment) (sightings_of k)
kind_told c n moment (kinds.Frame octets) wide past given = frame_told {A = Unit {0}} c n moment octets (frame_at octets) refl wide past given
kind_told _ _ _ _ _ _ _ = tt

-- ---- the lines of sightings, told otherwise

say_after : (c : Counted) (n moment : ℕ) (s : Sighting) (o : Option (List ℕ)) → IsTold c n moment s → Say (line_after (blocks_telling (forms.Object c) n moment) s o) (line_after (blocks_telling forms.Text n moment) s o)
say_after c n moment s None told = told.first
say_after c n moment s (Some newest) told =
    elim (bytes_eq newest s.text) as (λ (b : Bool). Say (if b then [] else (blocks_telling (forms.Object c) n moment).of_changed s) (if b then [] else (blocks_telling forms.Text n moment).of_changed s)) [ true ↦ say_none | false ↦ told.changed ]

in_front : (t : BlocksTelling) (earlier seen : List Sighting) (s : Sighting) (x : List ℕ) (xs : List (List ℕ)) → IsLineAfter t (earlier ++ []) s x → AreLines t (earlier ++ s ∷ []) seen xs → AreLines t earlier (s ∷ seen) (x ∷ xs)
in_front t earlier seen s x xs first h = record {
  sizes = let size = h.sizes in omega arith;
  each = λ i. elim i as (λ i. (r : Sighting) (line : List ℕ) → slice_get (s ∷ seen) i ≡ Some r → slice_get (x ∷ xs) i ≡ Some line → IsLineAfter t (earlier ++ take i (s ∷ seen)) r line) [
    | zero ↦ (λ r line e f. subst (λ (q : Sighting). IsLineAfter t (earlier ++ []) q line) (same_Some s r e) (subst (λ (l : List ℕ). IsLineAfter t (earlier ++ []) s l) (same_Some x line f) first))
    | suc j ↦ (λ r line e f. subst (λ (l : List Sighting). IsLineAfter t l r line) (append_assoc earlier (s ∷ []) (take j seen)) (h.each j r line e f))
  ];
}

-- the same sightings told as text
record Retold (c : Counted) (n moment : ℕ) (earlier seen : List Sighting) (xs : List (List ℕ)) : Type 0 where
  lines : List (List ℕ)
  are_lines : AreLines (blocks_telling forms.Text n moment) earlier seen lines
  says : Say (concat xs) (concat lines)

retold : (c : Counted) (n moment : ℕ) (earlier seen : List Sighting) (xs : List (List ℕ)) → AllByRecursion (IsTold c n moment) seen → AreLines (blocks_telling (forms.Object c) n moment) earlier seen xs → Retold c n moment earlier seen xs
retold c n moment earlier [] [] told h = record { lines = []; are_lines = record { sizes = refl; each = λ i s line e f. cc }; says = say_none }
retold c n moment earlier (s ∷ seen) (x ∷ xs) told h =
    let first = h.each 0 s x refl refl in
    let others = retold c n moment (earlier ++ s ∷ []) seen xs told.1 (behind (blocks_telling (forms.Object c) n moment) earlier seen s x xs h) in
    let line = line_after (blocks_telling forms.Text n moment) s first.newest in
    record {
      lines = line ∷ others.lines;
      are_lines = in_front (blocks_telling forms.Text n moment) earlier seen s line others.lines (record { newest = first.newest; is_newest = first.is_newest; is_line = refl }) others.are_lines;
      says = say_same _ _ _ _ (ap (λ (l : List ℕ). l ++ concat xs) first.is_line) refl (say_both _ _ _ _ (say_after c n moment s first.newest told.0) others.says);
    }
retold c n moment earlier _ _ told h = let size = h.sizes in absurd (omega arith)

-- ---- what is written

blocks_told : {A : Type 0} (form : Form) (texts : Form → EventText A) (before : List (ℕ × Event A)) (e : ℕ × Event A) (w : ShowsEvent (blocks_telling form e.0 e.1.moment) before e (Ok (texts form before e)))
    → texts form before e ≡ (concat w.lines, false)
blocks_told form texts before e w = let text = w.text in cc

blocks_written : {A : Type 0} (form : Form) (texts : Form → EventText A) (before : List (ℕ × Event A)) (e : ℕ × Event A) (written : List ℕ × Bool) (w : ShowsEvent (blocks_telling form e.0 e.1.moment) before e (Ok (texts form before e)))
    → texts form before e ≡ written → written.0 ≡ concat w.lines
blocks_written form texts before e written w is =
    ap (λ (x : List ℕ × Bool). x.0) (sym is ∙ blocks_told form texts before e w)

pub blocks_says : {A : Type 0} (texts : Form → EventText A) → AreBlocksTexts texts → SayEach (exactly_each texts)
blocks_says texts are c before e objects lines given is also =
    let w = are (forms.Object c) before e in
    let v = are forms.Text before e in
    let told = kind_told c e.0 e.1.moment e.1.kind given.number given.moment given.kind in
    let r = retold c e.0 e.1.moment (sightings_in before) (sightings_of e.1.kind) w.lines told w.are_lines in
    let same : r.lines ≡ v.lines = lines_one (blocks_telling forms.Text e.0 e.1.moment) (sightings_in before) (sightings_of e.1.kind) r.lines v.lines r.are_lines v.are_lines in
    let found = λ (x : List ℕ × Bool). x.1 in (
      say_same _ _ _ _ (blocks_written (forms.Object c) texts before e objects w is) (blocks_written forms.Text texts before e lines v also ∙ sym (ap concat same)) r.says,
      ap found (sym is ∙ blocks_told (forms.Object c) texts before e w) ∙ ap found (sym (blocks_told forms.Text texts before e v) ∙ also),
    )

pub blocks_is_json : {A C F : Type 0} → BlocksIsJson A C F
blocks_is_json {A} {C} {F} texts are = json_said C F (exactly_each texts) (λ before e. (_, refl)) (blocks_says texts are)

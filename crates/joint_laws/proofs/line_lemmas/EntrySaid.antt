-- The entries of a subscriber, as objects and as text.
use Rattle.std.proofs.Common.{◌≡◌, ℕ, ℤ, pos, negsuc, zero, suc, ◌^◌, ◌<◌, List, [], ◌∷◌, ◌++◌, length, Option, Some, ap, refl, sym, subst, ◌∙◌, arith, append_assoc, ◌+◌, ◌≤◌, Bool, true, false, None, inl, inr}
use Rattle.std.specs.Prelude.{◌-ℤ◌, codes, slice_get}
use Rattle.std.specs.List.{AllByRecursion}
use Rattle.std.specs.Fmt.{decimal}
use Rattle.std.proofs.lemmas.Int.{ints}
use Rattle.mms_data.specs.Spellable.{IsTime}
use Rattle.mms_data.specs.declared.time.UtcTime.{UtcTime}
use Rattle.block_core.specs.declared.block.Block.{Block}
use Rattle.subscribe_core.specs.declared.entry.Entry.{Entry}
use Rattle.subscribe_core.specs.declared.entry.Entry.TheVariants as says
use Rattle.subscribe_core.specs.declared.entry.Reason.{Reason}
use Rattle.subscribe_core.specs.declared.entry.Reason.TheVariants as reason
use Rattle.json.specs.Json.{Json, object}
use Rattle.text_core.specs.Pieces.{two_octets}
use Rattle.text_core.specs.LineText.{fault_line}
use Rattle.text_core.specs.ValueText.{time_text}
use Rattle.object_core.specs.EventObject.{event_fields}
use Rattle.object_core.specs.Objects.{Field, in_quotes, object_line}
use Rattle.object_core.specs.Times.{moment_of}
use Rattle.object_core.specs.declared.counted.Counted.{Counted}
use Rattle.joint_laws.proofs.object_lemmas.PlainTexts.{ArePlain, by_test}
use Rattle.joint_laws.proofs.object_lemmas.Values.{IsShort}
use Rattle.joint_laws.proofs.object_lemmas.Containers.{Named, members_of}
use Rattle.joint_laws.proofs.object_lemmas.Fields.{by, decimal_field, octets_field, signed_field, text_field, time_then, word_field}
use Rattle.joint_laws.proofs.object_lemmas.MemberValues.{members_say}
use Rattle.joint_laws.proofs.object_lemmas.Lines.{IsLineOf, json_line, moment_then, object_line_is}
use Rattle.exchange_engines.specs.EntryObject.{AreEntryObjects, IsEntryObject, act_fields, block_fields, delay_from, name_fields, pair_fields, twice_object}
use Rattle.exchange_engines.specs.EntryText.{entry_head, entry_line, entry_lines, pair_line}
use Rattle.exchange_engines.specs.ExchangeNames.{name_of_reason}
use Rattle.exchange_engines.specs.ReplayText.{twice_line, AreTold, Says, entries_in, events_of, opening, told_of}
use Rattle.joint_laws.specs.Given.{AreGivenBlocks, IsGivenBlock, IsWide, IsGivenKind}
use Rattle.joint_laws.specs.JsonLines.{TwiceIsJson, ReplayIsJson}
use Rattle.joint_laws.proofs.line_lemmas.LineSaid.{act_words, line_said}
use Rattle.joint_laws.proofs.line_lemmas.Optional.{two_are_octets}
use Rattle.joint_laws.proofs.line_lemmas.SpokenLines.{Say, say_both, say_none, say_one, say_same, SayEach, all_both, json_said, say_event, say_fault}
use Rattle.joint_laws.proofs.line_lemmas.Spelled.{AreSpelled, frame_held, members_spelled}
use Rattle.std.proofs.lemmas.Option.{same_Some, slice_get_within}
use Rattle.std.proofs.lemmas.Bool.{cases_Bool}
use Rattle.pdu_core.specs.Goose.{SpellsGoose}
use Rattle.pdu_core.specs.Spellable.{IsSpellableGoose}
use Rattle.list_core.specs.declared.event.Event.{Event}
use Rattle.list_core.specs.declared.event.EventKind.{EventKind}
use Rattle.list_core.specs.declared.event.EventKind.TheVariants as kinds
use Rattle.frame_core.specs.Apdu.{SpellsApdu}
use Rattle.frame_core.specs.Written.{ApduIsSpellable}
use Rattle.frame_core.specs.declared.frame.Apdu.{Apdu}
use Rattle.frame_core.proofs.ReadingLaws.{frame_wrong_again}
use Rattle.frame_core.proofs.SpelledSpellable.{frame_spellable}
use Rattle.subscribe_core.specs.Changes.{changes, is_change}
use Rattle.subscribe_core.specs.Entries.{AreEntriesAt, AreOfContent, AreOfEach}
use Rattle.subscribe_core.specs.EventsRead.{AreRead, Content, EventRead, FrameRead, IsContent, IsRead, OfFault, OfGoose, OfSampled}
use Rattle.subscribe_core.specs.FrameEntry.{IsBlockEntry, IsFrameEntry, entry_of, reason_at}
use Rattle.subscribe_core.specs.declared.registers.Verdict.{Verdict}
use Rattle.subscribe_core.specs.declared.registers.Verdict.TheVariants.{Act}
use Rattle.exchange_engines.specs.declared.engines.replay.ReplayManner.{ReplayManner}
use Rattle.joint_laws.proofs.line_lemmas.FaultPlaces.{fault_wide}

-- ---- what entries of some blocks say has few bits

abbrev pub IsGivenPair : ℕ → ℕ → Type 0
IsGivenPair state sequence = IsWide state × IsWide sequence

abbrev pub IsGivenEntry : {A : Type 0} → ℕ → Entry A → Type 0
IsGivenEntry n (says.Expired block) = block < n
IsGivenEntry n (says.Switched block) = block < n
IsGivenEntry n (says.Act block state sequence t members) = (block < n) × IsGivenPair state sequence × IsTime t × AreSpelled members
IsGivenEntry n (says.Refreshed block state sequence) = (block < n) × IsGivenPair state sequence
IsGivenEntry n (says.Repeated block state sequence) = (block < n) × IsGivenPair state sequence
IsGivenEntry n (says.Older block state sequence) = (block < n) × IsGivenPair state sequence
IsGivenEntry n (says.Refused block reason) = block < n
IsGivenEntry n says.NotSubscribed = Unit {0}
IsGivenEntry n says.Sampled = Unit {0}
IsGivenEntry n (says.Faulty fault) = IsWide fault.place

-- ---- fields

-- the block at a position
record IsBlockAt {A : Type 0} (blocks : List (Block A)) (i : ℕ) : Type 0 where
  block : Block A
  there : slice_get blocks i ≡ Some block
  is_given : IsGivenBlock block
  is_wide : IsWide i

block_there : {A : Type 0} (blocks : List (Block A)) (i : ℕ) → AllByRecursion IsGivenBlock blocks → i < length blocks → (b : Block A) × (slice_get blocks i ≡ Some b) × IsGivenBlock b
block_there [] i each h = absurd (omega arith)
block_there (b ∷ blocks) zero each h = (b, refl, each.0)
block_there (b ∷ blocks) (suc i) each h = block_there blocks i each.1 (omega arith)

block_at : {A : Type 0} (blocks : List (Block A)) (i : ℕ) → AreGivenBlocks blocks → i < length blocks → IsBlockAt blocks i
block_at blocks i given h = let b = block_there blocks i given.each h in record { block = b.0; there = b.1; is_given = b.2; is_wide = let few = given.few in omega arith }

-- its position and its name, and what follows them
abbrev block_then : {A : Type 0} {blocks : List (Block A)} (n i : ℕ) → IsBlockAt blocks i → List (Named n) → List (Named n)
block_then n i b more =
    decimal_field n (codes "block") i refl b.is_wide
    ∷ octets_field n (codes "appid") (two_octets b.block.app_id) refl (two_are_octets b.block.app_id b.is_given.app_id)
    ∷ text_field n (codes "gocbRef") b.block.gocb_ref refl b.is_given.gocb_ref
    ∷ more

abbrev pair_then : (n state sequence : ℕ) → IsGivenPair state sequence → List (Named n) → List (Named n)
pair_then n state sequence h more = decimal_field n (codes "stNum") state refl h.0 ∷ decimal_field n (codes "sqNum") sequence refl h.1 ∷ more

-- a text that is an object of fields about a block
with_block : {A : Type 0} {blocks : List (Block A)} (i : ℕ) (b : IsBlockAt blocks i) (of_fields : List Field → List ℕ) (text line : List ℕ) → text ≡ of_fields (block_fields blocks i)
    → Say (of_fields ((codes "block", decimal i) ∷ name_fields (Some b.block))) line → Say text line
with_block i b of_fields text line is said =
    subst (λ (t : List ℕ). Say t line) (sym (is ∙ ap (λ (o : Option (Block _)). of_fields ((codes "block", decimal i) ∷ name_fields o)) b.there)) said

-- ---- one entry

reason_plain : (r : Reason) → ArePlain (name_of_reason r)
reason_plain reason.DatSet = by_test (codes "DatSet") refl
reason_plain c = by_test (name_of_reason c) refl

short_by : (z : ℤ) (m k : ℕ) → z ≡ pos m -ℤ pos k → m < 2 ^ 64 → k < 2 ^ 62 → IsShort z
short_by (pos a) m k e h l = omega (arith, ints, e)
short_by (negsuc a) m k e h l = omega (arith, ints, e)

early : (t : UtcTime) → IsTime t → moment_of t < 2 ^ 62
early t h = let s = h.0 in let f = h.1 in omega arith

word_said : (n : ℕ) (word : List ℕ) (i : ℕ) → decimal n ++ (word ++ (decimal i ++ codes "\n")) ≡ entry_head n word i ++ codes "\n"
word_said n word i = simp append_assoc

pair_said : (n : ℕ) (word : List ℕ) (i state sequence : ℕ)
    → decimal n ++ (word ++ (decimal i ++ (codes " st=" ++ (decimal state ++ (codes " sq=" ++ (decimal sequence ++ codes "\n")))))) ≡ pair_line n word i state sequence
pair_said n word i state sequence = simp append_assoc

refused_said : (n i : ℕ) (name : List ℕ) → decimal n ++ (codes " refused " ++ (decimal i ++ (codes " " ++ (name ++ codes "\n")))) ≡ entry_head n (codes " refused ") i ++ (codes " " ++ name) ++ codes "\n"
refused_said n i name = simp append_assoc

entry_says : {A : Type 0} (c : Counted) (blocks : List (Block A)) (n moment : ℕ) (x : Entry A) (text : List ℕ) → IsWide n → IsWide moment → AreGivenBlocks blocks → IsGivenEntry (length blocks) x → IsEntryObject c blocks n moment x text
    → Say text (entry_line n x)
entry_says c blocks n moment (says.Expired i) text wide past given few is =
    let b = block_at blocks i given few in
    with_block i b (λ (fs : List Field). object_line (event_fields c n moment (codes "expired") ++ fs)) text _ is
    (say_event 0 c n wide (moment_then 0 moment (codes "expired") past (by_test (codes "expired") refl) (block_then 0 i b [])) _ (omega arith) refl refl
    (word_said n (codes " expired ") i))
entry_says c blocks n moment (says.Switched i) text wide past given few is =
    let b = block_at blocks i given few in
    with_block i b (λ (fs : List Field). object_line (event_fields c n moment (codes "switched") ++ fs)) text _ is
    (say_event 0 c n wide (moment_then 0 moment (codes "switched") past (by_test (codes "switched") refl) (block_then 0 i b [])) _ (omega arith) refl refl
    (word_said n (codes " switched ") i))
entry_says c blocks n moment (says.Act i state sequence t members) text wide past given few (held, some, is) =
    let b = block_at blocks i given few.0 in
    let said = members_say members few.3.0 held few.3.1 few.3.2 some in
    let short = short_by (delay_from t moment) moment (moment_of t) refl past (early t few.2) in
    let vs =
    moment_then 35 moment (codes "act") past (by_test (codes "act") refl) (block_then 35 i b (time_then 34 (codes "t") (codes "tTime") (codes "tQuality") t refl refl refl few.2.2 (
    signed_field 35 (codes "delay") (delay_from t moment) refl short ∷ pair_then 35 state sequence few.1 (by 35 (codes "members") held said.json refl said.is_text ∷ [])))) in
    with_block i b (λ (fs : List Field). object_line ((event_fields c n moment (codes "act") ++ fs) ++ act_fields moment state sequence t held)) text _ is
    (say_event 35 c n wide vs _ (omega arith) refl refl (λ j. act_words (decimal n) (decimal i) (decimal state) (decimal sequence) (time_text t) (said.says j)))
entry_says c blocks n moment (says.Refreshed i state sequence) text wide past given few is =
    let b = block_at blocks i given few.0 in
    with_block i b (λ (fs : List Field). object_line ((event_fields c n moment (codes "refreshed") ++ fs) ++ pair_fields state sequence)) text _ is
    (say_event 0 c n wide (moment_then 0 moment (codes "refreshed") past (by_test (codes "refreshed") refl) (block_then 0 i b (pair_then 0 state sequence few.1 []))) _ (omega arith) refl refl
    (pair_said n (codes " refreshed ") i state sequence))
entry_says c blocks n moment (says.Repeated i state sequence) text wide past given few is =
    let b = block_at blocks i given few.0 in
    with_block i b (λ (fs : List Field). object_line ((event_fields c n moment (codes "repeated") ++ fs) ++ pair_fields state sequence)) text _ is
    (say_event 0 c n wide (moment_then 0 moment (codes "repeated") past (by_test (codes "repeated") refl) (block_then 0 i b (pair_then 0 state sequence few.1 []))) _ (omega arith) refl refl
    (pair_said n (codes " repeated ") i state sequence))
entry_says c blocks n moment (says.Older i state sequence) text wide past given few is =
    let b = block_at blocks i given few.0 in
    with_block i b (λ (fs : List Field). object_line ((event_fields c n moment (codes "old") ++ fs) ++ pair_fields state sequence)) text _ is
    (say_event 0 c n wide (moment_then 0 moment (codes "old") past (by_test (codes "old") refl) (block_then 0 i b (pair_then 0 state sequence few.1 []))) _ (omega arith) refl refl
    (pair_said n (codes " old ") i state sequence))
entry_says c blocks n moment (says.Refused i r) text wide past given few is =
    let b = block_at blocks i given few in
    with_block i b (λ (fs : List Field). object_line ((event_fields c n moment (codes "refused") ++ fs) ++ (codes "reason", in_quotes (name_of_reason r)) ∷ [])) text _ is
    (say_event 0 c n wide (moment_then 0 moment (codes "refused") past (by_test (codes "refused") refl) (block_then 0 i b (word_field 0 (codes "reason") (name_of_reason r) refl (reason_plain r) ∷ []))) _ (omega arith) refl refl
    (refused_said n i (name_of_reason r)))
entry_says c blocks n moment says.NotSubscribed text wide past given few is =
    subst (λ (t : List ℕ). Say t (decimal n ++ codes " not-subscribed\n")) (sym is)
    (say_event 0 c n wide (moment_then 0 moment (codes "not-subscribed") past (by_test (codes "not-subscribed") refl) []) _ (omega arith) refl refl refl)
entry_says c blocks n moment says.Sampled text wide past given few is =
    subst (λ (t : List ℕ). Say t (decimal n ++ codes " sampled\n")) (sym is) (say_event 0 c n wide (moment_then 0 moment (codes "sampled") past (by_test (codes "sampled") refl) []) _ (omega arith) refl refl refl)
entry_says c blocks n moment (says.Faulty f) text wide past given few is = subst (λ (t : List ℕ). Say t (fault_line n f)) (sym is) (say_fault c n moment f wide past few)

-- ---- several entries

pub entries_say : {A : Type 0} (c : Counted) (blocks : List (Block A)) (n moment : ℕ) (entries : List (Entry A)) (text : List ℕ) → IsWide n → IsWide moment → AreGivenBlocks blocks → AllByRecursion (IsGivenEntry (length blocks)) entries
    → AreEntryObjects c blocks n moment entries text → Say text (entry_lines n entries)
entries_say c blocks n moment [] text wide past given few is = subst (λ (t : List ℕ). Say t []) (sym is) say_none
entries_say c blocks n moment (x ∷ entries) text wide past given few (first, others, one, more, is) =
    say_same _ _ _ _ is refl (say_both first others (entry_line n x) (entry_lines n entries) (entry_says c blocks n moment x first wide past given few.0 one)
    (entries_say c blocks n moment entries others wide past given few.1 more))

-- ---- a block given twice

-- its fields
abbrev twice_fields : {A : Type 0} {blocks : List (Block A)} (i : ℕ) → IsBlockAt blocks i → List (Named 0)
twice_fields i b = block_then 0 i b (word_field 0 (codes "error") (codes "SameBlockTwice") refl (by_test (codes "SameBlockTwice") refl) ∷ [])

abbrev twice_kind : Named 0
twice_kind = word_field 0 (codes "kind") (codes "blocks") refl (by_test (codes "blocks") refl)

-- the line of a block given twice
record IsTwice (object line : List ℕ) : Type 0 where
  json : Json
  is_line : IsLineOf json object
  says : line_said json ≡ line

twice_is : {A : Type 0} (blocks : List (Block A)) (i : ℕ) → AreGivenBlocks blocks → i < length blocks → IsTwice (twice_object blocks i) (twice_line i)
twice_is blocks i given h =
    let b = block_at blocks i given h in
    let text = λ (o : Option (Block _)). object_line ((codes "kind", in_quotes (codes "blocks")) ∷ ((codes "block", decimal i) ∷ name_fields o) ++ (codes "error", in_quotes (codes "SameBlockTwice")) ∷ []) in
    subst (λ (t : List ℕ). IsTwice t (twice_line i)) (sym (ap text b.there)) (record {
      json = object (members_of (twice_kind ∷ twice_fields i b));
      is_line = object_line_is 0 twice_kind (twice_fields i b) (omega arith) refl;
      says = refl;
    })

pub twice_says : {A : Type 0} (blocks : List (Block A)) (i : ℕ) → AreGivenBlocks blocks → i < length blocks → Say (twice_object blocks i) (twice_line i)
twice_says blocks i given h = let t = twice_is blocks i given h in say_one t.json (twice_object blocks i) (twice_line i) t.is_line t.says

pub twice_is_json : {A : Type 0} → TwiceIsJson A
twice_is_json blocks i given h = let t = twice_is blocks i given h in json_line t.json (twice_object blocks i) t.is_line

-- ---- what `replay` writes, as objects and as text

abbrev IsGivenContent : Content → Type 0
IsGivenContent (OfGoose f) = IsSpellableGoose f.pdu × AreSpelled f.pdu.members
IsGivenContent (OfFault fault) = IsWide fault.place
IsGivenContent _ = Unit {0}

given_content : {A : Type 0} (k : EventKind A) (content : Content) → IsGivenKind k → IsContent k content → IsGivenContent content
given_content (kinds.Frame o) (OfGoose g) given (f, spelled, app, apdu) =
    let held = frame_held o f given spelled in
    let spells : SpellsGoose g.pdu held.apdu = subst (λ (a : Apdu (Unit {0})). SpellsApdu a held.apdu) apdu held.spells in
    (subst ApduIsSpellable apdu (frame_spellable o f given spelled), members_spelled g.pdu held.apdu held.are_octets spells)
given_content (kinds.Frame o) (OfFault fault) given wrong = fault_wide {A = Unit {0}} o fault (frame_wrong_again o fault wrong)
given_content _ (OfGoose g) given is = absurd is
given_content _ (OfFault fault) given is = absurd is
given_content _ _ _ _ = tt

-- the last of several events is read so
last_read : {A : Type 0} (es : List (Event A)) (e : Event A) (readings : List EventRead) (r : EventRead) → AreRead (es ++ e ∷ []) readings → slice_get readings (length es) ≡ Some r → IsRead e r
last_read [] e (x ∷ readings) r read at = subst (IsRead e) (same_Some x r at) read.0
last_read (f ∷ es) e (x ∷ readings) r read at = last_read es e readings r read.1 at
last_read _ _ _ _ read _ = absurd read

-- ---- entries

each_given : {A : Type 0} (n : ℕ) (holds : Block A → Type 0) (entry : ℕ → Entry A) (b : ℕ) (blocks : List (Block A)) (entries : List (Entry A)) → ((i : ℕ) → i < n → IsGivenEntry n (entry i)) → b + length blocks ≤ n
    → AreOfEach holds entry b blocks entries → AllByRecursion (IsGivenEntry n) entries
each_given n holds entry b [] entries given few are = subst (AllByRecursion (IsGivenEntry n)) (sym are) tt
each_given n holds entry b (block ∷ blocks) entries given few (inl (here, (rest, is, more))) =
    subst (AllByRecursion (IsGivenEntry n)) (sym is) (given b (omega arith), each_given n holds entry (b + 1) blocks rest given (omega arith) more)
each_given n holds entry b (block ∷ blocks) entries given few (inr none) = each_given n holds entry (b + 1) blocks entries given (omega arith) none.1

verdict_given : (A : Type 0) (n b : ℕ) (f : FrameRead) (v : Verdict) → b < n → IsGivenContent (OfGoose f) → IsGivenEntry {A = A} n (entry_of {A = A} b f v)
verdict_given A n b f Act below given = (below, (omega (arith, given.0.st_num), omega (arith, given.0.sq_num)), given.0.t, given.1)
verdict_given A n b f _ below given = (below, (omega (arith, given.0.st_num), omega (arith, given.0.sq_num)))

own_given : {A : Type 0} (n : ℕ) (readings : List EventRead) (i b : ℕ) (block : Block A) (f : FrameRead) (o : Option Reason) (entry : Entry A) → b < n → IsGivenContent (OfGoose f) → IsBlockEntry readings i b block f o entry
    → IsGivenEntry n entry
own_given {A} n readings i b block f (Some r) entry below given told = subst (IsGivenEntry n) (sym told) below
own_given {A} n readings i b block f None entry below given (v, is, told) = subst (IsGivenEntry n) (sym told) (verdict_given A n b f v below given)

frame_given : {A : Type 0} (blocks : List (Block A)) (readings : List EventRead) (i : ℕ) (f : FrameRead) (entry : Entry A) → IsGivenContent (OfGoose f) → IsFrameEntry blocks readings i f entry → IsGivenEntry (length blocks) entry
frame_given blocks readings i f entry given (inl foreign) = subst (IsGivenEntry (length blocks)) (sym foreign.told) tt
frame_given blocks readings i f entry given (inr own) =
    own_given (length blocks) readings i own.position own.block f (reason_at own.block readings i f) entry (slice_get_within blocks own.position own.block own.here) given own.told

content_given : {A : Type 0} (blocks : List (Block A)) (readings : List EventRead) (i : ℕ) (content : Content) (entries : List (Entry A)) → IsGivenContent content → AreOfContent blocks readings i content entries
    → AllByRecursion (IsGivenEntry (length blocks)) entries
content_given blocks readings i (OfGoose f) entries given (entry, is, are) = subst (AllByRecursion (IsGivenEntry (length blocks))) (sym are) (frame_given blocks readings i f entry given is, tt)
content_given blocks readings i OfSampled entries given are = subst (AllByRecursion (IsGivenEntry (length blocks))) (sym are) (tt, tt)
content_given blocks readings i (OfFault fault) entries given are = subst (AllByRecursion (IsGivenEntry (length blocks))) (sym are) (given, tt)
content_given blocks _ _ _ _ _ are = subst (AllByRecursion (IsGivenEntry (length blocks))) (sym are) tt

said_given : {A : Type 0} (blocks : List (Block A)) (es : List (Event A)) (e : Event A) (entries : List (Entry A)) → IsGivenKind e.kind → AreEntriesAt blocks (es ++ e ∷ []) (length es) entries
    → AllByRecursion (IsGivenEntry (length blocks)) entries
said_given blocks es e entries given (readings, read, at) =
    let n = length blocks in
    let content = given_content e.kind at.event.content given (last_read es e readings at.event read at.at).content in
    let expired = each_given n _ says.Expired 0 blocks at.expired (λ i h. h) (omega arith) at.are_expired in
    let switched = each_given n _ says.Switched 0 blocks at.switched (λ i h. h) (omega arith) at.are_switched in
    let said = content_given blocks readings (length es) at.event.content at.said content at.are_said in
    subst (AllByRecursion (IsGivenEntry n)) (sym at.whole) (all_both (IsGivenEntry n) at.expired (at.switched ++ at.said) expired (all_both (IsGivenEntry n) at.switched at.said switched said))

-- entries that are told are among those that events have
some_given : {A : Type 0} (n : ℕ) (entries : List (Entry A)) → AllByRecursion (IsGivenEntry n) entries → AllByRecursion (IsGivenEntry n) (changes entries)
some_given n [] all = tt
some_given n (x ∷ entries) all = elim (cases_Bool (is_change x)) [ inl e ↦ rw e (all.0, (some_given n entries all.1)) | inr e ↦ rw e (some_given n entries all.1) ]

told_given : {A : Type 0} (n : ℕ) (alone : Bool) (entries : List (Entry A)) → AllByRecursion (IsGivenEntry n) entries → AllByRecursion (IsGivenEntry n) (told_of alone entries)
told_given n true entries all = some_given n entries all
told_given n false entries all = all

module _ {A : Type 0} (manner : ReplayManner) (blocks : List (Block A)) (say : Says A) (told : AreTold manner blocks say) where
  say_given : (before : List (ℕ × Event A)) (e : ℕ × Event A) → IsGivenKind e.1.kind → AllByRecursion (IsGivenEntry (length blocks)) (say before e)
  say_given before e given =
      subst (AllByRecursion (IsGivenEntry (length blocks))) (sym (told.told before e)) (told_given (length blocks) manner.changes_alone (told.said before e)
      (said_given blocks (opening manner.simulates ++ events_of before) e.1 (told.said before e) given (told.are_said before e)))

-- ---- what is written

pub replay_says : {A : Type 0} (manner : ReplayManner) (blocks : List (Block A)) (say : Says A) → AreGivenBlocks blocks → AreTold manner blocks say → SayEach (entries_in blocks say)
replay_says manner blocks say blocks_given told c before e objects lines given is also = (
  say_same _ _ _ _ refl (ap (λ (w : List ℕ × Bool). w.0) (sym also))
      (entries_say c blocks e.0 e.1.moment (say before e) objects.0 given.number given.moment blocks_given (say_given manner blocks say told before e given.kind) is.0),
  is.1 ∙ ap (λ (w : List ℕ × Bool). w.1) also,
)

pub replay_is_json : {A C F : Type 0} → ReplayIsJson A C F
replay_is_json {A} {C} {F} manner blocks say blocks_given told = json_said C F (entries_in blocks say) (λ before e. (_, refl)) (replay_says manner blocks say blocks_given told)

-- Texts of whole lines, and that commands write such.
use Rattle.std.proofs.Common.{◌≡◌, ◌∙◌, ℕ, suc, ◌<◌, Bool, true, false, eqb, List, [], ◌∷◌, ◌++◌, length, take, get_or, ap, sym, refl, subst, arith, append_assoc}
use Rattle.std.specs.Prelude.{Option, Some, None, Result, Ok, Err, codes, if◌then◌else◌}
use Rattle.std.specs.List.{concat, flat_map, onto_first}
use Rattle.std.specs.Fmt.{decimal}
use Rattle.std.specs.Str.{bytes_eq}
use Rattle.std.proofs.lemmas.Option.{slice_get-get_or}
use Rattle.ber_core.specs.declared.fault.Fault.{Fault}
use Rattle.list_core.specs.declared.event.Event.{Event}
use Rattle.list_core.specs.declared.event.EventKind.{EventKind}
use Rattle.list_core.specs.declared.event.EventKind.TheVariants as kinds
use Rattle.list_core.specs.Cuts.{cut_at}
use Rattle.list_core.specs.EventText.{mode_text}
use Rattle.list_core.proofs.Cuts.{cut_some}
use Rattle.frame_core.specs.declared.frame.Frame.{Frame}
use Rattle.frame_core.specs.computed.FrameReading.{frame_at}
use Rattle.subscribe_core.specs.declared.entry.Entry.{Entry}
use Rattle.subscribe_core.specs.declared.entry.Entry.TheVariants as says
use Rattle.subscribe_core.specs.declared.watch.Seen.{Seen}
use Rattle.object_core.specs.declared.counted.Form.{Form}
use Rattle.object_core.specs.declared.counted.Form.TheVariants.{Text}
use Rattle.text_core.specs.LineText.{fault_line}
use Rattle.text_core.specs.Names.{name_of_cause}
use Rattle.text_core.specs.ValueText.{members_text, time_text}
use Rattle.engine_core.specs.declared.style.Style.TheVariants.{Lines, Dated}
use Rattle.engine_core.specs.Dated.{dated}
use Rattle.engine_core.specs.DatedLaws.{IsLines, last_part}
use Rattle.engine_core.specs.EngineText.{AreAllowedTexts, ItemText}
use Rattle.engine_core.specs.EventsText.{EventAllows, exactly_each, over_allowed}
use Rattle.frame_engines.specs.CheckObject.{check_event_in}
use Rattle.frame_engines.specs.CheckText.{frame_notes, note_unless, notes}
use Rattle.frame_engines.specs.FrameText.{apdu_text, apdu_word, envelope_text, frame_line, trailer_text}
use Rattle.frame_engines.specs.ShowObject.{show_allows}
use Rattle.frame_engines.specs.ShowText.{answer_line, kind_line, show_event}
use Rattle.exchange_engines.specs.ExchangeNames.{name_of_reason}
use Rattle.exchange_engines.specs.EntryText.{entry_head, entry_line, entry_lines, pair_line, pair_text}
use Rattle.exchange_engines.specs.ReplayText.{entries_in}
use Rattle.exchange_engines.specs.SampleLine.{Sample, sample_line, seen_word}
use Rattle.exchange_engines.specs.WatchText.{frame_watched, sample_lines, samples_in, telling, watched}
use Rattle.inventory_engine.specs.BlocksText.{line_after, sighting_line}
use Rattle.inventory_engine.specs.BlocksText as blocks_text
use Rattle.inventory_engine.specs.Sightings.{Sighting}
use Rattle.engine_core.proofs.Ends.{no_end}
use Rattle.joint_laws.specs.WholeTexts.{BlocksIsLines, CheckIsLines, FixedWritesEach, ReplayIsLines, ReplayWritesEach, ShowIsLines, ShowWritesEach, TextIsLines, WatchIsLines}

-- ---- that something is written

pub fixed_writes_each : {A C F : Type 0} → FixedWritesEach A C F
fixed_writes_each (Lines form) texts last = record { of_item = λ before e. (Ok (texts form before e), refl); at_end = no_end }
fixed_writes_each Dated texts last = record {
  of_item = λ before e. let w = texts Text before e in (Ok (dated e.1.moment w.0, w.1), record { text = w.0; is_allowed = refl; is_dated = refl });
  at_end = no_end;
}

pub show_writes_each : {A C F : Type 0} → ShowWritesEach A C F
show_writes_each = record {
  plain = λ last. record { of_item = λ before e. (Ok (show_event before e), refl); at_end = no_end };
  dated = λ last. record {
    of_item = λ before e. let w = show_event before e in (Ok (dated e.1.moment w.0, w.1), record { text = w.0; is_allowed = refl; is_dated = refl });
    at_end = no_end;
  };
}

pub replay_writes_each : {A C F : Type 0} → ReplayWritesEach A C F
replay_writes_each blocks says = record {
  plain = λ last. record { of_item = λ before e. (Ok (entry_lines e.0 (says before e), false), refl); at_end = no_end };
  dated = λ last. record {
    of_item = λ before e. let w = entry_lines e.0 (says before e) in (Ok (dated e.1.moment w, false), record { text = w; is_allowed = refl; is_dated = refl });
    at_end = no_end;
  };
}

-- ---- whole lines

-- a text line by line
data AreLines : List ℕ → Type 0 where
  none : AreLines []
  line : (text first others : List ℕ) → text ≡ first ++ 10 ∷ others → AreLines others → AreLines text

-- cut at its line feeds a text that has one is two parts or more, and the last part is that of what follows it
record CutBehind (text others : List ℕ) : Type 0 where
  first : List ℕ
  next : List ℕ
  rest : List (List ℕ)
  is_cut : cut_at 10 text ≡ first ∷ next ∷ rest
  is_last : last_part (next ∷ rest) ≡ last_part (cut_at 10 others)

cut_behind : (xs others : List ℕ) → CutBehind (xs ++ 10 ∷ others) others
cut_behind [] others = let r = cut_some 10 others in record { first = []; next = r.0; rest = r.1; is_cut = ap (λ l. [] ∷ l) r.2; is_last = ap last_part (sym r.2) }
cut_behind (x ∷ xs) others = go (eqb x 10) refl (cut_behind xs others)
  where
    go : (b : Bool) → eqb x 10 ≡ b → CutBehind (xs ++ 10 ∷ others) others → CutBehind (x ∷ (xs ++ 10 ∷ others)) others
    go true e c = record { first = []; next = c.first; rest = c.next ∷ c.rest; is_cut = rw e (ap (λ l. [] ∷ l) c.is_cut); is_last = c.is_last }
    go false e c = record { first = x ∷ c.first; next = c.next; rest = c.rest; is_cut = rw e (ap (onto_first x) c.is_cut); is_last = c.is_last }

whole : (text : List ℕ) → AreLines text → IsLines text
whole text none = refl
whole text (line t first others e more) =
    let c = cut_behind first others in
    subst IsLines (sym e) (ap last_part c.is_cut ∙ c.is_last ∙ whole others more)

join : (a b : List ℕ) → AreLines a → AreLines b → AreLines (a ++ b)
join a b none more = more
join a b (line t first others e lines) more = line (a ++ b) first (others ++ b) (ap (λ l. l ++ b) e ∙ append_assoc first (10 ∷ others) b) (join others b lines more)

each_line : {X : Type 0} (text : X → List ℕ) → ((x : X) → AreLines (text x)) → (xs : List X) → AreLines (flat_map text xs)
each_line text lines [] = none
each_line text lines (x ∷ xs) = join (text x) (flat_map text xs) (lines x) (each_line text lines xs)

-- a text that a line feed ends
record Ends (text : List ℕ) : Type 0 where
  front : List ℕ
  is : text ≡ front ++ 10 ∷ []

feed : Ends (codes "\n")
feed = record { front = []; is = refl }

behind : (a b : List ℕ) → Ends b → Ends (a ++ b)
behind a b e = record { front = a ++ e.front; is = ap (λ l. a ++ l) e.is ∙ sym (append_assoc a e.front (10 ∷ [])) }

one : (text : List ℕ) → Ends text → AreLines text
one text e = line text e.front [] e.is none

at_feed : (front : List ℕ) → AreLines (front ++ codes "\n")
at_feed front = line _ front [] refl none

-- ---- the texts of runs

-- the texts of a run, by those of its events
of_events : {A C F : Type 0} (allows : Form → EventAllows A) →
    ((before : List (ℕ × Event A)) (e : ℕ × Event A) (written : List ℕ × Bool) → allows Text before e written → IsLines written.0) → TextIsLines C F allows
of_events {A} {C} {F} allows each = record { of_event = each; of_run = λ last_line items texts are. λ k w h. at items texts last_line are k w h } where
  at : (items : List (ℕ × Event A)) (texts : List ItemText) (last_line : F → List ℕ) → AreAllowedTexts (over_allowed {C = C} (allows Text) last_line) items texts →
      (k : ℕ) (w : ItemText) → k < length texts → IsLines (get_or texts k w).text
  at [] texts last_line are k w h = absurd (omega (arith, h, are.one_each))
  at (e ∷ es) texts last_line are k w h =
      let it = get_or (e ∷ es) k e in
      let one = get_or texts k w in
      each (take k (e ∷ es)) it (one.text, one.is_finding)
      (are.each k it one (slice_get-get_or (e ∷ es) k e (omega (arith, h, are.one_each))) (slice_get-get_or texts k w h))

-- ---- commands

fault_ends : (n : ℕ) (f : Fault) → AreLines (fault_line n f)
fault_ends n f = at_feed (decimal n ++ codes " fault " ++ decimal f.place ++ (codes " " ++ name_of_cause f.cause))

frame_ends : {A : Type 0} (n : ℕ) (f : Frame A) → AreLines (frame_line n f)
frame_ends n f = one _ (behind (decimal n) _ (behind (apdu_word f.apdu) _ (behind (envelope_text f) _ (behind (apdu_text f.apdu) _ (behind (codes " trailer=" ++ trailer_text f.trailer) _ feed)))))

answer_ends : {A : Type 0} (n : ℕ) (r : Result (Frame A) Fault) → AreLines (answer_line n r)
answer_ends n (Ok f) = frame_ends n f
answer_ends n (Err f) = fault_ends n f

kind_ends : {A : Type 0} (n moment : ℕ) (kind : EventKind A) → AreLines (kind_line n moment kind)
kind_ends n moment kinds.Clock = at_feed (decimal n ++ codes " clock " ++ decimal moment)
kind_ends n moment (kinds.Frame octets) = answer_ends n (frame_at octets)
kind_ends n moment (kinds.Mode on) = at_feed (decimal n ++ codes " mode " ++ decimal moment ++ codes " " ++ mode_text on)

pub show_is_lines : {A C F : Type 0} → ShowIsLines A C F
show_is_lines = of_events show_allows (λ before e written is. subst (λ (w : List ℕ × Bool). IsLines w.0) is (whole _ (kind_ends e.0 e.1.moment e.1.kind)))

note_ends : (b : Bool) (n : ℕ) (front word : List ℕ) → word ≡ front ++ 10 ∷ [] → AreLines (note_unless b n word)
note_ends true n front word e = none
note_ends false n front word e = one _ (behind (decimal n) word (record { front = front; is = e }))

notes_end : {A : Type 0} (n : ℕ) (octets : List ℕ) (r : Result (Frame A) Fault) → AreLines (frame_notes n octets r)
notes_end n octets (Err f) = fault_ends n f
notes_end n octets (Ok f) = join _ _ (note_ends _ n (codes " not-written") _ refl) (note_ends _ n (codes " destination") _ refl)

kind_notes_end : {A : Type 0} (n : ℕ) (kind : EventKind A) → AreLines (notes n kind)
kind_notes_end n (kinds.Frame octets) = notes_end n octets (frame_at octets)
kind_notes_end _ _ = none

pub check_is_lines : {A C F : Type 0} → CheckIsLines A C F
check_is_lines = of_events (exactly_each check_event_in) (λ before e written is. subst (λ (w : List ℕ × Bool). IsLines w.0) is (whole _ (kind_notes_end e.0 e.1.kind)))

pair_ends : (n : ℕ) (word : List ℕ) (block state sequence : ℕ) → AreLines (pair_line n word block state sequence)
pair_ends n word block state sequence = at_feed (entry_head n word block ++ pair_text state sequence)

entry_ends : {A : Type 0} (n : ℕ) (x : Entry A) → AreLines (entry_line n x)
entry_ends n (says.Expired block) = at_feed (entry_head n (codes " expired ") block)
entry_ends n (says.Switched block) = at_feed (entry_head n (codes " switched ") block)
entry_ends n (says.Act block state sequence t members) = at_feed (entry_head n (codes " act ") block ++ pair_text state sequence ++ (codes " t=" ++ time_text t) ++ (codes " " ++ members_text members))
entry_ends n (says.Refreshed block state sequence) = pair_ends n (codes " refreshed ") block state sequence
entry_ends n (says.Repeated block state sequence) = pair_ends n (codes " repeated ") block state sequence
entry_ends n (says.Older block state sequence) = pair_ends n (codes " old ") block state sequence
entry_ends n (says.Refused block reason) = at_feed (entry_head n (codes " refused ") block ++ (codes " " ++ name_of_reason reason))
entry_ends n says.NotSubscribed = one _ (behind (decimal n) _ (record { front = codes " not-subscribed"; is = refl }))
entry_ends n says.Sampled = one _ (behind (decimal n) _ (record { front = codes " sampled"; is = refl }))
entry_ends n (says.Faulty fault) = fault_ends n fault

pub replay_is_lines : {A C F : Type 0} → ReplayIsLines A C F
replay_is_lines blocks says = of_events (entries_in blocks says)
    (λ before e written is. subst (λ (w : List ℕ × Bool). IsLines w.0) is (whole _ (each_line (entry_line e.0) (entry_ends e.0) (says before e))))

sample_ends : (n : ℕ) (s : Sample) (seen : Seen) → AreLines (sample_line n s seen)
sample_ends n s seen = at_feed (decimal n ++ (codes " " ++ decimal s.position) ++ (codes " " ++ decimal s.count) ++ seen_word seen)

samples_end : (n moment : ℕ) (samples : List Sample) (answers : List Seen) → AreLines (sample_lines (telling Text n moment) samples answers)
samples_end n moment (s ∷ samples) (answer ∷ answers) = join _ _ (sample_ends n s answer) (samples_end n moment samples answers)
samples_end _ _ _ _ = none

frame_watched_ends : {A : Type 0} (n moment : ℕ) (id : List ℕ) (r : Result (Frame A) Fault) (answers : List Seen) → AreLines (frame_watched (telling Text n moment) id r answers).0
frame_watched_ends n moment id (Err f) answers = fault_ends n f
frame_watched_ends n moment id (Ok f) answers = samples_end n moment (samples_in id f.apdu) answers

watched_ends : {A : Type 0} (n moment : ℕ) (id : List ℕ) (kind : EventKind A) (answers : List Seen) → AreLines (watched (telling Text n moment) id kind answers).0
watched_ends n moment id (kinds.Frame octets) answers = frame_watched_ends n moment id (frame_at octets) answers
watched_ends _ _ _ _ _ = none

-- what an answer has written
abbrev written_in : {E : Type 0} → Result (List ℕ × Bool) E → List ℕ
written_in (Ok w) = w.0
written_in (Err e) = []

pub watch_is_lines : {A C F : Type 0} → WatchIsLines A C F
watch_is_lines period id texts are = of_events (exactly_each texts)
    (λ before e written is.
    let w = are Text before e in
    subst (λ (l : List ℕ × Bool). IsLines l.0) is (subst IsLines (sym (ap written_in w.lines)) (whole _ (watched_ends e.0 e.1.moment id e.1.kind w.answers))))

sighting_ends : (n : ℕ) (word text : List ℕ) → AreLines (sighting_line n word text)
sighting_ends n word text = at_feed (decimal n ++ word ++ text)

line_after_ends : (n moment : ℕ) (s : Sighting) (newest : Option (List ℕ)) → AreLines (line_after (blocks_text.telling Text n moment) s newest)
line_after_ends n moment s None = sighting_ends n _ s.text
line_after_ends n moment s (Some newest) =
    elim (bytes_eq newest s.text) as (λ (b : Bool). AreLines (if b then [] else sighting_line n (blocks_text.spaced_word (blocks_text.changed_kind s.app_id)) s.text)) [ true ↦ none | false ↦ sighting_ends n _ s.text ]

lines_of_sightings : (n moment : ℕ) (earlier seen : List Sighting) (lines : List (List ℕ)) → blocks_text.AreLines (blocks_text.telling Text n moment) earlier seen lines → AreLines (concat lines)
lines_of_sightings n moment earlier seen [] are = none
lines_of_sightings n moment earlier [] (l ∷ lines) are = absurd (omega (arith, are.sizes))
lines_of_sightings n moment earlier (s ∷ seen) (l ∷ lines) are =
    let first = are.each 0 s l refl refl in
    join l (concat lines) (subst AreLines (sym first.is_line) (line_after_ends n moment s first.newest))
    (lines_of_sightings n moment (earlier ++ s ∷ []) seen lines (record {
      sizes = omega (arith, are.sizes);
      each = λ i t m a b. subst (λ (l : List Sighting). blocks_text.IsLineAfter (blocks_text.telling Text n moment) l t m) (sym (append_assoc earlier (s ∷ []) (take i seen))) (are.each (suc i) t m a b);
    }))

pub blocks_is_lines : {A C F : Type 0} → BlocksIsLines A C F
blocks_is_lines texts are = of_events (exactly_each texts)
    (λ before e written is.
    let w = are Text before e in
    subst (λ (l : List ℕ × Bool). IsLines l.0) is (subst IsLines (sym (ap written_in w.text)) (whole _ (lines_of_sightings e.0 e.1.moment _ _ w.lines w.are_lines))))

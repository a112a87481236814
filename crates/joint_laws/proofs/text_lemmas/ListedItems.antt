-- The items of a list: the numbers of their lines are small, and their frames are octets.
use Rattle.std.proofs.Common.{◌≡◌, ℕ, ◌+◌, ◌≤◌, Option, Some, None, List, [], ◌∷◌, length, Result, Ok, Err, refl, arith, ◌⊎◌, zero, suc, ◌<◌, ◌++◌, slice_get, inl, inr, ap, ap₂, subst, sym, ◌∙◌, append_assoc, Bool, true, false, not, map}
use Rattle.std.proofs.lemmas.Bool.{cond_both, cases_Bool, cond-false, cond-true, and_from, and_parts, eq-eqb, eqb-true, false≢true}
use Rattle.hex.proofs.HexLemmas.{decode_of-ok}
use Rattle.ber_core.specs.Length.{AreOctets, number}
use Rattle.list_core.specs.declared.device.InputEnd.{InputEnd}
use Rattle.list_core.specs.declared.event.Event.{Event}
use Rattle.list_core.specs.declared.event.EventKind.{EventKind}
use Rattle.list_core.specs.declared.event.EventKind.TheVariants as kinds
use Rattle.list_core.specs.declared.event_lines.EventLines.{EventLines}
use Rattle.list_core.specs.declared.event_lines.EventLines.TheVariants.{First, After}
use Rattle.list_core.specs.declared.event_lines.MomentUnit.{MomentUnit}
use Rattle.list_core.specs.declared.event_lines.MomentUnit.TheVariants.{Milliseconds}
use Rattle.list_core.specs.declared.list_fault.ListCause.{ListCause}
use Rattle.list_core.specs.declared.list_fault.ListFault.{ListFault}
use Rattle.list_core.specs.EventLine.{event_of, event_rules, event_said, is_version, meant}
use Rattle.list_core.specs.Items.{Listing, items_said, listing, put_said}
use Rattle.list_core.specs.Lines.{Stop, reading}
use Rattle.list_core.proofs.LineShapes.{frame-to}
use Rattle.joint_laws.proofs.text_lemmas.ScriptSizes.{reading_few}
use Rattle.std.specs.Prelude.{codes, if◌then◌else◌}
use Rattle.std.specs.List.{AllByRecursion}
use Rattle.std.specs.Str.{bytes_eq}
use Rattle.std.specs.Fmt.{decimal}
use Rattle.std.proofs.lemmas.List.{append-nil}
use Rattle.std.proofs.lemmas.Option.{none-some, same_Some}
use Rattle.std.proofs.lemmas.Slice.Eq.{bytes_eq-Decides}
use Rattle.ber_core.specs.declared.fault.Fault.{Fault}
use Rattle.pdu_core.specs.declared.goose.GoosePdu.{GoosePdu}
use Rattle.pdu_core.specs.declared.sampled.asdu.Asdu.{Asdu}
use Rattle.pdu_core.specs.Spellable.{IsSpellableGoose}
use Rattle.list_core.specs.declared.line_rules.ItemFault.{ItemFault}
use Rattle.list_core.specs.Cuts.{HasNo}
use Rattle.list_core.proofs.Cuts.{HasNo-append}
use Rattle.frame_core.specs.computed.FrameReading.{frame_at}
use Rattle.frame_core.specs.Written.{ApduIsSpellable}
use Rattle.frame_core.specs.declared.frame.Apdu.{Apdu}
use Rattle.frame_core.specs.declared.frame.Apdu.TheVariants as apdus
use Rattle.frame_core.specs.declared.frame.Frame.{Frame}
use Rattle.frame_core.proofs.ReadingLaws.{frame_read_found}
use Rattle.frame_core.proofs.SpelledSpellable.{frame_spellable}
use Rattle.block_core.specs.declared.block.Block.{Block}
use Rattle.block_core.specs.BlockText.{block_in, go_id_of}
use Rattle.subscribe_core.specs.computed.Content.{content_by, content_of, content_with, reading_of}
use Rattle.subscribe_core.specs.EventsRead.{Content, OfGoose, EventRead, FrameRead, OfFault, OfSampled}
use Rattle.engine_core.specs.computed.WholeText.{told_after, whole_text}
use Rattle.inventory_engine.specs.Configuration.{configuration_of}
use Rattle.inventory_engine.specs.Sightings.{Key, Sighting, block_sighting, key_of, sightings_in, sightings_of, sightings_read, sightings_with, stream_sighting, stream_sightings, text_or_none}
use Rattle.inventory_engine.specs.BlocksText.{IsNewest, changed_kind, first_kind, in_lines, line_after, sighting_line, spaced_word}
use Rattle.inventory_engine.specs.computed.BlocksStep.{blocks_text, newest, written_of}
use Rattle.inventory_engine.specs.Laws.{IsFirst, block_told}
use Rattle.inventory_engine.proofs.Appending.{sightings-push}
use Rattle.inventory_engine.proofs.FirstLines.{one_first}
use Rattle.inventory_engine.proofs.Newest.{newest_is, blocks_is}
use Rattle.joint_laws.specs.ListedBlocks.{AreListed, IsBlockOf, ListedBlocksAreApart, LineTells, AreAsConfigured, IsAsConfigured, IsOfConfiguration, ListedBlocksFit}
use Rattle.joint_laws.proofs.line_lemmas.Spelled.{frame_held}
use Rattle.joint_laws.proofs.line_lemmas.SpokenLines.{all_at, all_both}
use Rattle.joint_laws.proofs.text_lemmas.BlockTexts.{block_says, block_visible, no_stream}
use Rattle.joint_laws.proofs.line_lemmas.Visible.{all_visible, decimal_visible, visible_unbroken}
use Rattle.subscribe_core.specs.declared.entry.Entry.{Entry}
use Rattle.subscribe_core.specs.declared.entry.Entry.TheVariants as says
use Rattle.subscribe_core.specs.declared.entry.Reason.{Reason}
use Rattle.subscribe_core.specs.declared.entry.Reason.TheVariants.{DatSet, GoId, ConfRev, Entries}
use Rattle.subscribe_core.specs.declared.registers.Verdict.{Verdict}
use Rattle.subscribe_core.specs.declared.registers.Verdict.TheVariants.{Act}
use Rattle.subscribe_core.specs.Entries.{AreOfContent, AreOfEach, AreReadEntriesAt, ExpiresAt, SwitchesAt}
use Rattle.subscribe_core.specs.FrameEntry.{IsBlockEntry, IsFrameEntry, entry_of, reason_at}
use Rattle.subscribe_core.specs.Matching.{first_of, has_other_id, holds, is_of, reasons}
use Rattle.subscribe_core.specs.Simulation.{is_other_kind, mode_at, takes_simulated}
use Rattle.subscribe_core.specs.Apart.{AreApart}
use Rattle.subscribe_core.proofs.Readings.{reads_one}
use Rattle.exchange_engines.specs.ReplayText.{events_of}
use Rattle.joint_laws.proofs.text_lemmas.OneText.{blocks_texts_are_one}

-- the numbers of a frame are octets
abbrev pub KeepsOctets : {A : Type 0} → EventKind A → Type 0
KeepsOctets (kinds.Frame octets) = AreOctets octets
KeepsOctets _ = Unit {0}

-- so are those of these items, whose lines have at most this number
abbrev pub AreKept : {A : Type 0} → ℕ → List (ℕ × Event A) → Type 0
AreKept most [] = Unit {0}
AreKept most (e ∷ es) = (e.0 ≤ most) × KeepsOctets e.1.kind × AreKept most es

abbrev Kept : {A S : Type 0} → Result (Option (Event A) × S) ListCause → Type 0
Kept (Ok (Some e, s)) = KeepsOctets e.kind
Kept _ = Unit {0}

module _ (A : Type 0) where
  kind_kept : (unit : MomentUnit) (line : List ℕ) (moment : ℕ) (k : EventKind A) → event_of unit line ≡ Ok (Some (record { moment = moment; kind = k })) → KeepsOctets k
  kind_kept unit line moment (kinds.Frame octets) is = let w = frame-to A unit line moment octets is in (decode_of-ok w.1 octets w.4.2).3
  kind_kept _ _ _ _ _ = tt

  meant_kept : (unit : MomentUnit) (line : List ℕ) (r : Result (Option (Event A)) ListCause) → event_of unit line ≡ r → Kept (meant unit r)
  meant_kept unit line (Ok (Some e)) is = kind_kept unit line e.moment e.kind is
  meant_kept _ _ _ _ = tt

  said_kept : (s : EventLines) (line : List ℕ) → Kept {A = A} (event_said s line)
  said_kept First line =
      cond_both (is_version line) _ _ (Kept {A = A}) (λ e. tt) (λ e. meant_kept Milliseconds line (event_of Milliseconds line) refl)
  said_kept (After unit) line = meant_kept unit line (event_of unit line) refl

  put_kept : (n most : ℕ) (r : Result (Option (Event A) × EventLines) ListCause) (rest : EventLines → Listing (Event A) ListCause) → n + 1 ≤ most → Kept r → ((s : EventLines) → AreKept most (rest s).items) → AreKept most (put_said n r rest).items
  put_kept n most (Ok (None, s)) rest le w more = more s
  put_kept n most (Ok (Some e, s)) rest le w more = (le, w, more s)
  put_kept n most (Err why) rest le w more = tt

  lines_kept : (s : EventLines) (n most : ℕ) (lines : List (List ℕ)) (stop : Stop ListFault) → n + length lines ≤ most → AreKept most (items_said (event_rules {A = A}) s n lines stop).items
  unfolding items_said
  lines_kept s n most [] stop le = tt
  lines_kept s n most (l ∷ lines) stop le =
      put_kept n most (event_said s l) (λ t. items_said event_rules t (n + 1) lines stop) (omega arith) (said_kept s l) (λ t. lines_kept t (n + 1) most lines stop (omega arith))

  pub list_kept : (z : InputEnd) (list : List ℕ) → AreKept 1000000 (listing (event_rules {A = A}) First z 0 list).items
  list_kept z list = lines_kept First 0 1000000 (reading z 0 list).lines (reading z 0 list).stop (let few = reading_few z list in omega (arith, few))

-- ---- what the lines of control blocks tell, where no block is configured anew: the block of each frame of GOOSE is listed

-- a control block, which can stand in a list, or streams
abbrev Shows : List Sighting → Type 0
Shows seen =
    ((app_id : ℕ) × (p : GoosePdu (Unit {0})) × (app_id < 65536) × IsSpellableGoose p × (seen ≡ block_sighting (configuration_of app_id p) ∷ []))
    ⊎ ((asdus : List (Asdu (Unit {0}))) × (seen ≡ stream_sightings asdus))

apdu_shows : (app_id : ℕ) (a : Apdu (Unit {0})) → app_id < 65536 → ApduIsSpellable a → Shows (sightings_with app_id a)
apdu_shows app_id (apdus.Goose p) small spelled = inl (app_id, p, small, spelled, refl)
apdu_shows app_id (apdus.Sampled p) small spelled = inr (p.asdus, refl)

octets_show : (o : List ℕ) (r : Result (Frame (Unit {0})) Fault) → AreOctets o → frame_at o ≡ r → Shows (sightings_read r)
octets_show o (Ok f) h is =
    let s = frame_read_found o f is in
    apdu_shows f.app_id f.apdu (frame_held o f h s).app_id (frame_spellable o f h s)
octets_show o (Err e) h is = inr ([], refl)

event_shows : {A : Type 0} (k : EventKind A) → KeepsOctets k → Shows (sightings_of k)
event_shows (kinds.Frame o) h = octets_show o (frame_at o) h refl
event_shows _ _ = inr ([], refl)

-- ---- what its lines tell

-- a sighting's text is the BLOCK of one of these blocks
abbrev Listed : {A : Type 0} → List (Block A) → Sighting → Type 0
Listed blocks s = IsBlockOf blocks s.text

-- so is that of each control block that is seen
abbrev AllListed : {A : Type 0} → List (Block A) → List Sighting → Type 0
AllListed blocks seen = (i : ℕ) (s : Sighting) (app_id : ℕ) → slice_get seen i ≡ Some s → s.app_id ≡ Some app_id → Listed blocks s

-- what is in front of a line
abbrev Starts : List ℕ → Type 0
Starts front = (front ≡ []) ⊎ ((earlier : List ℕ) × (front ≡ earlier ++ 10 ∷ []))

line_ends : (front : List ℕ) (n : ℕ) (word text : List ℕ) → Starts (front ++ sighting_line n word text)
line_ends front n word text = inr (front ++ (decimal n ++ word ++ text), sym (append_assoc front (decimal n ++ word ++ text) (10 ∷ [])))

after_ends : (front : List ℕ) (n : ℕ) (s : Sighting) (o : Option (List ℕ)) → Starts front → Starts (front ++ line_after (in_lines n) s o)
after_ends front n s None h = line_ends front n (spaced_word (first_kind s.app_id)) s.text
after_ends front n s (Some last) h = elim (cases_Bool (bytes_eq last s.text)) [
  | inl same ↦
      subst (λ (l : List ℕ). Starts (front ++ l)) (sym (cond-true (bytes_eq last s.text) [] (sighting_line n (spaced_word (changed_kind s.app_id)) s.text) same)) (subst Starts (sym (append-nil front)) h)
  | inr other ↦
      subst (λ (l : List ℕ). Starts (front ++ l)) (sym (cond-false (bytes_eq last s.text) [] (sighting_line n (spaced_word (changed_kind s.app_id)) s.text) other)) (line_ends front n (spaced_word (changed_kind s.app_id)) s.text)
]

written_ends : (front : List ℕ) (n : ℕ) (earlier seen : List Sighting) → Starts front → Starts (front ++ written_of (in_lines n) earlier seen)
written_ends front n earlier [] h = subst Starts (sym (append-nil front)) h
written_ends front n earlier (s ∷ seen) h =
    let line = line_after (in_lines n) s (newest earlier (key_of s)) in
    subst Starts (append_assoc front line (written_of (in_lines n) (earlier ++ s ∷ []) seen))
    (written_ends (front ++ line) n (earlier ++ s ∷ []) seen (after_ends front n s (newest earlier (key_of s)) h))

line_there : (text front rest : List ℕ) (n : ℕ) (word told : List ℕ) → text ≡ front ++ ((sighting_line n word told ++ []) ++ rest) → Starts front → n ≤ 1000000 → HasNo 10 word → HasNo 10 told → LineTells text word told
line_there text front rest n word told is starts small plain unbroken = record {
  number = n;
  at_most = small;
  has_line = record {
    before = front;
    after = rest;
    whole = is ∙ ap (λ (l : List ℕ). front ++ l) regrouped;
    starts_line = starts;
    has_no_lf = HasNo-append 10 (decimal n ++ word) told (HasNo-append 10 (decimal n) word (visible_unbroken (decimal n) (decimal_visible n (omega (arith, small)))) plain) unbroken;
  };
}
  where
    regrouped : (sighting_line n word told ++ []) ++ rest ≡ (decimal n ++ word ++ told) ++ 10 ∷ rest
    regrouped = ap (λ (l : List ℕ). l ++ rest) (append-nil (sighting_line n word told)) ∙ append_assoc (decimal n ++ word ++ told) (10 ∷ []) rest

-- ---- what a subscriber reads

-- the block of a frame of GOOSE is there
abbrev pub IsThere : {A : Type 0} → List (Block A) → Content → Type 0
IsThere blocks (OfGoose f) = (k : ℕ) × (slice_get blocks k ≡ Some (block_told (configuration_of f.app_id f.pdu)))
IsThere _ _ = Unit {0}

-- so are those of all events
abbrev pub AreThere : {A : Type 0} → List (Block A) → List (ℕ × Event A) → Type 0
AreThere blocks [] = Unit {0}
AreThere blocks (e ∷ es) = IsThere blocks (content_of e.1.kind) × AreThere blocks es

module _ {A : Type 0} (blocks : List (Block A)) (text : List ℕ) (listed : AreListed text blocks) where
  module _ (earlier : List Sighting) (all : AllListed blocks earlier) (n : ℕ) (small : n ≤ 1000000) (front rest : List ℕ) (starts : Starts front) where
    -- a control block whose line stands there is listed
    module _ (app_id : ℕ) (p : GoosePdu (Unit {0})) (low : app_id < 65536) (spelled : IsSpellableGoose p) where
      abbrev seen_now : Sighting
      seen_now = block_sighting (configuration_of app_id p)

      seen_before : (last : List ℕ) → IsNewest earlier (key_of seen_now) (Some last) → last ≡ seen_now.text → Listed blocks seen_now
      seen_before last is same =
          let w = all is.position is.is.sighting app_id is.is.there (ap (λ (k : Key). k.0) is.is.has_key) in
          record { position = w.position; block = w.block; there = w.there; says = ap (λ (t : List ℕ). block_in {A = A} t) (sym same ∙ sym is.has_text) ∙ w.says }

      by_newest : (o : Option (List ℕ)) → IsNewest earlier (key_of seen_now) o → text ≡ front ++ ((line_after (in_lines n) seen_now o ++ []) ++ rest) → Listed blocks seen_now
      by_newest None is stands =
          listed.each seen_now.text (line_there text front rest n (codes " block ") seen_now.text stands starts small (visible_unbroken (codes " block ") (all_visible (codes " block ") refl)) (visible_unbroken seen_now.text (block_visible app_id p low spelled)))
      by_newest (Some last) is stands = elim (cases_Bool (bytes_eq last seen_now.text)) [
        | inl same ↦ seen_before last is ((bytes_eq-Decides last seen_now.text).0 same)
        | inr other ↦
            let line : line_after (in_lines n) seen_now (Some last) ≡ sighting_line n (codes " block-changed ") seen_now.text =
            cond-false (bytes_eq last seen_now.text) [] (sighting_line n (codes " block-changed ") seen_now.text) other in
            absurd (listed.none_changes seen_now.text
            (line_there text front rest n (codes " block-changed ") seen_now.text (stands ∙ ap (λ (l : List ℕ). front ++ ((l ++ []) ++ rest)) line) starts small (visible_unbroken (codes " block-changed ") (all_visible (codes " block-changed ") refl)) (visible_unbroken seen_now.text (block_visible app_id p low spelled))))
      ]

      now_listed : text ≡ front ++ (written_of (in_lines n) earlier (seen_now ∷ []) ++ rest) → Listed blocks seen_now
      now_listed stands = by_newest (newest earlier (key_of seen_now)) (newest_is earlier (key_of seen_now)) stands

    -- so are all control blocks of the event
    shown_listed : (seen : List Sighting) → Shows seen → text ≡ front ++ (written_of (in_lines n) earlier seen ++ rest) → AllListed blocks seen
    shown_listed seen (inl w) stands =
        subst (AllListed blocks) (sym w.4) (λ i s app_id at own. only (block_sighting (configuration_of w.0 w.1)) (now_listed w.0 w.1 w.2 w.3 (stands ∙ ap (λ (l : List Sighting). front ++ (written_of (in_lines n) earlier l ++ rest)) w.4)) i s at)
      where
        only : (x : Sighting) → Listed blocks x → (i : ℕ) (s : Sighting) → slice_get (x ∷ []) i ≡ Some s → Listed blocks s
        only x l zero s at = subst (Listed blocks) (same_Some x s at) l
        only x l (suc i) s at = absurd (none-some s at)
    shown_listed seen (inr w) stands = subst (AllListed blocks) (sym w.1) (λ i s app_id at own. absurd (nameless w.0 i s app_id at own))
      where
        nameless : (asdus : List (Asdu (Unit {0}))) (i : ℕ) (s : Sighting) (app_id : ℕ) → slice_get (stream_sightings asdus) i ≡ Some s → s.app_id ≡ Some app_id → ⊥
        nameless [] i s app_id at own = none-some s at
        nameless (a ∷ asdus) zero s app_id at own = none-some app_id (ap (λ (x : Sighting). x.app_id) (same_Some (stream_sighting a) s at) ∙ own)
        nameless (a ∷ asdus) (suc i) s app_id at own = nameless asdus i s app_id at own

  apdu_there : (app_id : ℕ) (a : Apdu (Unit {0})) → app_id < 65536 → ApduIsSpellable a → AllListed blocks (sightings_with app_id a) → IsThere blocks (content_with app_id a)
  apdu_there app_id (apdus.Goose p) small spelled all =
      let w = all 0 (block_sighting (configuration_of app_id p)) app_id refl refl in
      (w.position, w.there ∙ ap (λ (b : Block A). Some b) (block_says app_id p w.block small spelled w.says))
  apdu_there app_id (apdus.Sampled p) small spelled all = tt

  octets_there : (o : List ℕ) (r : Result (Frame (Unit {0})) Fault) → AreOctets o → frame_at o ≡ r → AllListed blocks (sightings_read r) → IsThere blocks (content_by r)
  octets_there o (Ok f) h is all =
      let s = frame_read_found o f is in
      apdu_there f.app_id f.apdu (frame_held o f h s).app_id (frame_spellable o f h s) all
  octets_there o (Err e) h is all = tt

  event_there : (k : EventKind A) → KeepsOctets k → AllListed blocks (sightings_of k) → IsThere blocks (content_of k)
  event_there (kinds.Frame o) h all = octets_there o (frame_at o) h refl all
  event_there _ _ _ = tt

  -- ---- all events

  get_parts : (xs ys : List Sighting) (i : ℕ) (s : Sighting) → slice_get (xs ++ ys) i ≡ Some s → (slice_get xs i ≡ Some s) ⊎ ((j : ℕ) × (slice_get ys j ≡ Some s))
  get_parts [] ys i s at = inr (i, at)
  get_parts (x ∷ xs) ys zero s at = inl at
  get_parts (x ∷ xs) ys (suc i) s at = get_parts xs ys i s at

  both_listed : (xs ys : List Sighting) → AllListed blocks xs → AllListed blocks ys → AllListed blocks (xs ++ ys)
  both_listed xs ys h g i s app_id at own = elim (get_parts xs ys i s at) [ inl old ↦ h i s app_id old own | inr new ↦ g new.0 s app_id new.1 own ]

  pub events_there : (stop : Stop (ItemFault ListCause)) (before items : List (ℕ × Event A)) (front : List ℕ) → AreKept 1000000 items → AllListed blocks (sightings_in before) → Starts front → text ≡ front ++ (told_after blocks_text before items stop).text → AreThere blocks items
  unfolding told_after
  events_there stop before [] front kept all starts stands = tt
  events_there stop before (e ∷ items) front kept all starts stands =
      let now = written_of (in_lines e.0) (sightings_in before) (sightings_of e.1.kind) in
      let rest = (told_after blocks_text (before ++ e ∷ []) items stop).text in
      let shown = shown_listed (sightings_in before) all e.0 kept.0 front rest starts (sightings_of e.1.kind) (event_shows e.1.kind kept.1) stands in
      let next = subst (AllListed blocks) (sym (sightings-push before e)) (both_listed (sightings_in before) (sightings_of e.1.kind) all shown) in (
        event_there e.1.kind kept.1 shown,
        events_there stop (before ++ e ∷ []) items (front ++ now) kept.2 next (written_ends front e.0 (sightings_in before) (sightings_of e.1.kind) starts) (stands ∙ sym (append_assoc front now rest)),
      )

-- ---- keys

abbrev named : ℕ → List ℕ → Key
named app_id gocb_ref = (Some app_id, gocb_ref)

-- a text that is a BLOCK is that of the control block that it says
abbrev SaysKey : Type 0 → Sighting → Type 0
SaysKey A s = (block : Block A) → block_in s.text ≡ Some block → key_of s ≡ named block.app_id block.gocb_ref

abbrev SayKeys : Type 0 → List Sighting → Type 0
SayKeys A seen = AllByRecursion (SaysKey A) seen

streams_say : (A : Type 0) (asdus : List (Asdu (Unit {0}))) → SayKeys A (stream_sightings asdus)
streams_say A [] = tt
streams_say A (a ∷ asdus) = (λ block is. absurd (none-some block (sym (no_stream A a.conf_rev a.sv_id) ∙ is)), streams_say A asdus)

shown_say : (A : Type 0) (seen : List Sighting) → Shows seen → SayKeys A seen
shown_say A seen (inl w) =
    subst (SayKeys A) (sym w.4) (λ block is. ap (λ (b : Block A). named b.app_id b.gocb_ref) (sym (block_says w.0 w.1 block w.2 w.3 is)), tt)
shown_say A seen (inr w) = subst (SayKeys A) (sym w.1) (streams_say A w.0)

items_say : (A : Type 0) (items : List (ℕ × Event A)) → AreKept 1000000 items → SayKeys A (sightings_in items)
items_say A [] kept = tt
items_say A (e ∷ items) kept = all_both (SaysKey A) (sightings_of e.1.kind) (sightings_in items) (shown_say A (sightings_of e.1.kind) (event_shows e.1.kind kept.1)) (items_say A items kept.2)

pub listed_blocks_are_apart : {A : Type 0} → ListedBlocksAreApart A
listed_blocks_are_apart {A} z list i j a b one_line other_line name =
    let items = (listing (event_rules {A = A}) First z 0 list).items in
    let seen = sightings_in items in
    let all = items_say A items (list_kept A z list) in
    let first = one_line.first.is in
    let other = other_line.first.is in
    let key_a = all_at (SaysKey A) seen i first.sighting all first.there a one_line.says in
    let key_b = all_at (SaysKey A) seen j other.sighting all other.there b other_line.says in
    let keys : named a.app_id a.gocb_ref ≡ named b.app_id b.gocb_ref = ap₂ named name.0 name.1 in
    let same : other_line.key ≡ one_line.key = sym other.has_key ∙ (key_b ∙ (sym keys ∙ (sym key_a ∙ first.has_key))) in
    let one = one_first seen one_line.key i first in
    one.only i one_line.first ∙ sym (one.only j (subst (λ (k : Key). IsFirst seen k j) same other_line.first))

-- ---- a replay with the control blocks that `blocks` lists has an entry of a block for each frame of GOOSE, and finds none that is configured otherwise

bytes_same : (xs : List ℕ) → bytes_eq xs xs ≡ true
bytes_same xs = (bytes_eq-Decides xs xs).1 refl

-- an empty goID is not looked at, and another is the frame's own
id_same : (id : Option (List ℕ)) → has_other_id (go_id_of (text_or_none id)) id ≡ false
id_same (Some (c ∷ cs)) = ap not (bytes_same (c ∷ cs))
id_same _ = refl

module _ (A : Type 0) (f : FrameRead) where
  abbrev own : Block A
  own = block_told (configuration_of f.app_id f.pdu)

  is_own : is_of f own ≡ true
  is_own = and_from _ _ (eq-eqb f.app_id f.app_id refl) (bytes_same f.pdu.gocb_ref)

  -- a reason that holds is of no configuration
  none_of : (simulated : Bool) (reason : Reason) → holds simulated own f reason ≡ true → ¬ IsOfConfiguration reason
  none_of simulated DatSet h is = false≢true (ap not (sym (bytes_same f.pdu.dat_set)) ∙ h)
  none_of simulated GoId h is = false≢true (sym (id_same f.pdu.go_id) ∙ h)
  none_of simulated ConfRev h is = false≢true (ap not (sym (eq-eqb f.pdu.conf_rev f.pdu.conf_rev refl)) ∙ h)
  none_of simulated Entries h is = false≢true (ap not (sym (eq-eqb (length f.pdu.members) (length f.pdu.members) refl)) ∙ h)
  none_of _ _ _ is = is

-- the first reason that holds is one that holds
first_holds : (p : Reason → Bool) (rs : List Reason) (r : Reason) → first_of p rs ≡ Some r → p r ≡ true
first_holds p [] r e = absurd (none-some r e)
first_holds p (x ∷ rs) r e = elim (cases_Bool (p x)) [
  | inl yes_here ↦
      let first : Some x ≡ Some r = sym (ap (λ (b : Bool). if b then Some x else first_of p rs) yes_here) ∙ e in
      ap p (sym (same_Some x r first)) ∙ yes_here
  | inr no_here ↦ first_holds p rs r (sym (ap (λ (b : Bool). if b then Some x else first_of p rs) no_here) ∙ e)
]

-- ---- entries

entry_as : (A : Type 0) (b : ℕ) (f : FrameRead) (v : Verdict) → IsAsConfigured (entry_of {A = A} b f v)
entry_as A b f Act = tt
entry_as A _ _ _ = tt

module _ {A : Type 0} where
  as_append : (a b : List (Entry A)) → AreAsConfigured a → AreAsConfigured b → AreAsConfigured (a ++ b)
  as_append [] b h g = g
  as_append (x ∷ a) b h g = (h.0, as_append a b h.1 g)

  each_as : (so : Block A → Type 0) (entry : ℕ → Entry A) → ((b : ℕ) → IsAsConfigured (entry b)) → (b : ℕ) (blocks : List (Block A)) (entries : List (Entry A)) → AreOfEach so entry b blocks entries → AreAsConfigured entries
  each_as so entry fit b [] entries is = subst AreAsConfigured (sym is) tt
  each_as so entry fit b (block ∷ blocks) entries (inl w) = subst AreAsConfigured (sym w.1.1) (fit b, each_as so entry fit (b + 1) blocks w.1.0 w.1.2)
  each_as so entry fit b (block ∷ blocks) entries (inr w) = each_as so entry fit (b + 1) blocks entries w.1

  -- the entry of a frame of its own block
  own_as : (events : List EventRead) (i b : ℕ) (f : FrameRead) (entry : Entry A) (o : Option Reason) → reason_at (own A f) events i f ≡ o → IsBlockEntry events i b (own A f) f o entry → IsAsConfigured entry
  own_as events i b f entry (Some reason) why is =
      subst IsAsConfigured (sym is) (none_of A f (is_other_kind f (mode_at events i) (takes_simulated (own A f) events i)) reason (first_holds (holds (is_other_kind f (mode_at events i) (takes_simulated (own A f) events i)) (own A f) f) reasons reason why))
  own_as events i b f entry None why is = subst IsAsConfigured (sym is.2) (entry_as A b f is.0)

  module _ (blocks : List (Block A)) (apart : AreApart blocks) where
    frame_as : (events : List EventRead) (i : ℕ) (f : FrameRead) (entry : Entry A) (k : ℕ) → slice_get blocks k ≡ Some (own A f) → IsFrameEntry blocks events i f entry → IsAsConfigured entry
    frame_as events i f entry k there (inl w) = absurd (false≢true (sym (w.foreign k (own A f) there) ∙ is_own A f))
    frame_as events i f entry k there (inr w) =
        let parts = and_parts _ _ w.own in
        let same_place : w.position ≡ k = apart w.position k w.block (own A f) w.here there (eqb-true _ _ parts.0, (bytes_eq-Decides _ _).0 parts.1) in
        let same : w.block ≡ own A f = same_Some w.block (own A f) (sym w.here ∙ ap (slice_get blocks) same_place ∙ there) in
        own_as events i w.position f entry (reason_at (own A f) events i f) refl
        (subst (λ (x : Block A). IsBlockEntry events i w.position x f (reason_at x events i f) entry) same w.told)

    said_as : (events : List EventRead) (i : ℕ) (c : Content) (entries : List (Entry A)) → IsThere blocks c → AreOfContent blocks events i c entries → AreAsConfigured entries
    said_as events i (OfGoose f) entries there is = subst AreAsConfigured (sym is.2) (frame_as events i f is.0 there.0 there.1 is.1, tt)
    said_as events i OfSampled entries there is = subst AreAsConfigured (sym is) (tt, tt)
    said_as events i (OfFault fault) entries there is = subst AreAsConfigured (sym is) (tt, tt)
    said_as _ _ _ _ _ is = subst AreAsConfigured (sym is) tt

    read_there : (items : List (ℕ × Event A)) (i : ℕ) (e : EventRead) → AreThere blocks items → slice_get (map reading_of (events_of items)) i ≡ Some e → IsThere blocks e.content
    read_there [] i e there at = absurd (none-some e at)
    read_there (x ∷ items) zero e there at = subst (λ (r : EventRead). IsThere blocks r.content) (same_Some (reading_of x.1) e at) there.0
    read_there (x ∷ items) (suc i) e there at = read_there items i e there.1 at

    entries_as : (items : List (ℕ × Event A)) (readings : List EventRead) (i : ℕ) (entries : List (Entry A)) → AreThere blocks items → readings ≡ map reading_of (events_of items) → AreReadEntriesAt blocks readings i entries → AreAsConfigured entries
    entries_as items readings i entries there same is =
        let c = read_there items i is.event there (ap (λ (l : List EventRead). slice_get l i) (sym same) ∙ is.at) in
        subst AreAsConfigured (sym is.whole)
        (as_append is.expired (is.switched ++ is.said) (each_as (ExpiresAt readings i) says.Expired (λ b. tt) 0 blocks is.expired is.are_expired)
        (as_append is.switched is.said (each_as (SwitchesAt readings i) says.Switched (λ b. tt) 0 blocks is.switched is.are_switched) (said_as readings i is.event.content is.said c is.are_said)))

pub listed_blocks_fit : {A : Type 0} → ListedBlocksFit A
listed_blocks_fit {A} z list blocks entries t is i es at =
    let l : Listing (Event A) ListCause = listing event_rules First z 0 list in
    let same = (blocks_texts_are_one t blocks_text l is.is_text blocks_is).same_text in
    let there : AreThere blocks l.items = events_there blocks (whole_text t l) is.are_listed l.stop [] l.items [] (list_kept A z list) (λ i s app_id at own. absurd (none-some s at)) (inl refl) same in
    let w = is.are_entries.each i es at in
    entries_as blocks is.are_apart l.items w.0 i es there (reads_one (events_of l.items) w.0 w.1) w.2

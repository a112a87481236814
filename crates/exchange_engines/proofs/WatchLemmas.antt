-- The counts of a stream, event by event and ASDU by ASDU.
use Rattle.std.proofs.Common.{◌≡◌, ℕ, suc, ◌+◌, ◌≤◌, min, add-zero, zero-add, List, [], ◌∷◌, ◌++◌, length, map, Bool, ◌||◌, Option, None, Result, Ok, Err, ap, ap₂, subst, sym, ◌∙◌, refl, append_assoc, arith}
use Rattle.std.specs.List.{list_any}
use Rattle.std.proofs.lemmas.List.{append-nil, length-append, length-map, length_push, map_push}
use Rattle.std.proofs.lemmas.List.Folds.{list_any-append}
use Rattle.ber_core.specs.declared.fault.Fault.{Fault}
use Rattle.pdu_core.specs.declared.sampled.asdu.Asdu.{Asdu}
use Rattle.pdu_core.specs.declared.sampled.view.AsduView.{AsduView}
use Rattle.pdu_core.specs.declared.sampled.view.SvView.{SvView}
use Rattle.pdu_core.specs.SampledViews.{asdu_of, asdus_left}
use Rattle.list_core.specs.declared.event.Event.{Event}
use Rattle.list_core.specs.declared.event.EventKind.{EventKind}
use Rattle.list_core.specs.declared.event.EventKind.TheVariants as kinds
use Rattle.list_core.specs.ListReader.{list_fault_of}
use Rattle.text_core.specs.LineText.{list_fault_line}
use Rattle.frame_core.specs.declared.frame.Frame.{Frame}
use Rattle.frame_core.specs.computed.FrameReading.{frame_at}
use Rattle.subscribe_core.specs.declared.watch.Seen.{Seen}
use Rattle.subscribe_core.specs.Watch.{AreSeen, seen_after}
use Rattle.subscribe_core.specs.computed.WatchAnswers.{last_by, seen_all}
use Rattle.subscribe_core.proofs.Counts.{none_last, none_seen, seen_from}
use Rattle.engine_core.specs.EventsText.{EventText, exactly_event, over_events}
use Rattle.engine_core.specs.computed.EventStep.{EventTaken}
use Rattle.object_core.specs.declared.counted.Form.{Form}
use Rattle.object_core.specs.declared.counted.Form.TheVariants.{Text as Lines}
use Rattle.exchange_engines.specs.SampleLine.{Sample}
use Rattle.exchange_engines.specs.WatchText.{AreWatchTexts, IsWatchIn, IsWatchText, Telling, counts, counts_of, frame_watched, is_unexpected, sample_at, sample_lines, samples_from, samples_in, samples_of, samples_read, telling, watched}
use Rattle.exchange_engines.specs.computed.WatchStep.{SamplesAppended, Tells, last_of, watch_event, watch_text}
use Rattle.exchange_engines.proofs.NonEmpty.{no_sample}

pub seen-append : (p : ℕ) (last : Option ℕ) (xs ys : List ℕ) → seen_all p last (xs ++ ys) ≡ seen_all p last xs ++ seen_all p (last_of p last xs) ys
seen-append p last [] ys = refl
seen-append p last (x ∷ xs) ys = ap (λ (l : List Seen). seen_after p last x ∷ l) (seen-append p (last_by last x (seen_after p last x)) xs ys)

pub last-append : (p : ℕ) (last : Option ℕ) (xs ys : List ℕ) → last_of p last (xs ++ ys) ≡ last_of p (last_of p last xs) ys
last-append p last [] ys = refl
last-append p last (x ∷ xs) ys = last-append p (last_by last x (seen_after p last x)) xs ys

pub seen-length : (p : ℕ) (last : Option ℕ) (xs : List ℕ) → length (seen_all p last xs) ≡ length xs
seen-length p last [] = refl
seen-length p last (x ∷ xs) = ap suc (seen-length p (last_by last x (seen_after p last x)) xs)

counts-append : (xs ys : List Sample) → counts (xs ++ ys) ≡ counts xs ++ counts ys
counts-append [] ys = refl
counts-append (x ∷ xs) ys = ap (λ (l : List ℕ). x.count ∷ l) (counts-append xs ys)

counts-length : (xs : List Sample) → length (counts xs) ≡ length xs
counts-length xs = length-map xs (λ (s : Sample). s.count)

-- the ASDUs behind others
pub samples-append : {A : Type 0} (k : ℕ) (id : List ℕ) (xs ys : List (Asdu A)) → samples_from k id (xs ++ ys) ≡ samples_from k id xs ++ samples_from (k + length xs) id ys
samples-append k id [] ys = ap (λ (j : ℕ). samples_from j id ys) (sym (add-zero k))
samples-append k id (x ∷ xs) ys =
    let place : k + 1 + length xs ≡ k + length (x ∷ xs) = omega arith in
    ap (λ (l : List Sample). sample_at k id x ++ l) (samples-append (k + 1) id xs ys ∙ ap (λ (j : ℕ). samples_from (k + 1) id xs ++ samples_from j id ys) place)
    ∙ sym (append_assoc (sample_at k id x) (samples_from (k + 1) id xs) (samples_from (k + length (x ∷ xs)) id ys))

-- one ASDU behind others
pub samples-push : {A : Type 0} (id : List ℕ) (xs : List (Asdu A)) (a : Asdu A) → samples_from 0 id (xs ++ a ∷ []) ≡ samples_from 0 id xs ++ sample_at (length xs) id a
samples-push id xs a =
    samples-append 0 id xs (a ∷ []) ∙ ap (λ (j : ℕ). samples_from 0 id xs ++ samples_from j id (a ∷ [])) (zero-add (length xs))
    ∙ ap (λ (l : List Sample). samples_from 0 id xs ++ l) (append-nil (sample_at (length xs) id a))

lines-append : (how : Telling) (xs ys : List Sample) (answers others : List Seen) → length answers ≡ length xs → sample_lines how (xs ++ ys) (answers ++ others) ≡ sample_lines how xs answers ++ sample_lines how ys others
lines-append how [] ys [] others e = refl
lines-append how [] ys (a ∷ answers) others e = absurd (omega arith)
lines-append how (x ∷ xs) ys [] others e = absurd (omega arith)
lines-append how (x ∷ xs) ys (a ∷ answers) others e =
    ap (λ (l : List ℕ). how.of_sample x a ++ l) (lines-append how xs ys answers others (omega arith))
    ∙ sym (append_assoc (how.of_sample x a) (sample_lines how xs answers) (sample_lines how ys others))

-- samples behind others
pub said_after : (p : ℕ) (how : Telling) (last mid after : Option ℕ) (xs ys : List Sample) (a b c : List ℕ) (f g : Bool) → SamplesAppended p how last xs a b f mid → SamplesAppended p how mid ys b c g after
    → SamplesAppended p how last (xs ++ ys) a c (f || g) after
said_after p how last mid after xs ys a b c f g u v =
    let first = seen_all p last (counts xs) in
    let second = seen_all p mid (counts ys) in
    let all : seen_all p last (counts (xs ++ ys)) ≡ first ++ second =
    ap (seen_all p last) (counts-append xs ys) ∙ seen-append p last (counts xs) (counts ys) ∙ ap (λ (o : Option ℕ). first ++ seen_all p o (counts ys)) (sym u.2) in
    let sizes : length first ≡ length xs = seen-length p last (counts xs) ∙ counts-length xs in
    let lines : sample_lines how (xs ++ ys) (seen_all p last (counts (xs ++ ys))) ≡ sample_lines how xs first ++ sample_lines how ys second =
    ap (sample_lines how (xs ++ ys)) all ∙ lines-append how xs ys first second sizes in (
      v.0 ∙ ap (λ (l : List ℕ). l ++ sample_lines how ys second) u.0 ∙ append_assoc a (sample_lines how xs first) (sample_lines how ys second) ∙ ap (λ (l : List ℕ). a ++ l) (sym lines),
      ap₂ (λ (x : Bool) (y : Bool). x || y) u.1 v.1 ∙ sym (list_any-append is_unexpected first second) ∙ ap (list_any is_unexpected) (sym all),
      v.2 ∙ ap (λ (o : Option ℕ). last_of p o (counts ys)) u.2 ∙ sym (last-append p last (counts xs) (counts ys)) ∙ ap (last_of p last) (sym (counts-append xs ys)),
    )

-- one event more
pub counts-push : {A : Type 0} (id : List ℕ) (before : List (ℕ × Event A)) (e : ℕ × Event A) → counts_of id (before ++ e ∷ []) ≡ counts_of id before ++ counts (samples_of id e.1.kind)
counts-push id [] e = append-nil (counts (samples_of id e.1.kind))
counts-push id (x ∷ before) e =
    ap (λ (l : List ℕ). counts (samples_of id x.1.kind) ++ l) (counts-push id before e)
    ∙ sym (append_assoc (counts (samples_of id x.1.kind)) (counts_of id before) (counts (samples_of id e.1.kind)))

-- the last count after one event more
pub last-push : {A : Type 0} (p : ℕ) (id : List ℕ) (before : List (ℕ × Event A)) (e : ℕ × Event A) (last : Option ℕ) → last ≡ last_of p None (counts_of id before)
    → last_of p last (counts (samples_of id e.1.kind)) ≡ last_of p None (counts_of id (before ++ e ∷ []))
last-push p id before e last is =
    ap (λ (o : Option ℕ). last_of p o (counts (samples_of id e.1.kind))) is
    ∙ sym (last-append p None (counts_of id before) (counts (samples_of id e.1.kind))) ∙ ap (last_of p None) (sym (counts-push id before e))

-- what is computed of events is that of the counts of all of them
pub watch_of : {A : Type 0} (form : Form) (p : ℕ) (id : List ℕ) → IsWatchIn {A = A} form p id (watch_event form p id)
watch_of form p id = λ before e.
    let c = counts_of id before in
    let d = counts (samples_of id e.1.kind) in record {
      earlier = seen_all p None c;
      answers = seen_all p (last_of p None c) d;
      one_each = seen-length p (last_of p None c) d ∙ counts-length (samples_of id e.1.kind);
      are_seen = subst (λ (answers : List Seen). AreSeen p (c ++ d) answers) (seen-append p None c d) (seen_from p (c ++ d) [] [] None (none_seen p) none_last);
      lines = refl;
    }

-- texts for each form are, in lines over a list, its text
pub watch_lines : {A : Type 0} (p : ℕ) (id : List ℕ) (texts : Form → EventText A) → AreWatchTexts p id texts → IsWatchText {A = A} p id (over_events (texts Lines) (λ f. list_fault_line (list_fault_of f)))
watch_lines p id texts are = record { first = refl; each_item = λ before e. are Lines before e; last = λ f. refl }

pub watch_is : {A : Type 0} (p : ℕ) (id : List ℕ) → IsWatchText {A = A} p id (watch_text p id)
watch_is p id = watch_lines p id (λ form. watch_event form p id) (λ form. watch_of form p id)

-- an event was written, and the watch stands after it
pub watches : {A : Type 0} (form : Form) (p q n : ℕ) (id : List ℕ) (before : List (ℕ × Event A)) (event : Event A) (last after : Option ℕ) (found : Bool) (old new : List ℕ) → last ≡ last_of p None (counts_of id before) → q ≡ p
    → new ≡ old ++ (watched (telling form n event.moment) id event.kind (seen_all p last (counts (samples_of id event.kind)))).0 → found ≡ (watched (telling form n event.moment) id event.kind (seen_all p last (counts (samples_of id event.kind)))).1
    → after ≡ last_of p last (counts (samples_of id event.kind))
    → EventTaken (exactly_event (watch_event form p id)) (λ (items : List (ℕ × Event A)). after ≡ last_of q None (counts_of id items)) before (n, event) found old new
watches form p q n id before event last after found old new stands same wrote finds keeps =
    let said = ap (λ (o : Option ℕ). watched (telling form n event.moment) id event.kind (seen_all p o (counts (samples_of id event.kind)))) stands in
    record {
      text = (watch_event form p id before (n, event)).0;
      is_allowed = ap (λ (f : Bool). ((watch_event form p id before (n, event)).0, f)) (sym (finds ∙ ap (λ (w : List ℕ × Bool). w.1) said));
      appended = wrote ∙ ap (λ (w : List ℕ × Bool). old ++ w.0) said;
      stands_after = keeps ∙ last-push p id before (n, event) last stands ∙ ap (λ (k : ℕ). last_of k None (counts_of id (before ++ (n, event) ∷ []))) (sym same);
    }

-- where nothing is written of an event, it has no sample
pub no_samples : {A : Type 0} (p : ℕ) (how : Telling) → Tells how → (id : List ℕ) (last : Option ℕ) (k : EventKind A) → (watched how id k (seen_all p last (counts (samples_of id k)))).0 ≡ [] → samples_of id k ≡ []
no_samples p how tells id last kinds.Clock none = refl
no_samples p how tells id last (kinds.Mode on) none = refl
no_samples p how tells id last (kinds.Frame octets) none = of_frame (frame_at octets) none
  where
    of_frame : (r : Result (Frame (Unit {0})) Fault) → (frame_watched how id r (seen_all p last (counts (samples_read id r)))).0 ≡ [] → samples_read id r ≡ []
    of_frame (Ok f) none = no_sample how tells (samples_in id f.apdu) _ (seen-length p last (counts (samples_in id f.apdu)) ∙ counts-length (samples_in id f.apdu)) none
    of_frame (Err f) none = absurd (tells.of_fault f none)

-- one ASDU more
pub asdu_more : (p q : ℕ) (how : Telling) (id : List ℕ) (v : SvView) (yielded : List AsduView) (asdu : AsduView) (rest others : List (Asdu (Unit {0}))) (last mid after : Option ℕ) (a b c : List ℕ) (f g : Bool) (position next : ℕ)
    → map (asdu_of {A = Unit {0}}) yielded ++ rest ≡ asdus_left v.asdus → rest ≡ asdu_of asdu ∷ others
    → SamplesAppended p how last (samples_from 0 id (map (asdu_of {A = Unit {0}}) yielded)) a b f mid → q ≡ p → position ≡ length yielded
    → SamplesAppended q how mid (sample_at position id (asdu_of {A = Unit {0}} asdu)) b c g after → next ≡ min v.count (position + 1)
    → (map (asdu_of {A = Unit {0}}) (yielded ++ asdu ∷ []) ++ others ≡ asdus_left v.asdus)
    × SamplesAppended p how last (samples_from 0 id (map (asdu_of {A = Unit {0}}) (yielded ++ asdu ∷ []))) a c (f || g) after
    × (next ≡ length (yielded ++ asdu ∷ []))
asdu_more p q how id v yielded asdu rest others last mid after a b c f g position next parts first said same at more goes =
    let one = asdu_of {A = Unit {0}} asdu in
    let seen = map (asdu_of {A = Unit {0}}) yielded in
    let pushed : map (asdu_of {A = Unit {0}}) (yielded ++ asdu ∷ []) ≡ seen ++ one ∷ [] = map_push asdu_of yielded asdu in
    let whole : seen ++ one ∷ others ≡ asdus_left v.asdus = ap (λ (l : List (Asdu (Unit {0}))). seen ++ l) (sym first) ∙ parts in
    let here : position ≡ length seen = at ∙ sym (length-map yielded (asdu_of {A = Unit {0}})) in
    let mine : SamplesAppended p how mid (sample_at (length seen) id one) b c g after =
    subst (λ (k : ℕ). SamplesAppended p how mid (sample_at k id one) b c g after) here (subst (λ (k : ℕ). SamplesAppended k how mid (sample_at position id one) b c g after) same more) in
    let both = said_after p how last mid after (samples_from 0 id seen) (sample_at (length seen) id one) a b c f g said mine in
    let samples : samples_from 0 id seen ++ sample_at (length seen) id one ≡ samples_from 0 id (map (asdu_of {A = Unit {0}}) (yielded ++ asdu ∷ [])) =
    sym (samples-push id seen one) ∙ ap (samples_from 0 id) (sym pushed) in
    let count : length (seen ++ one ∷ others) ≡ v.count = ap length whole ∙ sym v.counted in
    let sizes : length (seen ++ one ∷ others) ≡ length seen + length (one ∷ others) = length-append seen (one ∷ others) in
    let size : length (yielded ++ asdu ∷ []) ≡ length yielded + 1 = length_push yielded asdu in
    let room : position + 1 ≤ v.count = omega (arith, count, sizes, here) in (
      ap (λ (l : List (Asdu (Unit {0}))). l ++ others) pushed ∙ append_assoc seen (one ∷ []) others ∙ whole,
      subst (λ (l : List Sample). SamplesAppended p how last l a c (f || g) after) samples both,
      omega (arith, goes, room, at, size),
    )

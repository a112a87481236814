-- What frames show of senders and streams, and what is told and kept of them, has octets in it, and numbers of few bits.
use Rattle.std.proofs.Common.{◌≡◌, ℕ, ◌+◌, ◌-◌, ◌*◌, ◌%◌, ◌^◌, ◌<◌, ◌≤◌, max, ◌||◌, Bool, true, false, List, [], ◌∷◌, map, Option, Some, None, refl, arith, inl, inr, if◌then◌else◌, zero, suc, ◌++◌, length, ap, subst}
use Rattle.std.specs.Prelude.{IfSome, Result, Ok, Err, ◌==◌, nat_lt, codes, slice_get}
use Rattle.std.specs.List.{AllByRecursion, flat_map}
use Rattle.std.proofs.Math.Nat.{mod-lt}
use Rattle.std.proofs.lemmas.Bool.{cases_lt, cond_both, le-leb, le-ltb, lt-leb, lt-ltb}
use Rattle.std.proofs.lemmas.Nat.{mul-le}
use Rattle.ber_core.specs.Contents.{AreVisible}
use Rattle.ber_core.specs.Length.{AreOctets}
use Rattle.ber_core.specs.declared.fault.Fault.{Fault}
use Rattle.pdu_core.specs.SampledSpellable.{IsSpellableAsdu}
use Rattle.pdu_core.specs.declared.sampled.asdu.Asdu.{Asdu}
use Rattle.list_core.specs.declared.event.EventKind.{EventKind}
use Rattle.list_core.specs.declared.event.EventKind.TheVariants as kinds
use Rattle.frame_core.specs.Written.{ApduIsSpellable}
use Rattle.frame_core.specs.declared.frame.Apdu.{Apdu}
use Rattle.frame_core.specs.declared.frame.Apdu.TheVariants as apdus
use Rattle.frame_core.specs.declared.frame.Frame.{Frame}
use Rattle.frame_core.specs.computed.FrameReading.{frame_at}
use Rattle.frame_core.proofs.ReadingLaws.{frame_read_found}
use Rattle.frame_core.proofs.SpelledSpellable.{frame_spellable}
use Rattle.loss_core.specs.declared.advance.Advance.{Advance}
use Rattle.loss_core.specs.declared.advance.Advance.TheVariants.{Ahead, Back}
use Rattle.loss_core.specs.declared.missing.Span.{Span}
use Rattle.loss_core.specs.declared.sender.Arrival.{Arrival}
use Rattle.loss_core.specs.declared.sender.Sender.{Sender}
use Rattle.loss_core.specs.declared.sender.Standing.{Standing}
use Rattle.loss_core.specs.declared.sender.Standing.TheVariants as standing
use Rattle.loss_core.specs.declared.sender.Told.{Told}
use Rattle.loss_core.specs.declared.sender_tally.SenderTotals.{SenderTotals}
use Rattle.loss_core.specs.declared.stream.Came.{Came}
use Rattle.loss_core.specs.declared.stream.Came.TheVariants as came
use Rattle.loss_core.specs.declared.stream.Newest.{Newest}
use Rattle.loss_core.specs.declared.stream.Sample.{Sample}
use Rattle.loss_core.specs.declared.stream_tally.StreamTotals.{StreamTotals}
use Rattle.loss_core.specs.Advance.{advance_of, way_round}
use Rattle.loss_core.specs.Missing.{sequences_from, span}
use Rattle.loss_core.specs.Sender.{over_at, sets, standing_by, told_after, was_silent}
use Rattle.loss_core.specs.SenderTotals.{kept}
use Rattle.loss_core.specs.Stream.{by_advance}
use Rattle.loss_core.specs.computed.AdvanceSteps.{advance_by, most, nearest_to}
use Rattle.loss_core.specs.computed.StreamSteps.{came_after}
use Rattle.loss_core.specs.computed.SenderTotalSteps.{totals_after}
use Rattle.loss_core.specs.computed.StreamTotalSteps.{fresh_tally, stream_totals_after}
use Rattle.loss_core.specs.declared.finding.Finding.{Finding}
use Rattle.loss_core.specs.declared.finding.Finding.TheVariants.{Silent, StatesMissing, FramesMissing, Late, Restarted, SamplesMissing, SampleRepeated, SampleLate, OutOfRange, Synch}
use Rattle.loss_core.specs.Findings.{came_told, count_told, first_missing, frame_findings, frames_told, silence, standing_told, states_told, synch_told}
use Rattle.loss_engine.specs.LossText.{with_end, back_lines, end_silent, AreLosses, closing_in, sight_lines, told_line}
use Rattle.loss_engine.specs.Sights.{Key, Shown, Sight, frame, period_for, sample, sender, stream, same_key, sight_of_asdu, sights_of, sights_read, sights_with}
use Rattle.loss_core.specs.Periods.{ArePeriods, IsPeriodOf, Period}
use Rattle.loss_engine.proofs.Stands.{in_range}
use Rattle.loss_engine.specs.computed.Tracking.{Progress, Tracked, frames, samples, counted, came_in, findings_by, first_progress, known_of, more_progress, sender_of, silent_since, stale_newest, synch_of, track, with_progress, total_by, Kept, back_by, back_where, closing_by, closing_pieces, findings_all, keep, keep_all, kept_none, numbered_all, pieces_by, pieces_of, sights_by, silences_by, totals_by, track_all}
use Rattle.joint_laws.specs.Given.{IsGivenKind, IsWide, IsGiven}
use Rattle.joint_laws.proofs.line_lemmas.SpokenLines.{all_both, Say, say_none, say_one, found_joined, say_both, say_joined, say_event}
use Rattle.joint_laws.proofs.line_lemmas.Spelled.{frame_held}
use Rattle.json.specs.Json.{object}
use Rattle.date_core.specs.DateText.{date_text}
use Rattle.text_core.specs.Pieces.{two_octets}
use Rattle.object_core.specs.declared.counted.Counted.{Counted}
use Rattle.object_core.specs.declared.counted.Form.TheVariants as forms
use Rattle.object_core.specs.Objects.{date_value, object_line}
use Rattle.engine_core.specs.EngineText.{ItemText}
use Rattle.joint_laws.proofs.object_lemmas.PlainTexts.{are_plain, by_test}
use Rattle.joint_laws.proofs.object_lemmas.Containers.{Named, members_of, fields_of, names_of}
use Rattle.joint_laws.proofs.object_lemmas.Fields.{boolean_field, by, date_is, decimal_field, octets_field, string_or_null, text_field, word_field}
use Rattle.joint_laws.proofs.object_lemmas.Lines.{moment_then, object_line_is}
use Rattle.loss_core.specs.declared.sender.Pair.{Pair}
use Rattle.loss_engine.specs.LossLine.{end_silent_line, finding_line, samples_line, sender_total_line, stream_total_line}
use Rattle.loss_engine.specs.LossObject.{end_silent_object, finding_object, samples_object, sender_total_object, stream_total_object}
use Rattle.joint_laws.proofs.line_lemmas.Optional.{two_are_octets}
use Rattle.std.proofs.lemmas.Option.{none-some, same_Some}
use Rattle.list_core.specs.declared.event.Event.{Event}
use Rattle.list_core.specs.Items.{Numbered}
use Rattle.list_core.specs.Lines.{Stop, finished}
use Rattle.object_core.specs.declared.counted.Form.{Form}
use Rattle.engine_core.specs.declared.style.Style.TheVariants.{Lines}
use Rattle.loss_engine.specs.TimeBack.{is_far_below}
use Rattle.loss_engine.proofs.LossLaws.{losses_are}
use Rattle.loss_engine.proofs.LossesOnce.{losses_once}
use Rattle.joint_laws.specs.JsonLines.{AreJsonLines, LossesAreJson, TextsAreJson, written_of}
use Rattle.joint_laws.specs.LinesBack.{GivesLosses, GivesTexts}
use Rattle.joint_laws.proofs.line_lemmas.LineSaid.{back, line_said}
use Rattle.joint_laws.proofs.object_lemmas.Names.{all_differ}

-- ---- what frames show

-- an APPID of sixteen bits, octets, and visible names
abbrev pub IsGivenKey : Key → Type 0
IsGivenKey (sender app_id reference simulation) = (app_id < 65536) × AreVisible reference
IsGivenKey (stream app_id source id) = (app_id < 65536) × AreOctets source × AreVisible id

-- of a sender a frame, of a stream a sample
abbrev pub IsGivenShown : Key → Shown → Type 0
IsGivenShown (sender a r s) (frame p lifetime) = IsWide p.state × IsWide p.sequence
IsGivenShown (stream a o i) (sample count synch) = IsWide count × IsWide synch
IsGivenShown _ _ = ⊥

pub record IsGivenSight (s : Sight) : Type 0 where
  pub key : IsGivenKey s.key
  pub moment : IsWide s.moment
  pub shown : IsGivenShown s.key s.shown

asdus_shown : {A : Type 0} (moment app_id : ℕ) (source : List ℕ) (those : List (Asdu A)) → IsWide moment → app_id < 65536 → AreOctets source → AllByRecursion IsSpellableAsdu those
    → AllByRecursion IsGivenSight (map (sight_of_asdu moment app_id source) those)
asdus_shown moment app_id source [] wide small are spelled = tt
asdus_shown moment app_id source (a ∷ those) wide small are spelled = (
  record { key = (small, are, spelled.0.sv_id); moment = wide; shown = (omega (arith, spelled.0.smp_cnt), omega (arith, spelled.0.smp_synch)) },
  asdus_shown moment app_id source those wide small are spelled.1,
)

apdu_shown : {A : Type 0} (moment app_id : ℕ) (source : List ℕ) (a : Apdu A) → IsWide moment → app_id < 65536 → AreOctets source → ApduIsSpellable a → AllByRecursion IsGivenSight (sights_with moment app_id source a)
apdu_shown moment app_id source (apdus.Goose p) wide small are spelled =
    (record { key = (small, spelled.gocb_ref); moment = wide; shown = (omega (arith, spelled.st_num), omega (arith, spelled.sq_num)) }, tt)
apdu_shown moment app_id source (apdus.Sampled p) wide small are spelled = asdus_shown moment app_id source p.asdus wide small are spelled.each

frame_shown : {A : Type 0} (moment : ℕ) (octets : List ℕ) (r : Result (Frame A) Fault) → frame_at octets ≡ r → IsWide moment → AreOctets octets → AllByRecursion IsGivenSight (sights_read moment r)
frame_shown moment octets (Err f) read wide are = tt
frame_shown moment octets (Ok f) read wide are =
    let spelled = frame_read_found octets f read in
    let held = frame_held octets f are spelled in
    apdu_shown moment f.app_id f.source f.apdu wide held.app_id held.source (frame_spellable octets f are spelled)

-- what an event shows
pub sights_given : {A : Type 0} (moment : ℕ) (k : EventKind A) → IsWide moment → IsGivenKind k → AllByRecursion IsGivenSight (sights_of moment k)
sights_given moment (kinds.Frame octets) wide given = frame_shown {A = Unit {0}} moment octets (frame_at octets) refl wide given
sights_given _ _ _ _ = tt

-- ---- what is told

-- the numbers of what is told of a sender, or of a stream
abbrev pub IsSmallFinding : Key → Finding → Type 0
IsSmallFinding (sender a r s) (Silent since lasted) = IsWide since × IsWide lasted
IsSmallFinding (sender a r s) (StatesMissing n) = IsWide n.from × IsWide n.to
IsSmallFinding (sender a r s) (FramesMissing state n) = IsWide state × IsWide n.from × IsWide n.to
IsSmallFinding (sender a r s) (Late p) = IsWide p.state × IsWide p.sequence
IsSmallFinding (sender a r s) (Restarted p) = IsWide p.state × IsWide p.sequence
IsSmallFinding (stream a o i) (SamplesMissing from missing) = IsWide from × IsWide missing
IsSmallFinding (stream a o i) (SampleRepeated count) = IsWide count
IsSmallFinding (stream a o i) (SampleLate count) = IsWide count
IsSmallFinding (stream a o i) (OutOfRange count) = IsWide count
IsSmallFinding (stream a o i) (Synch from to) = IsWide from × IsWide to
IsSmallFinding _ _ = ⊥

abbrev pub AreSmall : Key → List Finding → Type 0
AreSmall key findings = AllByRecursion (IsSmallFinding key) findings

-- a moment that is not behind another
abbrev pub IsUpTo : ℕ → Option ℕ → Type 0
IsUpTo end since = IfSome since (λ n. n ≤ end)

-- numbers of a span
abbrev IsSmallSpan : Option Span → Type 0
IsSmallSpan o = IfSome o (λ n. IsWide n.from × IsWide n.to)

over_upto : (deadline moment : ℕ) → IsUpTo moment (over_at deadline moment)
over_upto deadline moment = elim (cases_lt moment deadline) [ inl lt ↦ rw (lt-leb deadline moment lt) tt | inr le ↦ rw (le-leb deadline moment le) le ]

span_small : (from until : ℕ) → IsWide until → IsSmallSpan (span from until)
span_small from until wide = elim (cases_lt from until) [ inl lt ↦ rw (lt-ltb from until lt) (omega arith, omega arith) | inr le ↦ rw (le-ltb from until le) tt ]

module _ (app_id : ℕ) (reference : List ℕ) (simulation : Bool) where
  silence_small : (since : Option ℕ) (moment : ℕ) → IsUpTo moment since → IsWide moment → AreSmall (sender app_id reference simulation) (silence since moment)
  silence_small None moment upto wide = tt
  silence_small (Some since) moment upto wide = ((omega (arith, upto), omega arith), tt)

  states_small : (o : Option Span) → IsSmallSpan o → AreSmall (sender app_id reference simulation) (states_told o)
  states_small None small = tt
  states_small (Some n) small = (small, tt)

  frames_small : (state : ℕ) (o : Option Span) → IsWide state → IsSmallSpan o → AreSmall (sender app_id reference simulation) (frames_told state o)
  frames_small state None wide small = tt
  frames_small state (Some n) wide small = ((wide, small.0, small.1), tt)

  standing_small : (silent : Bool) (a : Arrival) (s : Standing) → IsWide a.pair.state → IsWide a.pair.sequence → AreSmall (sender app_id reference simulation) (standing_told silent a s)
  standing_small silent a standing.First state sequence = tt
  standing_small silent a (standing.Newer newest) state sequence =
      all_both (IsSmallFinding (sender app_id reference simulation)) (states_told (span (newest.state + 1) a.pair.state)) (frames_told a.pair.state (span (sequences_from newest a.pair) a.pair.sequence))
      (states_small (span (newest.state + 1) a.pair.state) (span_small (newest.state + 1) a.pair.state state))
      (frames_small a.pair.state (span (sequences_from newest a.pair) a.pair.sequence) state (span_small (sequences_from newest a.pair) a.pair.sequence sequence))
  standing_small silent a standing.Same state sequence = tt
  standing_small true a standing.Below state sequence = ((state, sequence), tt)
  standing_small false a standing.Below state sequence = ((state, sequence), tt)

  -- what is told of a frame
  pub frame_small : (known : Option Sender) (a : Arrival) → IsWide a.moment → IsWide a.pair.state → IsWide a.pair.sequence
      → AreSmall (sender app_id reference simulation) (frame_findings a (told_after known a))
  frame_small None a wide state sequence = tt
  frame_small (Some s) a wide state sequence =
      all_both (IsSmallFinding (sender app_id reference simulation)) (silence (over_at s.deadline a.moment) a.moment) (standing_told (was_silent (told_after (Some s) a)) a (standing_by s.newest a.pair))
      (silence_small (over_at s.deadline a.moment) a.moment (over_upto s.deadline a.moment) wide)
      (standing_small (was_silent (told_after (Some s) a)) a (standing_by s.newest a.pair) state sequence)

-- ---- samples

abbrev IsSmallCame : Came → Type 0
IsSmallCame (came.Missing n) = IsWide n
IsSmallCame _ = Unit {0}

abbrev IsSmallAdvance : Advance → Type 0
IsSmallAdvance (Ahead n) = IsWide n
IsSmallAdvance (Back n) = Unit {0}

-- capture times of 64 bits are so near that no more samples are missing than 64 bits say
nearest_small : (period elapsed rest : ℕ) → period ≤ 65536 → IsWide elapsed → IsWide (nearest_to period elapsed rest)
nearest_small period elapsed rest few wide =
    let samples : elapsed * period ≤ 2 ^ 64 * 65536 = mul-le elapsed period (2 ^ 64) 65536 (omega arith) few in
    let top : most period elapsed < 2 ^ 64 = omega arith in
    omega arith

advance_small : (period n : ℕ) → IsWide n → IsSmallAdvance (advance_of period n)
advance_small period n wide = elim (cases_lt period n) [ inl lt ↦ rw (lt-ltb period n lt) (omega arith) | inr le ↦ rw (le-ltb period n le) tt ]

by_small : (run front : ℕ) (a : Advance) → IsSmallAdvance a → IsSmallCame (by_advance run front a)
by_small run front (Ahead n) small = cond_both (n == 1) _ _ IsSmallCame (λ next. tt) (λ more. omega arith)
by_small run front (Back n) small = cond_both (n == 0 || nat_lt n run) _ _ IsSmallCame (λ again. tt) (λ late. cond_both (nat_lt front n) _ _ IsSmallCame (λ before. tt) (λ behind. tt))

came_small : (period : ℕ) (newest : Option Newest) (s : Sample) → period ≤ 65536 → IsWide s.moment → IsSmallCame (came_after period newest s)
came_small period None s few wide = cond_both (nat_lt s.count period) _ _ IsSmallCame (λ below. tt) (λ above. tt)
came_small period (Some n) s few wide =
    let elapsed = s.moment - n.moment in
    let rest = way_round period n.count s.count in
    cond_both (nat_lt s.count period) _ _ IsSmallCame
    (λ below. by_small n.run ((n.begun + n.run) - 1) (advance_by period elapsed n.count s.count) (advance_small period (nearest_to period elapsed rest) (nearest_small period elapsed rest few (omega (arith, wide))))) (λ above. tt)

told_small : (period app_id : ℕ) (source id : List ℕ) (count : ℕ) (c : Came) → 0 < period → period ≤ 65536 → IsWide count → IsSmallCame c → AreSmall (stream app_id source id) (came_told period count c)
told_small period app_id source id count came.First some few wide small = tt
told_small period app_id source id count came.Next some few wide small = tt
told_small period app_id source id count (came.Missing n) some few wide small =
    let first : first_missing period count n < period = mod-lt (count + (period - n % period)) some in ((omega arith, small), tt)
told_small period app_id source id count came.BeforeFirst some few wide small = tt
told_small _ _ _ _ _ _ _ _ wide _ = (wide, tt)

count_small : (period : Option ℕ) (app_id : ℕ) (source id : List ℕ) (count : ℕ) (c : Option Came) → IsPeriodOf period → IsWide count → IfSome c IsSmallCame → AreSmall (stream app_id source id) (count_told period count c)
count_small (Some period) app_id source id count (Some c) is wide small = let in_range = is period refl in told_small period app_id source id count c in_range.0 in_range.1 wide small
count_small _ _ _ _ _ _ _ _ _ = tt

synch_small : (app_id : ℕ) (source id : List ℕ) (before : Option ℕ) (synch : ℕ) → IfSome before IsWide → IsWide synch → AreSmall (stream app_id source id) (synch_told before synch)
synch_small app_id source id None synch wide small = tt
synch_small app_id source id (Some before) synch wide small = elim (before == synch) as (λ (b : Bool). AreSmall (stream app_id source id) (if b then [] else Synch before synch ∷ [])) [ true ↦ tt | false ↦ ((wide, small), tt) ]

-- ---- what is kept

abbrev pub AreSmallSenderTotals : SenderTotals → Type 0
AreSmallSenderTotals t = IsWide t.frames × IsWide t.states_missing × IsWide t.frames_missing × IsWide t.late × IsWide t.repeated × IsWide t.restarted × IsWide t.silent × IsWide t.longest

abbrev pub AreSmallStreamTotals : StreamTotals → Type 0
AreSmallStreamTotals t = IsWide t.samples × IsWide t.missing × IsWide t.late × IsWide t.repeated × IsWide t.out_of_range × IsWide t.outages × IsWide t.longest

abbrev pub IsSmallProgress : Progress → Type 0
IsSmallProgress (frames t) = AreSmallSenderTotals t.totals
IsSmallProgress (samples u synch) = (u.stream.period ≤ 65536) × AreSmallStreamTotals u.totals × IsWide synch
IsSmallProgress (counted n synch) = IsWide n × IsWide synch

pub record IsSmallTracked (x : Tracked) : Type 0 where
  pub key : IsGivenKey x.key
  pub progress : IsSmallProgress x.progress

kept_wide : (n : ℕ) → IsWide (kept n)
kept_wide n = omega arith

sums_small : (old : SenderTotals) (a : Arrival) (t : Told) (set_at : ℕ) → IsWide old.longest → IsWide a.moment → AreSmallSenderTotals (totals_after old a t set_at)
sums_small old a t set_at longest wide =
    let most : IsWide (max old.longest (if sets t then a.moment - set_at else 0)) = cond_both (sets t) _ _ (λ n. IsWide (max old.longest n)) (λ set. omega arith) (λ unset. omega arith) in
    (kept_wide _, kept_wide _, kept_wide _, kept_wide _, kept_wide _, kept_wide _, kept_wide _, most)

stream_sums_small : (old : StreamTotals) (c : Came) → AreSmallStreamTotals (stream_totals_after old c)
stream_sums_small old c = (kept_wide _, kept_wide _, kept_wide _, kept_wide _, kept_wide _, kept_wide _, kept_wide _)

-- a total at the end, where the lifetime was over then too or was not
pub end_small : (since : Option ℕ) (t : SenderTotals) → AreSmallSenderTotals t → AreSmallSenderTotals (with_end since t)
end_small None t small = small
end_small (Some since) t small = (small.0, small.1, small.2, small.3, small.4, small.5, kept_wide _, small.7)

first_small : (period : Option ℕ) (moment : ℕ) (shown : Shown) (key : Key) → IsPeriodOf period → IsWide moment → IsGivenShown key shown → IsSmallProgress (first_progress period moment shown)
first_small period moment (frame p lifetime) key is wide given = (omega arith, omega arith, omega arith, omega arith, omega arith, omega arith, omega arith, omega arith)
first_small None moment (sample count synch) (stream a o i) is wide given = (omega arith, given.1)
first_small (Some period) moment (sample count synch) (stream a o i) is wide given = ((is period refl).1, stream_sums_small (fresh_tally period).totals _, given.1)
first_small _ _ (sample _ _) (sender _ _ _) _ _ given = absurd given

more_small : (moment : ℕ) (shown : Shown) (key : Key) (known : Progress) → IsWide moment → IsGivenShown key shown → IsSmallProgress known → IsSmallProgress (more_progress moment shown known)
more_small moment (frame p lifetime) key (frames t) wide given small =
    let a : Arrival = record { pair = p; moment = moment; lifetime = lifetime } in
    sums_small t.totals a (told_after (Some t.sender) a) t.set_at small.7 wide
more_small moment (sample count synch) (sender a r s) known wide given small = absurd given
more_small moment (sample count synch) (stream a o i) (samples u z) wide given small = (small.0, stream_sums_small u.totals _, given.1)
more_small moment (sample count synch) (stream a o i) (counted n z) wide given small = (kept_wide (n + 1), given.1)
more_small _ _ _ _ _ _ small = small

-- what is known of a key among what is kept
pub known_small : (xs : List Tracked) (key : Key) → AllByRecursion IsSmallTracked xs → IfSome (known_of xs key) IsSmallProgress
known_small [] key small = tt
known_small (x ∷ xs) key small = elim (same_key x.key key) as (λ (b : Bool). IfSome (if b then Some x.progress else known_of xs key) IsSmallProgress) [ true ↦ small.0.progress | false ↦ known_small xs key small.1 ]

with_small : (xs : List Tracked) (key : Key) (first : Progress) (more : Progress → Progress) → AllByRecursion IsSmallTracked xs → IsGivenKey key → IsSmallProgress first
    → ((known : Progress) → IsSmallProgress known → IsSmallProgress (more known)) → AllByRecursion IsSmallTracked (with_progress xs key first more)
with_small [] key first more small given begins goes = (record { key = given; progress = begins }, tt)
with_small (x ∷ xs) key first more small given begins goes =
    cond_both (same_key x.key key) _ _ (AllByRecursion IsSmallTracked) (λ same. (record { key = small.0.key; progress = goes x.progress small.0.progress }, small.1)) (λ other. (small.0, with_small xs key first more small.1 given begins goes))

-- after one sight more
pub track_small : (periods : List Period) (xs : List Tracked) (s : Sight) → ArePeriods periods → AllByRecursion IsSmallTracked xs → IsGivenSight s → AllByRecursion IsSmallTracked (track periods xs s)
track_small periods xs s are small given =
    with_small xs s.key (first_progress (period_for periods s.key) s.moment s.shown) (more_progress s.moment s.shown) small given.key (first_small (period_for periods s.key) s.moment s.shown s.key (in_range periods s.key are) given.moment given.shown)
    (λ known h. more_small s.moment s.shown s.key known given.moment given.shown h)

-- ---- what a sight tells by what is kept

came_in_small : (period : Option ℕ) (known : Option Progress) (s : Sample) → IsPeriodOf period → IsWide s.moment → IfSome known IsSmallProgress → IfSome (came_in period known s) IsSmallCame
came_in_small (Some period) None s is wide small = came_small period None s (is period refl).1 wide
came_in_small period (Some (samples u z)) s is wide small = came_small u.stream.period u.stream.newest s small.0 wide
came_in_small _ _ _ _ _ _ = tt

synch_by_small : (known : Option Progress) → IfSome known IsSmallProgress → IfSome (synch_of known) IsWide
synch_by_small (Some (samples u z)) small = small.2
synch_by_small (Some (counted n z)) small = small.1
synch_by_small _ _ = tt

pub findings_small : (period : Option ℕ) (known : Option Progress) (key : Key) (moment : ℕ) (shown : Shown) → IsPeriodOf period → IfSome known IsSmallProgress → IsWide moment → IsGivenShown key shown
    → AreSmall key (findings_by period known moment shown)
findings_small period known (sender a r s) moment (frame p lifetime) is small wide given = frame_small a r s (sender_of known) (record { pair = p; moment = moment; lifetime = lifetime }) wide given.0 given.1
findings_small period known (stream a o i) moment (sample count synch) is small wide given =
    let s : Sample = record { count = count; moment = moment } in
    all_both (IsSmallFinding (stream a o i)) (count_told period count (came_in period known s)) (synch_told (synch_of known) synch)
    (count_small period a o i count (came_in period known s) is given.0 (came_in_small period known s is wide small))
    (synch_small a o i (synch_of known) synch (synch_by_small known small) given.1)
findings_small _ _ _ _ _ _ _ _ given = absurd given

-- ---- what has not come back

stale_upto : (newest : Option Newest) (end : ℕ) → IsUpTo end (stale_newest newest end)
stale_upto None end = tt
stale_upto (Some n) end = elim (cases_lt end (n.moment + 1000000)) [ inl lt ↦ rw (lt-leb (n.moment + 1000000) end lt) tt | inr le ↦ rw (le-leb (n.moment + 1000000) end le) (omega arith) ]

-- it is since a moment up to the end
pub silent_upto : (end : ℕ) (p : Progress) → IsUpTo end (silent_since end p)
silent_upto end (frames t) = over_upto t.sender.deadline end
silent_upto end (samples u z) = stale_upto u.stream.newest end
silent_upto end (counted n z) = tt

-- ---- the lines of `losses`, as objects and as text

-- of which sender or stream, and what follows
abbrev key_then : (key : Key) → IsGivenKey key → List (Named 0) → List (Named 0)
key_then (sender app_id reference simulation) given more =
    octets_field 0 (codes "appid") (two_octets app_id) refl (two_are_octets app_id given.0)
    ∷ text_field 0 (codes "gocbRef") reference refl given.1
    ∷ boolean_field 0 (codes "simulation") simulation refl
    ∷ more
key_then (stream app_id source id) given more =
    octets_field 0 (codes "appid") (two_octets app_id) refl (two_are_octets app_id given.0)
    ∷ octets_field 0 (codes "source") source refl given.1
    ∷ text_field 0 (codes "svID") id refl given.2
    ∷ more

abbrev silence_named : (since lasted : ℕ) → IsWide since → IsWide lasted → List (Named 0)
silence_named since lasted wide long =
    decimal_field 0 (codes "since") since refl wide
    ∷ by 0 (codes "sinceTime") (date_value since) (string_or_null (date_text since)) refl (date_is 0 since)
    ∷ decimal_field 0 (codes "for") lasted refl long
    ∷ []

abbrev span_named : (from to : ℕ) → IsWide from → IsWide to → List (Named 0)
span_named from to wide wide_too = decimal_field 0 (codes "from") from refl wide ∷ decimal_field 0 (codes "to") to refl wide_too ∷ []

abbrev pair_named : (p : Pair) → IsWide p.state × IsWide p.sequence → List (Named 0)
pair_named p small = decimal_field 0 (codes "stNum") p.state refl small.0 ∷ decimal_field 0 (codes "sqNum") p.sequence refl small.1 ∷ []

abbrev count_named : (count : ℕ) → IsWide count → List (Named 0)
count_named count small = decimal_field 0 (codes "smpCnt") count refl small ∷ []

-- ---- what is told of an event

pub say_finding : (c : Counted) (n moment : ℕ) (key : Key) (f : Finding) → IsWide n → IsWide moment → IsGivenKey key → IsSmallFinding key f → Say (finding_object c n moment key f) (finding_line n key f)
say_finding c n moment (sender a r s) (Silent since lasted) small past given few =
    say_event 0 c n small (moment_then 0 moment (codes "silent") past (by_test (codes "silent") refl) (key_then (sender a r s) given (silence_named since lasted few.0 few.1))) _ (omega arith) refl refl refl
say_finding c n moment (sender a r s) (StatesMissing m) small past given few =
    say_event 0 c n small (moment_then 0 moment (codes "states-missing") past (by_test (codes "states-missing") refl) (key_then (sender a r s) given (span_named m.from m.to few.0 few.1))) _ (omega arith) refl refl refl
say_finding c n moment (sender a r s) (FramesMissing state m) small past given few =
    say_event 0 c n small
    (moment_then 0 moment (codes "frames-missing") past (by_test (codes "frames-missing") refl) (key_then (sender a r s) given (decimal_field 0 (codes "stNum") state refl few.0 ∷ span_named m.from m.to few.1 few.2))) _ (omega arith) refl refl refl
say_finding c n moment (sender a r s) (Late p) small past given few =
    say_event 0 c n small (moment_then 0 moment (codes "late") past (by_test (codes "late") refl) (key_then (sender a r s) given (pair_named p few))) _ (omega arith) refl refl refl
say_finding c n moment (sender a r s) (Restarted p) small past given few =
    say_event 0 c n small (moment_then 0 moment (codes "restarted") past (by_test (codes "restarted") refl) (key_then (sender a r s) given (pair_named p few))) _ (omega arith) refl refl refl
say_finding c n moment (stream a o i) (SamplesMissing from missing) small past given few =
    say_event 0 c n small
    (moment_then 0 moment (codes "samples-missing") past (by_test (codes "samples-missing") refl)
    (key_then (stream a o i) given (decimal_field 0 (codes "from") from refl few.0 ∷ decimal_field 0 (codes "missing") missing refl few.1 ∷ []))) _ (omega arith) refl refl refl
say_finding c n moment (stream a o i) (SampleRepeated count) small past given few =
    say_event 0 c n small (moment_then 0 moment (codes "sample-repeated") past (by_test (codes "sample-repeated") refl) (key_then (stream a o i) given (count_named count few))) _ (omega arith) refl refl refl
say_finding c n moment (stream a o i) (SampleLate count) small past given few =
    say_event 0 c n small (moment_then 0 moment (codes "sample-late") past (by_test (codes "sample-late") refl) (key_then (stream a o i) given (count_named count few))) _ (omega arith) refl refl refl
say_finding c n moment (stream a o i) (OutOfRange count) small past given few =
    say_event 0 c n small (moment_then 0 moment (codes "count-out-of-range") past (by_test (codes "count-out-of-range") refl) (key_then (stream a o i) given (count_named count few))) _ (omega arith) refl refl refl
say_finding c n moment (stream a o i) (Synch from to) small past given few =
    say_event 0 c n small (moment_then 0 moment (codes "synch") past (by_test (codes "synch") refl) (key_then (stream a o i) given (span_named from to few.0 few.1))) _ (omega arith) refl refl refl
say_finding _ _ _ _ _ _ _ _ few = absurd few

-- that time goes back, where it does
pub say_back : (c : Counted) (n moment : ℕ) (back : Option ℕ) → IsWide n → IsWide moment → IfSome back IsWide → Say (back_lines (forms.Object c) n moment back) (back_lines forms.Text n moment back)
say_back c n moment None small past given = say_none
say_back c n moment (Some by) small past given =
    say_event 0 c n small (moment_then 0 moment (codes "time-back") past (by_test (codes "time-back") refl) (decimal_field 0 (codes "by") by refl given ∷ [])) _ (omega arith) refl refl refl

-- ---- what is written at the end

-- the line of no event, by its kind and the fields behind it
abbrev kind_field : (kind : List ℕ) → are_plain kind ≡ true → Named 0
kind_field kind plain = word_field 0 (codes "kind") kind refl (by_test kind plain)

say_closing : (kind : List ℕ) (plain : are_plain kind ≡ true) (rest : List (Named 0)) (line : List ℕ) → all_differ (codes "kind" ∷ names_of rest) ≡ true → line_said (object (members_of (kind_field kind plain ∷ rest))) ≡ line
    → Say (object_line (fields_of (kind_field kind plain ∷ rest))) line
say_closing kind plain rest line differ says = say_one (object (members_of (kind_field kind plain ∷ rest))) _ line (object_line_is 0 (kind_field kind plain) rest (omega arith) differ) says

say_end_silent : (key : Key) (since lasted : ℕ) → IsGivenKey key → IsWide since → IsWide lasted → Say (end_silent_object key since lasted) (end_silent_line key since lasted)
say_end_silent (sender a r s) since lasted given wide long = say_closing (codes "end-silent") refl (key_then (sender a r s) given (silence_named since lasted wide long)) _ refl refl
say_end_silent (stream a o i) since lasted given wide long = say_closing (codes "end-silent") refl (key_then (stream a o i) given (silence_named since lasted wide long)) _ refl refl

abbrev sender_totals_named : (t : SenderTotals) → AreSmallSenderTotals t → List (Named 0)
sender_totals_named t small =
    decimal_field 0 (codes "frames") t.frames refl small.0
    ∷ decimal_field 0 (codes "statesMissing") t.states_missing refl small.1
    ∷ decimal_field 0 (codes "framesMissing") t.frames_missing refl small.2
    ∷ decimal_field 0 (codes "late") t.late refl small.3
    ∷ decimal_field 0 (codes "repeated") t.repeated refl small.4
    ∷ decimal_field 0 (codes "restarted") t.restarted refl small.5
    ∷ decimal_field 0 (codes "silent") t.silent refl small.6
    ∷ decimal_field 0 (codes "longest") t.longest refl small.7
    ∷ []

say_sender_total : (key : Key) (t : SenderTotals) → IsGivenKey key → AreSmallSenderTotals t → Say (sender_total_object key t) (sender_total_line key t)
say_sender_total (sender a r s) t given small = say_closing (codes "total-goose") refl (key_then (sender a r s) given (sender_totals_named t small)) _ refl refl
say_sender_total (stream a o i) t given small = say_closing (codes "total-goose") refl (key_then (stream a o i) given (sender_totals_named t small)) _ refl refl

abbrev stream_totals_named : (t : StreamTotals) → AreSmallStreamTotals t → List (Named 0)
stream_totals_named t small =
    decimal_field 0 (codes "samples") t.samples refl small.0
    ∷ decimal_field 0 (codes "missing") t.missing refl small.1
    ∷ decimal_field 0 (codes "late") t.late refl small.2
    ∷ decimal_field 0 (codes "repeated") t.repeated refl small.3
    ∷ decimal_field 0 (codes "outOfRange") t.out_of_range refl small.4
    ∷ decimal_field 0 (codes "outages") t.outages refl small.5
    ∷ decimal_field 0 (codes "longest") t.longest refl small.6
    ∷ []

say_stream_total : (key : Key) (t : StreamTotals) → IsGivenKey key → AreSmallStreamTotals t → Say (stream_total_object key t) (stream_total_line key t)
say_stream_total (sender a r s) t given small = say_closing (codes "total-sv") refl (key_then (sender a r s) given (stream_totals_named t small)) _ refl refl
say_stream_total (stream a o i) t given small = say_closing (codes "total-sv") refl (key_then (stream a o i) given (stream_totals_named t small)) _ refl refl

say_samples : (key : Key) (count : ℕ) → IsGivenKey key → IsWide count → Say (samples_object key count) (samples_line key count)
say_samples (sender a r s) count given small = say_closing (codes "total-sv") refl (key_then (sender a r s) given (decimal_field 0 (codes "samples") count refl small ∷ [])) _ refl refl
say_samples (stream a o i) count given small = say_closing (codes "total-sv") refl (key_then (stream a o i) given (decimal_field 0 (codes "samples") count refl small ∷ [])) _ refl refl

-- a piece says the same as an object and as a line, and is a finding in both
abbrev pub SayPiece : ItemText → ItemText → Type 0
SayPiece o l = Say o.text l.text × (o.is_finding ≡ l.is_finding)

-- what has not come back
pub say_silence : (c : Counted) (key : Key) (end : ℕ) (since : Option ℕ) → IsGivenKey key → IsWide end → IsUpTo end since → SayPiece (end_silent (forms.Object c) key end since) (end_silent forms.Text key end since)
say_silence c key end None given wide upto = (say_none, refl)
say_silence c key end (Some since) given wide upto = (say_end_silent key since (end - since) given (omega (arith, upto)) (omega arith), refl)

-- a total
pub say_total : (c : Counted) (key : Key) (end : ℕ) (p : Progress) → IsGivenKey key → IsSmallProgress p → SayPiece (total_by (forms.Object c) end key p) (total_by forms.Text end key p)
say_total c key end (frames t) given small =
    let since = over_at t.sender.deadline end in (say_sender_total key (with_end since t.totals) given (end_small since t.totals small), refl)
say_total c key end (samples u z) given small = (say_stream_total key u.totals given small.1, refl)
say_total c key end (counted n z) given small = (say_samples key n given small.0, refl)

-- ---- what `losses` writes of an input, as objects and as text

findings_say : (c : Counted) (n moment : ℕ) (key : Key) (fs : List Finding) → IsWide n → IsWide moment → IsGivenKey key → AreSmall key fs
    → Say (flat_map (told_line (forms.Object c) n moment key) fs) (flat_map (told_line forms.Text n moment key) fs)
findings_say c n moment key [] wide past given small = say_none
findings_say c n moment key (f ∷ fs) wide past given small = say_both _ _ _ _ (say_finding c n moment key f wide past given small.0) (findings_say c n moment key fs wide past given small.1)

sights_say : (c : Counted) (n moment : ℕ) (periods : List Period) (xs : List Tracked) (seen : List Sight) → ArePeriods periods → IsWide n → IsWide moment → AllByRecursion IsSmallTracked xs → AllByRecursion IsGivenSight seen
    → Say (sight_lines (forms.Object c) n moment seen (findings_all periods xs seen)) (sight_lines forms.Text n moment seen (findings_all periods xs seen))
sights_say c n moment periods xs [] is wide past small given = say_none
sights_say c n moment periods xs (s ∷ seen) is wide past small given =
    let told = findings_small (period_for periods s.key) (known_of xs s.key) s.key s.moment s.shown (in_range periods s.key is) (known_small xs s.key small) given.0.moment given.0.shown in
    say_both _ _ _ _ (findings_say c n moment s.key (findings_by (period_for periods s.key) (known_of xs s.key) s.moment s.shown) wide past given.0.key told)
    (sights_say c n moment periods (track periods xs s) seen is wide past (track_small periods xs s is small given.0) given.1)

all_track_small : (periods : List Period) (xs : List Tracked) (seen : List Sight) → ArePeriods periods → AllByRecursion IsSmallTracked xs → AllByRecursion IsGivenSight seen → AllByRecursion IsSmallTracked (track_all periods xs seen)
all_track_small periods xs [] is small given = small
all_track_small periods xs (s ∷ seen) is small given = all_track_small periods (track periods xs s) seen is (track_small periods xs s is small given.0) given.1

-- ---- events

-- by how much time goes back is a number of 64 bits
back_small : (k : Kept) (moment : ℕ) → IsWide k.moment → IfSome (back_by k moment) IsWide
back_small k moment wide = elim (is_far_below k.moment moment) as (λ (b : Bool). IfSome (back_where b k.is_back (k.moment - moment)) IsWide) [
  | false ↦ tt
  | true ↦ elim k.is_back as (λ (w : Bool). IfSome (back_where true w (k.moment - moment)) IsWide) [ true ↦ tt | false ↦ omega arith ]
]

-- a moment of 64 bits, and what is tracked
record IsSmallKept (k : Kept) : Type 0 where
  moment : IsWide k.moment
  each : AllByRecursion IsSmallTracked k.tracked

none_small : IsSmallKept kept_none
none_small = record { moment = omega arith; each = tt }

event_sights : {A : Type 0} (k : Kept) (e : ℕ × Event A) → IsSmallKept k → IsGiven e → AllByRecursion IsGivenSight (sights_by k e.1)
event_sights k e small given = sights_given (max k.moment e.1.moment) e.1.kind (omega (arith, small.moment, given.moment)) given.kind

keep_small : {A : Type 0} (periods : List Period) (k : Kept) (e : ℕ × Event A) → ArePeriods periods → IsSmallKept k → IsGiven e → IsSmallKept (keep periods k e.1)
keep_small periods k e is small given = record { moment = omega (arith, small.moment, given.moment); each = all_track_small periods k.tracked (sights_by k e.1) is small.each (event_sights k e small given) }

all_kept_small : {A : Type 0} (periods : List Period) (k : Kept) (items : List (ℕ × Event A)) → ArePeriods periods → IsSmallKept k → AllByRecursion IsGiven items → IsSmallKept (keep_all periods k items)
all_kept_small periods k [] is small given = small
all_kept_small periods k (e ∷ items) is small given = all_kept_small periods (keep periods k e.1) items is (keep_small periods k e is small given.0) given.1

-- pieces say the same as objects and as lines, each in its place
abbrev AreSaid : List ItemText → List ItemText → Type 0
AreSaid [] [] = Unit {0}
AreSaid (o ∷ os) (l ∷ ls) = SayPiece o l × AreSaid os ls
AreSaid _ _ = ⊥

both_said : (os ps ls ms : List ItemText) → AreSaid os ls → AreSaid ps ms → AreSaid (os ++ ps) (ls ++ ms)
both_said [] ps [] ms a b = b
both_said (o ∷ os) ps (l ∷ ls) ms a b = (a.0, both_said os ps ls ms a.1 b)
both_said _ _ _ _ a _ = absurd a

abbrev piece_text : ℕ × ItemText → ItemText
piece_text w = w.1

-- the pieces of events, and those behind them
events_then : {A : Type 0} (c : Counted) (periods : List Period) (k : Kept) (items : List (ℕ × Event A)) (os ls : List (ℕ × ItemText)) → ArePeriods periods → IsSmallKept k → AllByRecursion IsGiven items
    → AreSaid (map piece_text os) (map piece_text ls) → AreSaid (map piece_text (pieces_by periods (Lines (forms.Object c)) k items ++ os)) (map piece_text (pieces_by periods (Lines forms.Text) k items ++ ls))
events_then c periods k [] os ls is small given rest = rest
events_then c periods k (e ∷ items) os ls is small given rest = (
  (
    say_both _ _ _ _ (say_back c e.0 e.1.moment (back_by k e.1.moment) given.0.number given.0.moment (back_small k e.1.moment small.moment))
        (sights_say c e.0 e.1.moment periods k.tracked (sights_by k e.1) is given.0.number given.0.moment small.each (event_sights k e small given.0)),
    refl,
  ),
  events_then c periods (keep periods k e.1) items os ls is (keep_small periods k e is small given.0) given.1 rest,
)

-- ---- the end of the input

silences_said : (c : Counted) (end : ℕ) (xs : List Tracked) → IsWide end → AllByRecursion IsSmallTracked xs
    → AreSaid (map (λ x. end_silent (forms.Object c) x.key end (silent_since end x.progress)) xs) (map (λ x. end_silent forms.Text x.key end (silent_since end x.progress)) xs)
silences_said c end [] wide small = tt
silences_said c end (x ∷ xs) wide small = (say_silence c x.key end (silent_since end x.progress) small.0.key wide (silent_upto end x.progress), silences_said c end xs wide small.1)

totals_said : (c : Counted) (end : ℕ) (xs : List Tracked) → AllByRecursion IsSmallTracked xs → AreSaid (map (λ x. total_by (forms.Object c) end x.key x.progress) xs) (map (λ x. total_by forms.Text end x.key x.progress) xs)
totals_said c end [] small = tt
totals_said c end (x ∷ xs) small = (say_total c x.key end x.progress small.0.key small.0.progress, totals_said c end xs small.1)

lines_said : (c : Counted) (n : ℕ) (os ls : List ItemText) → AreSaid os ls
    → AreSaid (map piece_text (numbered_all n (map (closing_in (Lines (forms.Object c))) os))) (map piece_text (numbered_all n (map (closing_in (Lines forms.Text)) ls)))
lines_said c n [] [] said = tt
lines_said c n (o ∷ os) (l ∷ ls) said = (said.0, lines_said c n os ls said.1)
lines_said _ _ _ _ said = absurd said

closing_said : {F : Type 0} (c : Counted) (stop : Stop F) (n : ℕ) (k : Kept) → IsSmallKept k → AreSaid (map piece_text (closing_pieces (Lines (forms.Object c)) stop n k)) (map piece_text (closing_pieces (Lines forms.Text) stop n k))
closing_said c finished n k small =
    lines_said c n (closing_by (forms.Object c) k) (closing_by forms.Text k)
    (both_said (silences_by (forms.Object c) k) (totals_by (forms.Object c) k) (silences_by forms.Text k) (totals_by forms.Text k) (silences_said c k.moment k.tracked small.moment small.each) (totals_said c k.moment k.tracked small.each))
closing_said _ _ _ _ _ = tt

-- ---- the input

-- what is computed of it
computed_said : {A F : Type 0} (c : Counted) (periods : List Period) (said : Numbered (Event A) F) → ArePeriods periods → AllByRecursion IsGiven said.items
    → AreSaid (written_of (pieces_of periods (Lines (forms.Object c)) 0 said)) (written_of (pieces_of periods (Lines forms.Text) 0 said))
computed_said c periods said is given =
    let end = keep_all periods kept_none said.items in
    events_then c periods kept_none said.items (closing_pieces (Lines (forms.Object c)) said.stop 0 end) (closing_pieces (Lines forms.Text) said.stop 0 end) is none_small given
    (closing_said c said.stop 0 end (all_kept_small periods kept_none said.items is none_small given))

-- what is defined is that
defined_so : {A F : Type 0} (periods : List Period) (form : Form) (said : Numbered (Event A) F) (pieces : Numbered ItemText F) → ArePeriods periods → AreLosses periods (Lines form) said pieces → written_of (pieces_of periods (Lines form) 0 said) ≡ written_of pieces
defined_so periods form said pieces is are = (losses_once periods (Lines form) said (pieces_of periods (Lines form) 0 said) pieces (losses_are periods (Lines form) 0 said is) are).texts

-- each in its place, of which there are as many
said_sizes : (os ls : List ItemText) → AreSaid os ls → length os ≡ length ls
said_sizes [] [] said = refl
said_sizes (o ∷ os) (l ∷ ls) said = ap suc (said_sizes os ls said.1)
said_sizes _ _ said = absurd said

said_at : (os ls : List ItemText) → AreSaid os ls → (i : ℕ) (o l : ItemText) → slice_get os i ≡ Some o → slice_get ls i ≡ Some l → SayPiece o l
said_at [] ls said i o l p q = absurd (none-some o p)
said_at (x ∷ os) [] said i o l p q = absurd said
said_at (x ∷ os) (y ∷ ls) said zero o l p q = subst (λ w. SayPiece w l) (same_Some x o p) (subst (λ w. SayPiece x w) (same_Some y l q) said.0)
said_at (x ∷ os) (y ∷ ls) said (suc i) o l p q = said_at os ls said.1 i o l p q

each_json : (os ls : List ItemText) → AreSaid os ls → AllByRecursion (λ w. AreJsonLines w.text) os
each_json [] ls said = tt
each_json (o ∷ os) [] said = absurd said
each_json (o ∷ os) (l ∷ ls) said = (said.0.0.are_json, each_json os ls said.1)

texts_json : (os ls : List ItemText) → AreSaid os ls → TextsAreJson os
texts_json os ls said = record { each = each_json os ls said; together = (say_joined os ls (said_sizes os ls said) (λ i o l p q. (said_at os ls said i o l p q).0)).are_json }

texts_given : (os ls : List ItemText) → AreSaid os ls → GivesTexts back os ls
texts_given os ls said =
    let size = said_sizes os ls said in
    record {
      one_each = size;
      each = λ i o l p q. let both = said_at os ls said i o l p q in (both.0.in_front, both.1);
      together = ((say_joined os ls size (λ i o l p q. (said_at os ls said i o l p q).0)).in_front, found_joined os ls size (λ i o l p q. (said_at os ls said i o l p q).1));
    }

pub losses_is_json : {A F : Type 0} → LossesAreJson A F
losses_is_json periods c said pieces is given are =
    subst TextsAreJson (defined_so periods (forms.Object c) said pieces is are)
    (texts_json (written_of (pieces_of periods (Lines (forms.Object c)) 0 said)) (written_of (pieces_of periods (Lines forms.Text) 0 said)) (computed_said c periods said is given))

pub losses_says : {A F : Type 0} → GivesLosses A F back
losses_says periods c said objects lines is given are also =
    subst (λ os. GivesTexts back os (written_of lines)) (defined_so periods (forms.Object c) said objects is are)
    (subst (GivesTexts back (written_of (pieces_of periods (Lines (forms.Object c)) 0 said))) (defined_so periods forms.Text said lines is also)
    (texts_given (written_of (pieces_of periods (Lines (forms.Object c)) 0 said)) (written_of (pieces_of periods (Lines forms.Text) 0 said)) (computed_said c periods said is given)))

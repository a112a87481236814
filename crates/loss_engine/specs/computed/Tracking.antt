-- What is kept of senders and streams, sight by sight, and what each sight tells by it.
use Rattle.std.specs.Prelude.{◌≡◌, ℕ, ◌+◌, ◌-◌, ◌||◌, nat_le, max, Bool, true, false, not, is_some, List, [], ◌∷◌, ◌++◌, map, Option, Some, None, if◌then◌else◌}
use Rattle.std.specs.List.{list_any}
use Rattle.list_core.specs.declared.event.Event.{Event}
use Rattle.list_core.specs.Items.{Numbered}
use Rattle.list_core.specs.Lines.{Stop, finished, unfinished, faulty}
use Rattle.object_core.specs.declared.counted.Form.{Form}
use Rattle.engine_core.specs.declared.style.Style.{Style}
use Rattle.engine_core.specs.EngineText.{ItemText}
use Rattle.loss_core.specs.declared.sender.Arrival.{Arrival}
use Rattle.loss_core.specs.declared.sender.Sender.{Sender}
use Rattle.loss_core.specs.declared.sender_tally.SenderTally.{SenderTally}
use Rattle.loss_core.specs.declared.stream.Came.{Came}
use Rattle.loss_core.specs.declared.stream.Newest.{Newest}
use Rattle.loss_core.specs.declared.stream.Sample.{Sample}
use Rattle.loss_core.specs.Periods.{Period}
use Rattle.loss_core.specs.Sender.{over_at, told_after}
use Rattle.loss_core.specs.SenderTotals.{kept}
use Rattle.loss_core.specs.computed.SenderTotalSteps.{first_tally, tally_after}
use Rattle.loss_core.specs.computed.StreamSteps.{came_after}
use Rattle.loss_core.specs.computed.StreamTotalSteps.{StreamTallyState, fresh_tally, stream_tally_after}
use Rattle.loss_core.specs.declared.finding.Finding.{Finding}
use Rattle.loss_core.specs.Findings.{count_told, frame_findings, has_loss, synch_told}
use Rattle.loss_engine.specs.LossLine.{samples_line, sender_total_line, stream_total_line}
use Rattle.loss_engine.specs.LossObject.{samples_object, sender_total_object, stream_total_object}
use Rattle.loss_engine.specs.LossText.{back_lines, closing_in, end_silent, form_of, line_of, sight_lines, styled, with_end}
use Rattle.loss_engine.specs.Sights.{Key, Shown, Sight, frame, period_for, sample, same_key, sights_of}
use Rattle.loss_engine.specs.TimeBack.{is_far_below}

-- what is kept of a sender or a stream: the tally of its frames; that of its samples and the last smpSynch; or, where no period is given, how many samples came and the last smpSynch
pub data Progress : Type 0 where
  frames : SenderTally → Progress
  samples : StreamTallyState → ℕ → Progress
  counted : ℕ → ℕ → Progress

-- one that is tracked
pub record Tracked : Type 0 where
  pub key : Key
  pub progress : Progress

-- what is kept of a stream at its first sample
abbrev pub first_samples : Option ℕ → Sample → ℕ → Progress
first_samples None s synch = counted 1 synch
first_samples (Some period) s synch = samples (stream_tally_after (fresh_tally period) s) synch

-- what is kept of a key at its first sight
abbrev pub first_progress : Option ℕ → ℕ → Shown → Progress
first_progress period moment (frame p lifetime) = frames (first_tally (record { pair = p; moment = moment; lifetime = lifetime }))
first_progress period moment (sample count synch) = first_samples period (record { count = count; moment = moment }) synch

-- after one frame more
abbrev pub more_frames : Arrival → Progress → Progress
more_frames a (frames t) = frames (tally_after t a)
more_frames a (samples u z) = samples u z
more_frames a (counted n z) = counted n z

-- after one sample more, with this smpSynch
abbrev pub more_samples : Sample → ℕ → Progress → Progress
more_samples s synch (frames t) = frames t
more_samples s synch (samples u z) = samples (stream_tally_after u s) synch
more_samples s synch (counted n z) = counted (kept (n + 1)) synch

-- after one sight more
abbrev pub more_progress : ℕ → Shown → Progress → Progress
more_progress moment (frame p lifetime) known = more_frames (record { pair = p; moment = moment; lifetime = lifetime }) known
more_progress moment (sample count synch) known = more_samples (record { count = count; moment = moment }) synch known

-- what is kept of a key among what is tracked
abbrev pub known_of : List Tracked → Key → Option Progress
known_of [] key = None
known_of (x ∷ xs) key = if same_key x.key key then Some x.progress else known_of xs key

-- with this done to what is kept of a key, or with one more that begins so
abbrev pub with_progress : List Tracked → Key → Progress → (Progress → Progress) → List Tracked
with_progress [] key first more = record { key = key; progress = first } ∷ []
with_progress (x ∷ xs) key first more = if same_key x.key key then record { key = x.key; progress = more x.progress } ∷ xs else x ∷ with_progress xs key first more

-- what is tracked after one sight more
abbrev pub track : List Period → List Tracked → Sight → List Tracked
track periods xs s = with_progress xs s.key (first_progress (period_for periods s.key) s.moment s.shown) (more_progress s.moment s.shown)

-- after several
abbrev pub track_all : List Period → List Tracked → List Sight → List Tracked
track_all periods xs [] = xs
track_all periods xs (s ∷ seen) = track_all periods (track periods xs s) seen

-- the sender that is known
abbrev pub sender_of : Option Progress → Option Sender
sender_of None = None
sender_of (Some (frames t)) = Some t.sender
sender_of (Some (samples u z)) = None
sender_of (Some (counted n z)) = None

-- what the count of a stream's first sample tells, where the stream has a period
abbrev pub first_came : Option ℕ → Sample → Option Came
first_came None s = None
first_came (Some period) s = Some (came_after period None s)

-- what a sample's count tells by what is known of its stream, or, of a first one, by the period
abbrev pub came_in : Option ℕ → Option Progress → Sample → Option Came
came_in period None s = first_came period s
came_in period (Some (frames t)) s = None
came_in period (Some (samples u z)) s = Some (came_after u.stream.period u.stream.newest s)
came_in period (Some (counted n z)) s = None

-- the last smpSynch that is known
abbrev pub synch_of : Option Progress → Option ℕ
synch_of None = None
synch_of (Some (frames t)) = None
synch_of (Some (samples u z)) = Some z
synch_of (Some (counted n z)) = Some z

-- what is answered of a sample by what is kept of its stream: what its count tells, where that is judged, and the smpSynch before
abbrev pub TellsSample : Progress → Sample → Option Came × Option ℕ → Type 0
TellsSample (frames t) s answer = answer ≡ (None, None)
TellsSample (samples u z) s answer = answer ≡ (Some (came_after u.stream.period u.stream.newest s), Some z)
TellsSample (counted n z) s answer = answer ≡ (None, Some z)

-- what is answered of a sample by what is known of its stream: what its count tells, where a period is given, and the smpSynch before
abbrev pub CountsAs : Option ℕ → Option Progress → Sample → Option Came × Option ℕ → Type 0
CountsAs period known s answer = answer ≡ (came_in period known s, synch_of known)

-- what a sight tells by what is kept of its key
abbrev pub findings_by : Option ℕ → Option Progress → ℕ → Shown → List Finding
findings_by period known moment (frame p lifetime) =
    frame_findings (record { pair = p; moment = moment; lifetime = lifetime }) (told_after (sender_of known) (record { pair = p; moment = moment; lifetime = lifetime }))
findings_by period known moment (sample count synch) = count_told period count (came_in period known (record { count = count; moment = moment })) ++ synch_told (synch_of known) synch

-- what several sights tell, each by what is tracked before it
abbrev pub findings_all : List Period → List Tracked → List Sight → List (List Finding)
findings_all periods xs [] = []
findings_all periods xs (s ∷ seen) = findings_by (period_for periods s.key) (known_of xs s.key) s.moment s.shown ∷ findings_all periods (track periods xs s) seen

-- ---- events

-- what is kept of events: the greatest moment, whether the last of them was far back, and what is tracked
pub record Kept : Type 0 where
  pub moment : ℕ
  pub is_back : Bool
  pub tracked : List Tracked

-- before any event
abbrev pub kept_none : Kept
kept_none = record { moment = 0; is_back = false; tracked = [] }

-- by how much time goes back at an event, which is far back or not, by whether the one before was
abbrev pub back_where : Bool → Bool → ℕ → Option ℕ
back_where false was by = None
back_where true true by = None
back_where true false by = Some by

-- by how much time goes back, where it does, with an event of this moment
abbrev pub back_by : Kept → ℕ → Option ℕ
back_by k moment = back_where (is_far_below k.moment moment) k.is_back (k.moment - moment)

-- what is kept when a moment came, before what its event shows
abbrev pub passed : Kept → ℕ → Kept
passed k moment = record { moment = max k.moment moment; is_back = is_far_below k.moment moment; tracked = k.tracked }

-- what an event shows
abbrev pub sights_by : {A : Type 0} → Kept → Event A → List Sight
sights_by k e = sights_of (max k.moment e.moment) e.kind

-- what is kept after it
abbrev pub keep : {A : Type 0} → List Period → Kept → Event A → Kept
keep periods k e = record { moment = max k.moment e.moment; is_back = is_far_below k.moment e.moment; tracked = track_all periods k.tracked (sights_by k e) }

-- the piece that is written of it
abbrev pub piece_by : {A : Type 0} → List Period → Style → Kept → ℕ × Event A → ItemText
piece_by periods style k e = record {
  text = styled style e.1.moment (λ form. back_lines form e.0 e.1.moment (back_by k e.1.moment) ++ sight_lines form e.0 e.1.moment (sights_by k e.1) (findings_all periods k.tracked (sights_by k e.1)));
  is_finding = is_some (back_by k e.1.moment) || list_any has_loss (findings_all periods k.tracked (sights_by k e.1));
}

-- what is kept after several
abbrev pub keep_all : {A : Type 0} → List Period → Kept → List (ℕ × Event A) → Kept
keep_all periods k [] = k
keep_all periods k (e ∷ es) = keep_all periods (keep periods k e.1) es

-- the pieces that are written of several
abbrev pub pieces_by : {A : Type 0} → List Period → Style → Kept → List (ℕ × Event A) → List (ℕ × ItemText)
pieces_by periods style k [] = []
pieces_by periods style k (e ∷ es) = (e.0, piece_by periods style k e) ∷ pieces_by periods style (keep periods k e.1) es

-- ---- the end of the input

-- the moment of a newest sample, where that is a second or more before the end
abbrev pub stale_newest : Option Newest → ℕ → Option ℕ
stale_newest None end = None
stale_newest (Some n) end = if nat_le (n.moment + 1000000) end then Some n.moment else None

-- since when one has not come back
abbrev pub silent_since : ℕ → Progress → Option ℕ
silent_since end (frames t) = over_at t.sender.deadline end
silent_since end (samples u z) = stale_newest u.stream.newest end
silent_since end (counted n z) = None

-- the total of one
abbrev pub total_by : Form → ℕ → Key → Progress → ItemText
total_by form end key (frames t) = line_of form false (sender_total_line key (with_end (over_at t.sender.deadline end) t.totals)) (sender_total_object key (with_end (over_at t.sender.deadline end) t.totals))
total_by form end key (samples u z) = line_of form false (stream_total_line key u.totals) (stream_total_object key u.totals)
total_by form end key (counted n z) = line_of form false (samples_line key n) (samples_object key n)

-- what has not come back, of each
abbrev pub silences_by : Form → Kept → List ItemText
silences_by form k = map (λ x. end_silent form x.key k.moment (silent_since k.moment x.progress)) k.tracked

-- the total of each
abbrev pub totals_by : Form → Kept → List ItemText
totals_by form k = map (λ x. total_by form k.moment x.key x.progress) k.tracked

-- the lines at the end
abbrev pub closing_by : Form → Kept → List ItemText
closing_by form k = silences_by form k ++ totals_by form k

-- the same in a style
abbrev pub closings : Style → Kept → List ItemText
closings style k = map (closing_in style) (closing_by (form_of style) k)

-- pieces with a number
abbrev pub numbered_all : ℕ → List ItemText → List (ℕ × ItemText)
numbered_all n ws = map (λ w. (n, w)) ws

-- those behind the events, by how the input stops
abbrev pub closing_pieces : {F : Type 0} → Style → Stop F → ℕ → Kept → List (ℕ × ItemText)
closing_pieces style finished n k = numbered_all n (closings style k)
closing_pieces style unfinished n k = []
closing_pieces style (faulty f) n k = []

-- the pieces of an input that goes on so behind events of which this is kept, where those at the end come under this number
abbrev pub pieces_onward : {A F : Type 0} → List Period → Style → ℕ → Kept → Numbered (Event A) F → Numbered ItemText F
pieces_onward periods style n k said = record {
  items = pieces_by periods style k said.items ++ closing_pieces style said.stop n (keep_all periods k said.items);
  stop = said.stop;
}

-- the pieces of an input
abbrev pub pieces_of : {A F : Type 0} → List Period → Style → ℕ → Numbered (Event A) F → Numbered ItemText F
pieces_of periods style n said = pieces_onward periods style n kept_none said

-- a sender or a stream comes that is not tracked
abbrev pub shows_new : List Tracked → List Sight → Bool
shows_new xs seen = list_any (λ s. not (is_some (known_of xs s.key))) seen

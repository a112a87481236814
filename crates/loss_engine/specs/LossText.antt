-- What `losses` writes: of each event that time goes back, where it does, and what its frame tells; and at the end of the input what
-- has not come back and what came in all.
use Rattle.std.specs.Prelude.{◌≡◌, ℕ, ◌+◌, ◌-◌, ◌||◌, nat_le, is_some, Bool, true, false, List, [], ◌∷◌, ◌++◌, length, map, take, slice_get, codes, Option, Some, None, if◌then◌else◌}
use Rattle.std.specs.List.{flat_map, list_any}
use Rattle.list_core.specs.declared.event.Event.{Event}
use Rattle.list_core.specs.Items.{Numbered}
use Rattle.list_core.specs.Lines.{Stop, finished, unfinished, faulty}
use Rattle.object_core.specs.declared.counted.Form.{Form}
use Rattle.object_core.specs.declared.counted.Form.TheVariants as forms
use Rattle.engine_core.specs.declared.style.Style.{Style}
use Rattle.engine_core.specs.declared.style.Style.TheVariants.{Lines, Dated}
use Rattle.engine_core.specs.Dated.{dated}
use Rattle.engine_core.specs.EngineText.{Allowed, ItemText}
use Rattle.engine_core.specs.EventsText.{AllowsStep, FaultText, line_in}
use Rattle.loss_core.specs.declared.sender_tally.SenderTally.{SenderTally}
use Rattle.loss_core.specs.declared.sender_tally.SenderTotals.{SenderTotals}
use Rattle.loss_core.specs.declared.stream.Came.{Came}
use Rattle.loss_core.specs.declared.stream_tally.StreamTotals.{StreamTotals}
use Rattle.loss_core.specs.Periods.{Period}
use Rattle.loss_core.specs.Sender.{over_at}
use Rattle.loss_core.specs.SenderTotals.{TallyStandsAfter, kept}
use Rattle.loss_core.specs.Stream.{AreSamplesTold, IsKnownOf, Known}
use Rattle.loss_core.specs.StreamTotals.{AreStreamTotals}
use Rattle.loss_core.specs.declared.finding.Finding.{Finding}
use Rattle.loss_core.specs.Findings.{has_loss}
use Rattle.loss_engine.specs.Findings.{TellsSight}
use Rattle.loss_engine.specs.LossLine.{end_silent_line, finding_line, samples_line, sender_total_line, stream_total_line, time_back_line}
use Rattle.loss_engine.specs.LossObject.{end_silent_object, finding_object, samples_object, sender_total_object, stream_total_object, time_back_object}
use Rattle.loss_engine.specs.Sights.{Key, Sight, sender, stream, frames_of, greatest_moment, keys_in, period_for, same_key, samples_of, sights_in, sights_of}
use Rattle.loss_engine.specs.TimeBack.{TellsBack}

-- ---- events

-- what is told of a sender or a stream at an event's number and moment: a line, or an object
abbrev pub told_line : Form → ℕ → ℕ → Key → Finding → List ℕ
told_line forms.Text n moment key f = finding_line n key f
told_line (forms.Object counted) n moment key f = finding_object counted n moment key f

-- that time goes back at an event by so much, where it does: a line, or an object
abbrev pub back_lines : Form → ℕ → ℕ → Option ℕ → List ℕ
back_lines form n moment None = []
back_lines forms.Text n moment (Some by) = time_back_line n by
back_lines (forms.Object counted) n moment (Some by) = time_back_object counted n moment by

-- what is told of each of several sights, one after another
abbrev pub sight_lines : Form → ℕ → ℕ → List Sight → List (List Finding) → List ℕ
sight_lines form n moment [] findings = []
sight_lines form n moment (s ∷ seen) [] = []
sight_lines form n moment (s ∷ seen) (fs ∷ more) = flat_map (told_line form n moment s.key) fs ++ sight_lines form n moment seen more

-- a text in a style, of which each line is about an event at this moment
abbrev pub styled : Style → ℕ → (Form → List ℕ) → List ℕ
styled (Lines form) moment text = text form
styled Dated moment text = dated moment (text forms.Text)

-- what an event shows behind others: at the greatest moment up to it
abbrev pub sights_at : {A : Type 0} → List (ℕ × Event A) → ℕ × Event A → List Sight
sights_at before e = sights_of (greatest_moment (before ++ e ∷ [])) e.1.kind

-- What is written of an event after others, and whether it is a finding: that time goes back, where it does; and of each sight what it
-- tells after all before it.
pub record TellsEvent {A : Type 0} (periods : List Period) (style : Style) (before : List (ℕ × Event A)) (e : ℕ × Event A) (w : ItemText) : Type 0 where
  pub back : Option ℕ
  pub goes_back : TellsBack before e back
  pub findings : List (List Finding)
  pub sizes : length findings ≡ length (sights_at before e)
  pub each : (i : ℕ) (s : Sight) (fs : List Finding) → slice_get (sights_at before e) i ≡ Some s → slice_get findings i ≡ Some fs → TellsSight periods (sights_in before ++ take i (sights_at before e)) s fs
  pub text : w.text ≡ styled style e.1.moment (λ form. back_lines form e.0 e.1.moment back ++ sight_lines form e.0 e.1.moment (sights_at before e) findings)
  pub found : w.is_finding ≡ (is_some back || list_any has_loss findings)

-- ---- the end of the input

-- nothing is written
abbrev pub nothing : ItemText
nothing = record { text = []; is_finding = false }

-- a line or an object, by the form
abbrev pub text_by : Form → List ℕ → List ℕ → List ℕ
text_by forms.Text line object = line
text_by (forms.Object counted) line object = object

-- one that is a finding, or none
abbrev pub line_of : Form → Bool → List ℕ → List ℕ → ItemText
line_of form found line object = record { text = text_by form line object; is_finding = found }

-- what has not come back up to the end of the input
abbrev pub end_silent : Form → Key → ℕ → Option ℕ → ItemText
end_silent form key end None = nothing
end_silent form key end (Some since) = line_of form true (end_silent_line key since (end - since)) (end_silent_object key since (end - since))

-- the totals of a sender, whose lifetime was over at the end too or was not
abbrev pub with_end : Option ℕ → SenderTotals → SenderTotals
with_end None t = t
with_end (Some since) t = record t { silent = kept (t.silent + 1) }

-- the moment of a stream's newest sample, where that is a second or more before the end
abbrev pub stale : Option Known → ℕ → Option ℕ
stale None end = None
stale (Some k) end = if nat_le (k.moment + 1000000) end then Some k.moment else None

-- how a sender closes: by its deadline, and by what its frames come to
pub record ClosesSender (form : Form) (seen : List Sight) (end : ℕ) (key : Key) (silent total : ItemText) : Type 0 where
  pub tally : SenderTally
  pub stands : TallyStandsAfter (frames_of key seen) tally
  pub is_silent : silent ≡ end_silent form key end (over_at tally.sender.deadline end)
  pub is_total :
      total ≡ line_of form false (sender_total_line key (with_end (over_at tally.sender.deadline end) tally.totals)) (sender_total_object key (with_end (over_at tally.sender.deadline end) tally.totals))

-- how a stream of so many samples a second closes: by its newest sample, and by what its samples come to
pub record ClosesStream (period : ℕ) (form : Form) (seen : List Sight) (end : ℕ) (key : Key) (silent total : ItemText) : Type 0 where
  pub told : List Came
  pub are_told : AreSamplesTold period (samples_of key seen) told
  pub known : Option Known
  pub is_known : IsKnownOf (samples_of key seen) told (length (samples_of key seen)) known
  pub totals : StreamTotals
  pub are_totals : AreStreamTotals told totals
  pub is_silent : silent ≡ end_silent form key end (stale known end)
  pub is_total : total ≡ line_of form false (stream_total_line key totals) (stream_total_object key totals)

-- how a stream closes where no period is given: by how many samples came
pub record ClosesCount (form : Form) (seen : List Sight) (key : Key) (silent total : ItemText) : Type 0 where
  pub is_silent : silent ≡ nothing
  pub is_total : total ≡ line_of form false (samples_line key (kept (length (samples_of key seen)))) (samples_object key (kept (length (samples_of key seen))))

-- how a sender or a stream closes: what has not come back, and the total
abbrev pub ClosesKey : Option ℕ → Form → List Sight → ℕ → Key → ItemText → ItemText → Type 0
ClosesKey period form seen end (sender app_id reference simulation) silent total = ClosesSender form seen end (sender app_id reference simulation) silent total
ClosesKey None form seen end (stream app_id source id) silent total = ClosesCount form seen (stream app_id source id) silent total
ClosesKey (Some period) form seen end (stream app_id source id) silent total = ClosesStream period form seen end (stream app_id source id) silent total

-- What is written at the end, behind sights up to this greatest moment: of each sender and each stream, in the order of first
-- occurrence, what has not come back; and then of each the total.
pub record IsClosing (periods : List Period) (form : Form) (seen : List Sight) (end : ℕ) (lines : List ItemText) : Type 0 where
  pub silents : List ItemText
  pub totals : List ItemText
  pub silents_sizes : length silents ≡ length (keys_in seen)
  pub totals_sizes : length totals ≡ length (keys_in seen)
  pub each : (i : ℕ) (key : Key) (silent total : ItemText) → slice_get (keys_in seen) i ≡ Some key → slice_get silents i ≡ Some silent → slice_get totals i ≡ Some total → ClosesKey (period_for periods key) form seen end key silent total
  pub parts : lines ≡ silents ++ totals

-- the form of what is written in a style
abbrev pub form_of : Style → Form
form_of (Lines form) = form
form_of Dated = forms.Text

-- a line of no event: behind a dash in place of its date
abbrev pub dash_before : List ℕ → List ℕ
dash_before [] = []
dash_before (c ∷ cs) = codes "- " ++ (c ∷ cs)

-- such a line in a style
abbrev pub closing_in : Style → ItemText → ItemText
closing_in (Lines form) w = w
closing_in Dated w = record w { text = dash_before w.text }

-- what is written at the end of the input, behind all its events
abbrev pub ClosesEvents : {A : Type 0} → List Period → Style → List (ℕ × Event A) → List ItemText → Type 0
ClosesEvents periods style items closing = (lines : List ItemText) × IsClosing periods (form_of style) (sights_in items) (greatest_moment items) lines × (closing ≡ map (closing_in style) lines)

-- ---- the input

-- behind the events, by how the input stops: what is written at its end; nothing behind a fault, or where it was not read to its end
abbrev pub ClosesBy : {A F : Type 0} → List Period → Style → Stop F → List (ℕ × Event A) → List ItemText → Type 0
ClosesBy periods style finished items closing = ClosesEvents periods style items closing
ClosesBy periods style unfinished items closing = closing ≡ []
ClosesBy periods style (faulty f) items closing = closing ≡ []

-- What is written of an input that says these events, piece by piece: a piece for each event, with its number, and behind them those at the end. It stops as the input does.
pub record AreLosses {A F : Type 0} (periods : List Period) (style : Style) (said : Numbered (Event A) F) (pieces : Numbered ItemText F) : Type 0 where
  pub told : List (ℕ × ItemText)
  pub sizes : length told ≡ length said.items
  pub each : (i : ℕ) (e : ℕ × Event A) (w : ℕ × ItemText) → slice_get said.items i ≡ Some e → slice_get told i ≡ Some w → (w.0 ≡ e.0) × TellsEvent periods style (take i said.items) e w.1
  pub closing : List (ℕ × ItemText)
  pub closes : ClosesBy periods style said.stop said.items (map (λ w. w.1) closing)
  pub parts : pieces.items ≡ told ++ closing
  pub stops : pieces.stop ≡ said.stop

-- how losses are told: of streams with these periods; in this style; and a fault of the input by such a line or object
pub record Manner (F : Type 0) : Type 0 where
  pub periods : List Period
  pub style : Style
  pub last : FaultText F

-- an event shows a sender or a stream that none of those before shows
pub record ShowsNew {A : Type 0} (before : List (ℕ × Event A)) (e : ℕ × Event A) : Type 0 where
  pub at : ℕ
  pub sight : Sight
  pub is : slice_get (sights_at before e) at ≡ Some sight
  pub is_new : list_any (λ k. same_key k sight.key) (keys_in (sights_in before)) ≡ false

-- What is written of the events of an input, and at its end; memory is wanted for a sender or a stream that is new, too. The fault of the input is told by its line in the style.
abbrev pub losses_text : {A C F : Type 0} → Manner F → Allowed (Event A) C F
losses_text how = record {
  first = [];
  of_item = λ before e written. AllowsStep (λ earlier x w. TellsEvent how.periods how.style earlier x (record { text = w.0; is_finding = w.1 })) before e written;
  keeps = ShowsNew;
  at_end = λ items lines. ClosesEvents how.periods how.style items lines;
  last = λ f. line_in how.style (how.last.line f) (how.last.object f);
}

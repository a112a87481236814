-- The objects of `losses`: what its lines tell, as JSON.
use Rattle.std.specs.Prelude.{ℕ, List, [], ◌∷◌, ◌++◌, codes}
use Rattle.std.specs.Fmt.{decimal}
use Rattle.text_core.specs.Pieces.{boolean_text, quoted, two_octets}
use Rattle.object_core.specs.declared.counted.Counted.{Counted}
use Rattle.object_core.specs.EventObject.{event_fields}
use Rattle.object_core.specs.Objects.{Field, date_value, in_quotes, object_line, octets_value}
use Rattle.loss_core.specs.declared.sender_tally.SenderTotals.{SenderTotals}
use Rattle.loss_core.specs.declared.stream_tally.StreamTotals.{StreamTotals}
use Rattle.loss_core.specs.declared.finding.Finding.{Finding}
use Rattle.loss_core.specs.declared.finding.Finding.TheVariants.{Silent, StatesMissing, FramesMissing, Late, Restarted, SamplesMissing, SampleRepeated, SampleLate, OutOfRange, Synch}
use Rattle.loss_engine.specs.LossLine.{finding_word}
use Rattle.loss_engine.specs.Sights.{Key, sender, stream}

-- of which sender or stream
abbrev pub key_fields : Key → List Field
key_fields (sender app_id reference simulation) =
    (codes "appid", octets_value (two_octets app_id)) ∷ (codes "gocbRef", quoted reference) ∷ (codes "simulation", boolean_text simulation) ∷ []
key_fields (stream app_id source id) =
    (codes "appid", octets_value (two_octets app_id)) ∷ (codes "source", octets_value source) ∷ (codes "svID", quoted id) ∷ []

-- since when, its date, and for how long
abbrev pub silence_fields : ℕ → ℕ → List Field
silence_fields since lasted = (codes "since", decimal since) ∷ (codes "sinceTime", date_value since) ∷ (codes "for", decimal lasted) ∷ []

-- the numbers of what is told
abbrev pub finding_fields : Finding → List Field
finding_fields (Silent since lasted) = silence_fields since lasted
finding_fields (StatesMissing s) = (codes "from", decimal s.from) ∷ (codes "to", decimal s.to) ∷ []
finding_fields (FramesMissing state s) = (codes "stNum", decimal state) ∷ (codes "from", decimal s.from) ∷ (codes "to", decimal s.to) ∷ []
finding_fields (Late p) = (codes "stNum", decimal p.state) ∷ (codes "sqNum", decimal p.sequence) ∷ []
finding_fields (Restarted p) = (codes "stNum", decimal p.state) ∷ (codes "sqNum", decimal p.sequence) ∷ []
finding_fields (SamplesMissing from missing) = (codes "from", decimal from) ∷ (codes "missing", decimal missing) ∷ []
finding_fields (SampleRepeated count) = (codes "smpCnt", decimal count) ∷ []
finding_fields (SampleLate count) = (codes "smpCnt", decimal count) ∷ []
finding_fields (OutOfRange count) = (codes "smpCnt", decimal count) ∷ []
finding_fields (Synch from to) = (codes "from", decimal from) ∷ (codes "to", decimal to) ∷ []

-- the object of what is told of a sender or a stream, at an event's number and moment
abbrev pub finding_object : Counted → ℕ → ℕ → Key → Finding → List ℕ
finding_object counted n moment key f = object_line (event_fields counted n moment (finding_word f) ++ (key_fields key ++ finding_fields f))

-- the object of a time that goes back
abbrev pub time_back_object : Counted → ℕ → ℕ → ℕ → List ℕ
time_back_object counted n moment by = object_line (event_fields counted n moment (codes "time-back") ++ (codes "by", decimal by) ∷ [])

-- an object of no event
abbrev pub closing_object : List ℕ → Key → List Field → List ℕ
closing_object kind key fields = object_line ((codes "kind", in_quotes kind) ∷ (key_fields key ++ fields))

-- the object of what has not come back at the end
abbrev pub end_silent_object : Key → ℕ → ℕ → List ℕ
end_silent_object key since lasted = closing_object (codes "end-silent") key (silence_fields since lasted)

-- what the frames of a sender come to
abbrev pub sender_fields : SenderTotals → List Field
sender_fields t =
    (codes "frames", decimal t.frames) ∷ (codes "statesMissing", decimal t.states_missing) ∷ (codes "framesMissing", decimal t.frames_missing) ∷ (codes "late", decimal t.late)
    ∷ (codes "repeated", decimal t.repeated) ∷ (codes "restarted", decimal t.restarted) ∷ (codes "silent", decimal t.silent) ∷ (codes "longest", decimal t.longest) ∷ []

-- its object
abbrev pub sender_total_object : Key → SenderTotals → List ℕ
sender_total_object key t = closing_object (codes "total-goose") key (sender_fields t)

-- what the samples of a stream come to
abbrev pub stream_fields : StreamTotals → List Field
stream_fields t =
    (codes "samples", decimal t.samples) ∷ (codes "missing", decimal t.missing) ∷ (codes "late", decimal t.late) ∷ (codes "repeated", decimal t.repeated)
    ∷ (codes "outOfRange", decimal t.out_of_range) ∷ (codes "outages", decimal t.outages) ∷ (codes "longest", decimal t.longest) ∷ []

-- its object
abbrev pub stream_total_object : Key → StreamTotals → List ℕ
stream_total_object key t = closing_object (codes "total-sv") key (stream_fields t)

-- the object of how many samples of a stream came, where no period is given
abbrev pub samples_object : Key → ℕ → List ℕ
samples_object key samples = closing_object (codes "total-sv") key ((codes "samples", decimal samples) ∷ [])

-- The lines of `losses`.
use Rattle.std.specs.Prelude.{ℕ, List, [], ◌∷◌, ◌++◌, codes}
use Rattle.std.specs.List.{concat}
use Rattle.std.specs.Fmt.{decimal}
use Rattle.hex.specs.Hex.{encode_lower}
use Rattle.text_core.specs.Pieces.{boolean_text, four_digits, quoted}
use Rattle.loss_core.specs.declared.sender_tally.SenderTotals.{SenderTotals}
use Rattle.loss_core.specs.declared.stream_tally.StreamTotals.{StreamTotals}
use Rattle.loss_core.specs.declared.finding.Finding.{Finding}
use Rattle.loss_core.specs.declared.finding.Finding.TheVariants.{Silent, StatesMissing, FramesMissing, Late, Restarted, SamplesMissing, SampleRepeated, SampleLate, OutOfRange, Synch}
use Rattle.loss_engine.specs.Sights.{Key, sender, stream}

-- a word and a number
abbrev pub numbered : List ℕ → ℕ → List ℕ
numbered word n = word ++ decimal n

-- of which sender or stream
abbrev pub key_text : Key → List ℕ
key_text (sender app_id reference simulation) = concat (codes " appid=" ∷ four_digits app_id ∷ codes " ref=" ∷ quoted reference ∷ codes " sim=" ∷ boolean_text simulation ∷ [])
key_text (stream app_id source id) = concat (codes " appid=" ∷ four_digits app_id ∷ codes " source=" ∷ encode_lower source ∷ codes " id=" ∷ quoted id ∷ [])

-- what is told, as a word
abbrev pub finding_word : Finding → List ℕ
finding_word (Silent since lasted) = codes "silent"
finding_word (StatesMissing s) = codes "states-missing"
finding_word (FramesMissing state s) = codes "frames-missing"
finding_word (Late p) = codes "late"
finding_word (Restarted p) = codes "restarted"
finding_word (SamplesMissing from missing) = codes "samples-missing"
finding_word (SampleRepeated count) = codes "sample-repeated"
finding_word (SampleLate count) = codes "sample-late"
finding_word (OutOfRange count) = codes "count-out-of-range"
finding_word (Synch from to) = codes "synch"

-- since when, and for how many microseconds
abbrev pub silence_numbers : ℕ → ℕ → List (List ℕ)
silence_numbers since lasted = numbered (codes " since=") since ∷ numbered (codes " for=") lasted ∷ []

-- its numbers
abbrev pub finding_numbers : Finding → List (List ℕ)
finding_numbers (Silent since lasted) = silence_numbers since lasted
finding_numbers (StatesMissing s) = numbered (codes " from=") s.from ∷ numbered (codes " to=") s.to ∷ []
finding_numbers (FramesMissing state s) = numbered (codes " st=") state ∷ numbered (codes " from=") s.from ∷ numbered (codes " to=") s.to ∷ []
finding_numbers (Late p) = numbered (codes " st=") p.state ∷ numbered (codes " sq=") p.sequence ∷ []
finding_numbers (Restarted p) = numbered (codes " st=") p.state ∷ numbered (codes " sq=") p.sequence ∷ []
finding_numbers (SamplesMissing from missing) = numbered (codes " from=") from ∷ numbered (codes " missing=") missing ∷ []
finding_numbers (SampleRepeated count) = numbered (codes " cnt=") count ∷ []
finding_numbers (SampleLate count) = numbered (codes " cnt=") count ∷ []
finding_numbers (OutOfRange count) = numbered (codes " cnt=") count ∷ []
finding_numbers (Synch from to) = numbered (codes " from=") from ∷ numbered (codes " to=") to ∷ []

-- the line of what is told of a sender or a stream, behind the number of the event's line or packet
abbrev pub finding_line : ℕ → Key → Finding → List ℕ
finding_line n key f = concat (decimal n ∷ codes " " ∷ finding_word f ∷ key_text key ∷ (finding_numbers f ++ codes "\n" ∷ []))

-- the line of a time that goes back
abbrev pub time_back_line : ℕ → ℕ → List ℕ
time_back_line n by = concat (decimal n ∷ numbered (codes " time-back by=") by ∷ codes "\n" ∷ [])

-- a line of no event
abbrev pub closing_line : List ℕ → Key → List (List ℕ) → List ℕ
closing_line words key numbers = concat (words ∷ key_text key ∷ (numbers ++ codes "\n" ∷ []))

-- the line of what has not come back at the end
abbrev pub end_silent_line : Key → ℕ → ℕ → List ℕ
end_silent_line key since lasted = closing_line (codes "end silent") key (silence_numbers since lasted)

-- what the frames of a sender come to
abbrev pub sender_numbers : SenderTotals → List (List ℕ)
sender_numbers t =
    numbered (codes " frames=") t.frames ∷ numbered (codes " states-missing=") t.states_missing ∷ numbered (codes " frames-missing=") t.frames_missing ∷ numbered (codes " late=") t.late
    ∷ numbered (codes " repeated=") t.repeated ∷ numbered (codes " restarted=") t.restarted ∷ numbered (codes " silent=") t.silent ∷ numbered (codes " longest=") t.longest ∷ []

-- its line
abbrev pub sender_total_line : Key → SenderTotals → List ℕ
sender_total_line key t = closing_line (codes "total goose") key (sender_numbers t)

-- what the samples of a stream come to
abbrev pub stream_numbers : StreamTotals → List (List ℕ)
stream_numbers t =
    numbered (codes " samples=") t.samples ∷ numbered (codes " missing=") t.missing ∷ numbered (codes " late=") t.late ∷ numbered (codes " repeated=") t.repeated
    ∷ numbered (codes " out-of-range=") t.out_of_range ∷ numbered (codes " outages=") t.outages ∷ numbered (codes " longest=") t.longest ∷ []

-- its line
abbrev pub stream_total_line : Key → StreamTotals → List ℕ
stream_total_line key t = closing_line (codes "total sv") key (stream_numbers t)

-- the line of how many samples of a stream came, where no period is given
abbrev pub samples_line : Key → ℕ → List ℕ
samples_line key samples = closing_line (codes "total sv") key (numbered (codes " samples=") samples ∷ [])

-- What is told of a few frames and samples and written of them, computed, as docs/FORMATS.md shows it: a wrong definition does not check.
use Rattle.std.proofs.Common.{◌≡◌, ℕ, false, Option, Some, None, [], ◌∷◌, refl, List}
use Rattle.std.specs.Prelude.{codes}
use Rattle.std.specs.Fmt.{digits}
use Rattle.std.specs.List.{flat_map}
use Rattle.hex.specs.Hex.{encode_with}
use Rattle.date_core.specs.DateText.{date_text, month_behind, year_behind}
use Rattle.list_core.specs.declared.event.Event.{Event}
use Rattle.list_core.specs.declared.event.EventKind.TheVariants.{Clock}
use Rattle.object_core.specs.declared.counted.Counted.TheVariants.{Line}
use Rattle.object_core.specs.declared.counted.Form.{Form}
use Rattle.object_core.specs.declared.counted.Form.TheVariants.{Text, Object}
use Rattle.loss_core.specs.declared.sender.Pair.{Pair}
use Rattle.loss_core.specs.declared.sender.Standing.TheVariants as standing
use Rattle.loss_core.specs.declared.stream.Came.{Came}
use Rattle.loss_core.specs.declared.stream.Came.TheVariants as came
use Rattle.loss_core.specs.declared.finding.Finding.TheVariants.{SampleRepeated}
use Rattle.loss_core.specs.Findings.{came_told, frame_findings, has_loss, synch_told}
use Rattle.loss_engine.specs.LossText.{back_lines, end_silent, told_line}
use Rattle.loss_engine.specs.LossLine.{samples_line, sender_total_line, stream_total_line}
use Rattle.loss_engine.specs.LossObject.{sender_total_object, stream_total_object}
use Rattle.loss_engine.specs.Sights.{Key, sender, stream}
use Rattle.loss_engine.specs.computed.Tracking.{Kept, back_by, keep, kept_none}

-- a control block
abbrev G : Key
G = sender 1 (codes "G") false

-- a stream
abbrev S : Key
S = stream 0x4000 (2 ∷ 0 ∷ 0 ∷ 0 ∷ 0 ∷ 1 ∷ []) (codes "S")

-- stNum and sqNum
abbrev pair : ℕ → ℕ → Pair
pair state sequence = record { state = state; sequence = sequence }

-- what is told of a frame behind a newer one, or of the first, at a moment
abbrev above : Form → ℕ → ℕ → Option ℕ → Pair → Pair → List ℕ
above form n moment since newest p =
    flat_map (told_line form n moment G) (frame_findings (record { pair = p; moment = moment; lifetime = 2000000 }) (record { silent_since = since; standing = standing.Newer newest }))

-- of one below the newest
abbrev under : Form → ℕ → ℕ → Option ℕ → Pair → List ℕ
under form n moment since p = flat_map (told_line form n moment G) (frame_findings (record { pair = p; moment = moment; lifetime = 2000000 }) (record { silent_since = since; standing = standing.Below }))

pub record AreFrameLines : Type 0 where
  pub next : above Text 3 1000000 None (pair 1 0) (pair 1 1) ≡ []
  pub frame_missing : above Text 3 1000000 None (pair 1 0) (pair 1 2) ≡ codes "3 frames-missing appid=0001 ref=\"G\" sim=false st=1 from=1 to=1\n"
  pub behind_silence : above Text 4 4000000 (Some 3000000) (pair 1 1) (pair 1 4)
      ≡ codes "4 silent appid=0001 ref=\"G\" sim=false since=3000000 for=1000000\n4 frames-missing appid=0001 ref=\"G\" sim=false st=1 from=2 to=3\n"
  pub states_missing : above Text 3 1000000 None (pair 1 0) (pair 4 2)
      ≡ codes "3 states-missing appid=0001 ref=\"G\" sim=false from=2 to=3\n3 frames-missing appid=0001 ref=\"G\" sim=false st=4 from=0 to=1\n"
  -- nobody knows how many retransmissions a state had that another followed
  pub end_of_a_state : above Text 3 1000000 None (pair 1 0) (pair 2 0) ≡ []
  pub late : under Text 3 1000000 None (pair 1 0) ≡ codes "3 late appid=0001 ref=\"G\" sim=false st=1 sq=0\n"
  pub restarted : under Text 5 2500000 (Some 2000000) (pair 1 2)
      ≡ codes "5 silent appid=0001 ref=\"G\" sim=false since=2000000 for=500000\n5 restarted appid=0001 ref=\"G\" sim=false st=1 sq=2\n"

frame_lines : AreFrameLines
unfolding digits encode_with
frame_lines = record { next = refl; frame_missing = refl; behind_silence = refl; states_missing = refl; end_of_a_state = refl; late = refl; restarted = refl }

-- what is told of a sample by its count
abbrev counted : Form → ℕ → ℕ → ℕ → Came → List ℕ
counted form n moment count c = flat_map (told_line form n moment S) (came_told 4000 count c)

pub record AreSampleLines : Type 0 where
  pub missing : counted Text 3 500 102 (came.Missing 1) ≡ codes "3 samples-missing appid=4000 source=020000000001 id=\"S\" from=101 missing=1\n"
  -- over the end of a second
  pub over : counted Text 3 1250 3 (came.Missing 4) ≡ codes "3 samples-missing appid=4000 source=020000000001 id=\"S\" from=3999 missing=4\n"
  -- a whole second and more
  pub a_second : counted Text 3 1000250 101 (came.Missing 4000) ≡ codes "3 samples-missing appid=4000 source=020000000001 id=\"S\" from=101 missing=4000\n"
  pub days : counted Text 3 259200000250 101 (came.Missing 1036800000) ≡ codes "3 samples-missing appid=4000 source=020000000001 id=\"S\" from=101 missing=1036800000\n"
  pub late : counted Text 4 750 101 came.Late ≡ codes "4 sample-late appid=4000 source=020000000001 id=\"S\" cnt=101\n"
  pub repeated : counted Text 3 0 100 came.Repeated ≡ codes "3 sample-repeated appid=4000 source=020000000001 id=\"S\" cnt=100\n"
  pub out_of_range : counted Text 2 0 4000 came.OutOfRange ≡ codes "2 count-out-of-range appid=4000 source=020000000001 id=\"S\" cnt=4000\n"
  pub synch : flat_map (told_line Text 3 250 S) (synch_told (Some 2) 1) ≡ codes "3 synch appid=4000 source=020000000001 id=\"S\" from=2 to=1\n"
  pub same_synch : synch_told (Some 2) 2 ≡ []
  -- one from before the first sample tells nothing
  pub before_first : counted Text 3 0 99 came.BeforeFirst ≡ []
  -- a copy is no loss
  pub copy : has_loss (SampleRepeated 100 ∷ []) ≡ false

sample_lines : AreSampleLines
unfolding digits encode_with
sample_lines = record { missing = refl; over = refl; a_second = refl; days = refl; late = refl; repeated = refl; out_of_range = refl; synch = refl; same_synch = refl; before_first = refl; copy = refl }

-- an event of the clock
abbrev clock : ℕ → Event (Unit {0})
clock moment = record { kind = Clock; moment = moment }

-- by how much time goes back at the last of events of the clock, behind others of which this is kept
abbrev backs : List ℕ → Kept → List (Option ℕ)
backs [] k = []
backs (m ∷ ms) k = back_by k m ∷ backs ms (keep [] k (clock m))

pub record AreTimesBack : Type 0 where
  pub line : back_lines Text 4 9000000 (Some 1000000) ≡ codes "4 time-back by=1000000\n"
  pub object : back_lines (Object Line) 3 1 (Some 9999999) ≡ codes "{\"line\":3,\"microseconds\":1,\"time\":\"1970-01-01T00:00:00.000001Z\",\"kind\":\"time-back\",\"by\":9999999}\n"
  pub none : back_lines Text 3 9000001 None ≡ []
  -- a microsecond less than a second is not told, a second is
  pub a_second : backs (10000000 ∷ 9000001 ∷ 9000000 ∷ []) kept_none ≡ None ∷ None ∷ Some 1000000 ∷ []
  -- a run of times that are back is told once, the next one anew
  pub once : backs (10000000 ∷ 1000000 ∷ 2000000 ∷ 9000001 ∷ 3000000 ∷ 10000001 ∷ 0 ∷ []) kept_none
      ≡ None ∷ Some 9000000 ∷ None ∷ None ∷ Some 7000000 ∷ None ∷ Some 10000001 ∷ []

times_back : AreTimesBack
unfolding digits encode_with date_text month_behind year_behind
times_back = record { line = refl; object = refl; none = refl; a_second = refl; once = refl }

pub record AreClosingLines : Type 0 where
  pub silent : (end_silent Text G 9500000 (Some 2000000)).text ≡ codes "end silent appid=0001 ref=\"G\" sim=false since=2000000 for=7500000\n"
  pub not_silent : (end_silent Text G 1000000 None).text ≡ []
  pub of_sender : sender_total_line G (record { frames = 3; states_missing = 0; frames_missing = 2; late = 0; repeated = 0; restarted = 0; silent = 1; longest = 3000000 })
      ≡ codes "total goose appid=0001 ref=\"G\" sim=false frames=3 states-missing=0 frames-missing=2 late=0 repeated=0 restarted=0 silent=1 longest=3000000\n"
  pub of_stream : stream_total_line S (record { samples = 3; missing = 10; late = 0; repeated = 0; out_of_range = 0; outages = 2; longest = 7 })
      ≡ codes "total sv appid=4000 source=020000000001 id=\"S\" samples=3 missing=10 late=0 repeated=0 out-of-range=0 outages=2 longest=7\n"
  pub of_samples : samples_line S 3 ≡ codes "total sv appid=4000 source=020000000001 id=\"S\" samples=3\n"

closing_lines : AreClosingLines
unfolding digits encode_with
closing_lines = record { silent = refl; not_silent = refl; of_sender = refl; of_stream = refl; of_samples = refl }

pub record AreObjects : Type 0 where
  pub late : under (Object Line) 3 1700000000000000 None (pair 1 9)
      ≡ codes "{\"line\":3,\"microseconds\":1700000000000000,\"time\":\"2023-11-14T22:13:20.000000Z\",\"kind\":\"late\",\"appid\":\"0001\",\"gocbRef\":\"G\",\"simulation\":false,\"stNum\":1,\"sqNum\":9}\n"
  pub behind_silence : above (Object Line) 4 1700000003000000 (Some 1700000002000000) (pair 2 0) (pair 3 1)
      ≡ codes "{\"line\":4,\"microseconds\":1700000003000000,\"time\":\"2023-11-14T22:13:23.000000Z\",\"kind\":\"silent\",\"appid\":\"0001\",\"gocbRef\":\"G\",\"simulation\":false,\"since\":1700000002000000,\"sinceTime\":\"2023-11-14T22:13:22.000000Z\",\"for\":1000000}\n{\"line\":4,\"microseconds\":1700000003000000,\"time\":\"2023-11-14T22:13:23.000000Z\",\"kind\":\"frames-missing\",\"appid\":\"0001\",\"gocbRef\":\"G\",\"simulation\":false,\"stNum\":3,\"from\":0,\"to\":0}\n"
  pub missing : counted (Object Line) 3 1700000000000000 3 (came.Missing 1)
      ≡ codes "{\"line\":3,\"microseconds\":1700000000000000,\"time\":\"2023-11-14T22:13:20.000000Z\",\"kind\":\"samples-missing\",\"appid\":\"4000\",\"source\":\"020000000001\",\"svID\":\"S\",\"from\":2,\"missing\":1}\n"
  pub of_sender : sender_total_object G (record { frames = 4; states_missing = 1; frames_missing = 1; late = 1; repeated = 0; restarted = 1; silent = 2; longest = 6000000 })
      ≡ codes "{\"kind\":\"total-goose\",\"appid\":\"0001\",\"gocbRef\":\"G\",\"simulation\":false,\"frames\":4,\"statesMissing\":1,\"framesMissing\":1,\"late\":1,\"repeated\":0,\"restarted\":1,\"silent\":2,\"longest\":6000000}\n"
  pub of_stream : stream_total_object S (record { samples = 5; missing = 1; late = 1; repeated = 1; out_of_range = 1; outages = 1; longest = 1 })
      ≡ codes "{\"kind\":\"total-sv\",\"appid\":\"4000\",\"source\":\"020000000001\",\"svID\":\"S\",\"samples\":5,\"missing\":1,\"late\":1,\"repeated\":1,\"outOfRange\":1,\"outages\":1,\"longest\":1}\n"

objects : AreObjects
unfolding digits encode_with date_text month_behind year_behind
objects = record { late = refl; behind_silence = refl; missing = refl; of_sender = refl; of_stream = refl }

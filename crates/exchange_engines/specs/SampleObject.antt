-- The objects of the samples of a stream: what `watch` writes as JSON.
use Rattle.std.specs.Prelude.{ℕ, List, [], ◌∷◌, ◌++◌, codes}
use Rattle.std.specs.Fmt.{decimal}
use Rattle.subscribe_core.specs.declared.watch.Seen.{Seen}
use Rattle.subscribe_core.specs.declared.watch.Seen.TheVariants as seen
use Rattle.object_core.specs.declared.counted.Counted.{Counted}
use Rattle.object_core.specs.EventObject.{event_fields}
use Rattle.object_core.specs.Objects.{Field, object_line}
use Rattle.exchange_engines.specs.SampleLine.{Sample}

-- what a count is after those before it
abbrev pub seen_kind : Seen → List ℕ
seen_kind seen.First = codes "first"
seen_kind seen.Next = codes "next"
seen_kind (seen.Skipped missing) = codes "skipped"
seen_kind seen.Same = codes "same"
seen_kind seen.Late = codes "late"
seen_kind seen.OutOfRange = codes "out-of-range"

-- how many counts are missing before it, where some are
abbrev pub missing_fields : Seen → List Field
missing_fields seen.First = []
missing_fields seen.Next = []
missing_fields (seen.Skipped missing) = (codes "missing", decimal missing) ∷ []
missing_fields seen.Same = []
missing_fields seen.Late = []
missing_fields seen.OutOfRange = []

-- the object of a sample: the event, what its count is, the position of its ASDU, and its smpCnt
abbrev pub sample_object : Counted → ℕ → ℕ → Sample → Seen → List ℕ
sample_object counted n moment s answer =
    object_line (event_fields counted n moment (seen_kind answer) ++ (codes "asdu", decimal s.position) ∷ (codes "smpCnt", decimal s.count) ∷ missing_fields answer)

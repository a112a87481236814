-- The lines of `watch`: what the count of a sample is after those before it.
use Rattle.std.specs.Prelude.{ℕ, List, ◌++◌, codes}
use Rattle.std.specs.Fmt.{decimal}
use Rattle.subscribe_core.specs.declared.watch.Seen.{Seen}
use Rattle.subscribe_core.specs.declared.watch.Seen.TheVariants as seen

-- a count of a stream: the position of its ASDU in the frame, and its smpCnt
pub record Sample : Type 0 where
  pub position : ℕ
  pub count : ℕ

-- what a count is after those before it
abbrev pub seen_word : Seen → List ℕ
seen_word seen.First = codes " first"
seen_word seen.Next = codes " next"
seen_word (seen.Skipped missing) = codes " skipped " ++ decimal missing
seen_word seen.Same = codes " same"
seen_word seen.Late = codes " late"
seen_word seen.OutOfRange = codes " out-of-range"

-- the line of a sample: the number of the event's line, the position of the ASDU, its count, and what that is
abbrev pub sample_line : ℕ → Sample → Seen → List ℕ
sample_line n s answer = decimal n ++ (codes " " ++ decimal s.position) ++ (codes " " ++ decimal s.count) ++ seen_word answer ++ codes "\n"

-- What the definitions say together.
use Rattle.std.specs.Prelude.{◌≡◌, ℕ, suc, ◌<◌, ◌≤◌, ◌↔◌, Option, Some, List, ◌++◌, length}
use Rattle.frame_core.specs.declared.frame.Frame.{Frame}
use Rattle.publish_core.specs.declared.table.Step.{Step}
use Rattle.publish_core.specs.Numbers.{number_behind, sequence_number, state_number}
use Rattle.publish_core.specs.Frames.{Setup, Change}
use Rattle.publish_core.specs.Run.{Polled, Call, CallTrace, GivesFrame, IsNewestFrame, IsDue, IsAnswer, AreAnswers, changes, trace_of_calls, IsChange}

-- a list of calls has one list of answers
abbrev pub AnswersAreOne : Type 0 → Type 0
AnswersAreOne A = (p : Setup A) (calls : List Call) (xs ys : List (Option (Frame A))) → AreAnswers p calls xs → AreAnswers p calls ys → xs ≡ ys

-- every list of calls has answers, where the first state has a number
abbrev pub AnswersAreThere : Type 0 → Type 0
AnswersAreThere A = (p : Setup A) (calls : List Call) → 0 < p.first → p.first ≤ 4294967295 → (answers : List (Option (Frame A))) × AreAnswers p calls answers

-- the answer to a call does not depend on later calls
abbrev pub AnswersStay : Type 0 → Type 0
AnswersStay A = (p : Setup A) (calls later : List Call) (i : ℕ) (a : Option (Frame A)) → i < length calls → IsAnswer p (trace_of_calls calls) i a → IsAnswer p (trace_of_calls (calls ++ later)) i a

-- A poll at n gives the frame behind the newest one exactly where the wait behind that is over, and no other frame; before any
-- change it gives none.
pub record GivesNext (table : List Step) (t : CallTrace) (n : ℕ) : Type 0 where
  pub where_due : (i c k : ℕ) (change : Change) → IsNewestFrame table t n i c k change → GivesFrame table t n c (suc k) change ↔ IsDue table t i k n
  pub no_other : (i c k : ℕ) (change : Change) → IsNewestFrame table t n i c k change →
      (d m : ℕ) (other : Change) → GivesFrame table t n d m other → (d ≡ c) × (m ≡ suc k) × (other ≡ change)
  pub none_yet : changes t n ≡ 0 → (c k : ℕ) (change : Change) → ¬ GivesFrame table t n c k change

-- so does every poll of every list of calls
abbrev pub PollsGive : Type 0
PollsGive = (table : List Step) (calls : List Call) (n : ℕ) → (trace_of_calls calls).request n ≡ Some Polled → GivesNext table (trace_of_calls calls) n

-- The first state has the first number, and the first frame of a state the sequence number 0. A number is followed by the next
-- one, and 4294967295 by 1.
pub record NumbersGoOn : Type 0 where
  pub first_state : (first : ℕ) → 0 < first → first ≤ 4294967295 → state_number first 0 ≡ first
  pub next_state : (first c : ℕ) → state_number first (suc c) ≡ number_behind (state_number first c)
  pub first_frame : sequence_number 0 ≡ 0
  pub next_frame : (k : ℕ) → sequence_number (suc k) ≡ number_behind (sequence_number k)

-- a frame of state c carries what change c handed in, and comes no earlier than that change
abbrev pub FramesCarryTheirChange : Type 0
FramesCarryTheirChange = (table : List Step) (calls : List Call) (i c k : ℕ) (change : Change) → GivesFrame table (trace_of_calls calls) i c k change → (j : ℕ) × (j ≤ i) × IsChange (trace_of_calls calls) j c change

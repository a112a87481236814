-- What comes of one stream (IEC 61850-9-2): the newest sample, how many came one by one up to it, how far it is ahead of the first
-- one, and what each sample tells by them. All is said by positions in the list of samples as they came.
use Rattle.std.specs.Prelude.{◌≡◌, ◌⊎◌, ℕ, ◌+◌, ◌-◌, ◌<◌, ◌==◌, ◌||◌, nat_lt, Bool, true, false, Option, Some, None, List, [], ◌∷◌, ◌++◌, drop, filter, length, slice_get, take, if◌then◌else◌}
use Rattle.loss_core.specs.declared.advance.Advance.{Advance}
use Rattle.loss_core.specs.declared.advance.Advance.TheVariants.{Ahead, Back}
use Rattle.loss_core.specs.declared.stream.Sample.{Sample}
use Rattle.loss_core.specs.declared.stream.Came.{Came}
use Rattle.loss_core.specs.declared.stream.Came.TheVariants as came
use Rattle.loss_core.specs.Advance.{IsAdvance}

-- a sample that is ahead of the newest one, or the first in range, is the newest one then
abbrev pub moves : Came → Bool
moves came.First = true
moves came.Next = true
moves (came.Missing n) = true
moves came.Repeated = false
moves came.Late = false
moves came.BeforeFirst = false
moves came.OutOfRange = false

-- it begins an unbroken run of samples: the first one, or one before which some are missing
abbrev pub begins : Came → Bool
begins came.First = true
begins came.Next = false
begins (came.Missing n) = true
begins came.Repeated = false
begins came.Late = false
begins came.BeforeFirst = false
begins came.OutOfRange = false

-- how many samples an answer goes on
abbrev pub goes_on : Came → ℕ
goes_on came.First = 0
goes_on came.Next = 1
goes_on (came.Missing n) = n + 1
goes_on came.Repeated = 0
goes_on came.Late = 0
goes_on came.BeforeFirst = 0
goes_on came.OutOfRange = 0

-- how many several answers go on
abbrev pub go_on : List Came → ℕ
go_on [] = 0
go_on (c ∷ cs) = goes_on c + go_on cs

-- what is known before a position: the newest sample, the unbroken run, and how far the newest sample is ahead of the first one
pub record Known : Type 0 where
  pub count : ℕ
  pub moment : ℕ
  pub run : ℕ
  pub ahead : ℕ

-- the newest sample before a position is that of the last one that moves
pub record IsNewestSample (samples : List Sample) (told : List Came) (i : ℕ) (count moment : ℕ) : Type 0 where
  pub at : ℕ
  pub sample : Sample
  pub answer : Came
  pub before : at < i
  pub is : slice_get samples at ≡ Some sample
  pub said : slice_get told at ≡ Some answer
  pub moved : moves answer ≡ true
  pub has : (sample.count ≡ count) × (sample.moment ≡ moment)
  pub none_later : (k : ℕ) (c : Came) → at < k → k < i → slice_get told k ≡ Some c → moves c ≡ false

-- the unbroken run before a position is how many samples move from the last one on that begins a run
pub record IsRun (told : List Came) (i run : ℕ) : Type 0 where
  pub at : ℕ
  pub answer : Came
  pub before : at < i
  pub said : slice_get told at ≡ Some answer
  pub begun : begins answer ≡ true
  pub none_later : (k : ℕ) (c : Came) → at < k → k < i → slice_get told k ≡ Some c → begins c ≡ false
  pub has : length (filter moves (drop at (take i told))) ≡ run

-- none of the samples before a position moves; or this is known: the newest sample is as far ahead of the first one as all of them go on
abbrev pub IsKnownOf : List Sample → List Came → ℕ → Option Known → Type 0
IsKnownOf samples told i None = (k : ℕ) (c : Came) → k < i → slice_get told k ≡ Some c → moves c ≡ false
IsKnownOf samples told i (Some k) = IsNewestSample samples told i k.count k.moment × IsRun told i k.run × (go_on (take i told) ≡ k.ahead)

-- What an advance tells, by the unbroken run and by how far the newest sample is ahead of the first one: behind the newest are copies
-- as far as the run reaches; farther back than the first one is a sample from before it.
abbrev pub by_advance : ℕ → ℕ → Advance → Came
by_advance run ahead (Ahead n) = if n == 1 then came.Next else came.Missing (n - 1)
by_advance run ahead (Back n) = if n == 0 || nat_lt n run then came.Repeated else if nat_lt ahead n then came.BeforeFirst else came.Late

-- what a sample tells, by what is known before it
abbrev pub Tells : ℕ → Option Known → Sample → Came → Type 0
Tells period None s c = c ≡ (if nat_lt s.count period then came.First else came.OutOfRange)
Tells period (Some k) s c =
    ((nat_lt s.count period ≡ false) × (c ≡ came.OutOfRange))
    ⊎ ((nat_lt s.count period ≡ true) × ((a : Advance) × IsAdvance period (s.moment - k.moment) k.count s.count a × (c ≡ by_advance k.run k.ahead a)))

-- what samples tell: each by what is known before it
pub record AreSamplesTold (period : ℕ) (samples : List Sample) (told : List Came) : Type 0 where
  pub sizes : length told ≡ length samples
  pub each : (i : ℕ) (s : Sample) (c : Came) → slice_get samples i ≡ Some s → slice_get told i ≡ Some c → (known : Option Known) × IsKnownOf samples told i known × Tells period known s c

-- what a sample tells after others
abbrev pub IsSampleToldLast : ℕ → List Sample → Sample → Came → Type 0
IsSampleToldLast period samples s c = (told : List Came) × AreSamplesTold period (samples ++ s ∷ []) (told ++ c ∷ [])

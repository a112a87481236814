-- What the samples of a stream come to in all. Numbers are sums without bound.
use Rattle.std.specs.Prelude.{◌≡◌, ℕ, ◌+◌, max, Bool, true, false, List, [], ◌∷◌, length}
use Rattle.loss_core.specs.declared.stream.Came.{Came}
use Rattle.loss_core.specs.declared.stream.Came.TheVariants as came
use Rattle.loss_core.specs.declared.stream_tally.StreamTotals.{StreamTotals}
use Rattle.loss_core.specs.SenderTotals.{kept, one_if}

-- how many samples are missing before one
abbrev pub missing_before : Came → ℕ
missing_before came.First = 0
missing_before came.Next = 0
missing_before (came.Missing n) = n
missing_before came.Repeated = 0
missing_before came.Late = 0
missing_before came.BeforeFirst = 0
missing_before came.OutOfRange = 0

-- samples are missing before it
abbrev pub is_behind_outage : Came → Bool
is_behind_outage came.First = false
is_behind_outage came.Next = false
is_behind_outage (came.Missing n) = true
is_behind_outage came.Repeated = false
is_behind_outage came.Late = false
is_behind_outage came.BeforeFirst = false
is_behind_outage came.OutOfRange = false

-- it is late
abbrev pub is_late_sample : Came → Bool
is_late_sample came.First = false
is_late_sample came.Next = false
is_late_sample (came.Missing n) = false
is_late_sample came.Repeated = false
is_late_sample came.Late = true
is_late_sample came.BeforeFirst = false
is_late_sample came.OutOfRange = false

-- it came before
abbrev pub is_repeated_sample : Came → Bool
is_repeated_sample came.First = false
is_repeated_sample came.Next = false
is_repeated_sample (came.Missing n) = false
is_repeated_sample came.Repeated = true
is_repeated_sample came.Late = false
is_repeated_sample came.BeforeFirst = false
is_repeated_sample came.OutOfRange = false

-- its count is out of range
abbrev pub is_out_of_range : Came → Bool
is_out_of_range came.First = false
is_out_of_range came.Next = false
is_out_of_range (came.Missing n) = false
is_out_of_range came.Repeated = false
is_out_of_range came.Late = false
is_out_of_range came.BeforeFirst = false
is_out_of_range came.OutOfRange = true

-- the sum of a number over what samples tell
abbrev pub sum_told : (Came → ℕ) → List Came → ℕ
sum_told number [] = 0
sum_told number (c ∷ cs) = number c + sum_told number cs

-- how many of them are so
abbrev pub count_told : (Came → Bool) → List Came → ℕ
count_told is told = sum_told (λ c. one_if (is c)) told

-- the most samples that are missing at once
abbrev pub most_missing : List Came → ℕ
most_missing [] = 0
most_missing (c ∷ cs) = max (missing_before c) (most_missing cs)

-- what samples come to that tell this
pub record AreStreamTotals (told : List Came) (totals : StreamTotals) : Type 0 where
  pub samples : totals.samples ≡ kept (length told)
  pub missing : totals.missing ≡ kept (sum_told missing_before told)
  pub late : totals.late ≡ kept (count_told is_late_sample told)
  pub repeated : totals.repeated ≡ kept (count_told is_repeated_sample told)
  pub out_of_range : totals.out_of_range ≡ kept (count_told is_out_of_range told)
  pub outages : totals.outages ≡ kept (count_told is_behind_outage told)
  pub longest : totals.longest ≡ kept (most_missing told)

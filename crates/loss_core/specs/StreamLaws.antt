-- What the definitions of streams say together.
use Rattle.std.specs.Prelude.{◌≡◌, ℕ, ◌+◌, ◌-◌, ◌*◌, ◌%◌, ◌<◌, nat_lt, if◌then◌else◌, List, [], ◌∷◌, map}
use Rattle.loss_core.specs.declared.stream.Sample.{Sample}
use Rattle.loss_core.specs.declared.stream.Came.{Came}
use Rattle.loss_core.specs.Advance.{distance}
use Rattle.loss_core.specs.Stream.{AreSamplesTold, go_on}

-- a sample as it was taken: its index without bound, of which the count is the rest by the period, and the moment at which it came
pub record Taken : Type 0 where
  pub index : ℕ
  pub moment : ℕ

-- the sample that comes of it
abbrev pub sample_of : ℕ → Taken → Sample
sample_of period t = record { count = t.index % period; moment = t.moment }

-- of two the one with the greater index
abbrev pub later : Taken → Taken → Taken
later a b = if nat_lt a.index b.index then b else a

-- Between each sample and the one of greatest index before it, the time at a rate of period samples a second and the
-- difference of the indexes are less than half a second apart: no clock drifts so far between two samples that came.
abbrev pub KeepTime : ℕ → Taken → List Taken → Type 0
KeepTime period greatest [] = Unit {0}
KeepTime period greatest (t ∷ ts) =
    (2 * distance (1000000 * t.index) (1000000 * greatest.index + (t.moment - greatest.moment) * period) < 1000000 * period) × KeepTime period (later greatest t) ts

-- the greatest of indexes
abbrev pub greatest_index : Taken → List Taken → ℕ
greatest_index greatest [] = greatest.index
greatest_index greatest (t ∷ ts) = greatest_index (later greatest t) ts

-- Over samples that keep time so, what is said to go on and to be missing adds up to the greatest index minus the first, however long samples stay away.
abbrev pub SamplesAddUp : Type 0
SamplesAddUp =
    (period : ℕ) (first : Taken) (rest : List Taken) (told : List Came) → 0 < period → KeepTime period first rest
    → AreSamplesTold period (map (sample_of period) (first ∷ rest)) told → first.index + go_on told ≡ greatest_index first rest

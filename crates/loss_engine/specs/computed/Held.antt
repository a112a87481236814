-- What is kept, by what is held.
use Rattle.std.specs.Prelude.{List}
use Rattle.loss_core.specs.Periods.{Period}
use Rattle.loss_engine.specs.declared.losses.Losses.{Losses}
use Rattle.loss_engine.specs.computed.Tracking.{Kept}

-- what is kept
abbrev pub kept_by : {A : Type 0} → Losses A → Kept
kept_by l = record { moment = l.greatest; is_back = l.is_back; tracked = l.roll }

-- the periods that are given
abbrev pub periods_by : {A : Type 0} → Losses A → List Period
periods_by l = l.periods.items

-- What is told of a sight after earlier ones.
use Rattle.std.specs.Prelude.{◌≡◌, ℕ, List, [], ◌∷◌, ◌++◌, Option, Some, None}
use Rattle.loss_core.specs.declared.finding.Finding.{Finding}
use Rattle.loss_core.specs.declared.sender.Told.{Told}
use Rattle.loss_core.specs.declared.stream.Came.{Came}
use Rattle.loss_core.specs.Findings.{came_told, frame_findings, synch_told}
use Rattle.loss_core.specs.Periods.{Period}
use Rattle.loss_core.specs.Sender.{IsToldLast}
use Rattle.loss_core.specs.Stream.{IsSampleToldLast}
use Rattle.loss_engine.specs.Sights.{Key, Shown, Sight, frame, sample, frames_of, period_for, samples_of, synchs_of}

-- the last of several, if there is one
abbrev pub last_of : List ℕ → Option ℕ
last_of [] = None
last_of (x ∷ []) = Some x
last_of (x ∷ y ∷ ys) = last_of (y ∷ ys)

-- What is told of what is shown of a key at a moment, after earlier sights. Of a sample it is what its count is, where a period is
-- given, and that smpSynch is another than before.
abbrev pub TellsShown : Option ℕ → List Sight → Key → ℕ → Shown → List Finding → Type 0
TellsShown period earlier key moment (frame p lifetime) findings =
    (told : Told) × IsToldLast (frames_of key earlier) (record { pair = p; moment = moment; lifetime = lifetime }) told
    × (findings ≡ frame_findings (record { pair = p; moment = moment; lifetime = lifetime }) told)
TellsShown None earlier key moment (sample count synch) findings = findings ≡ synch_told (last_of (synchs_of key earlier)) synch
TellsShown (Some period) earlier key moment (sample count synch) findings =
    (what : Came) × IsSampleToldLast period (samples_of key earlier) (record { count = count; moment = moment }) what
    × (findings ≡ came_told period count what ++ synch_told (last_of (synchs_of key earlier)) synch)

-- what is told of a sight after earlier ones, where streams have these periods
abbrev pub TellsSight : List Period → List Sight → Sight → List Finding → Type 0
TellsSight periods earlier s findings = TellsShown (period_for periods s.key) earlier s.key s.moment s.shown findings

-- What a control block sees of a list of events.
use Rattle.std.specs.Prelude.{ℕ, ◌+◌, max, Bool, Option, Some, None, List, [], ◌∷◌, take, slice_get, if◌then◌else◌}
use Rattle.block_core.specs.declared.block.Block.{Block}
use Rattle.subscribe_core.specs.declared.registers.Facts.{Facts}
use Rattle.subscribe_core.specs.Epoch.{Trace}
use Rattle.subscribe_core.specs.Matching.{is_of, reason_of, facts_of_frame, facts_unless_refused}
use Rattle.subscribe_core.specs.EventsRead.{Content, OfGoose, OfSampled, OfFault, OfClock, OfMode, EventRead}
use Rattle.subscribe_core.specs.Simulation.{mode_at, takes_simulated, is_switched, is_other_kind}

-- the facts of what is read, where it is a good frame of the block: one of the block against which no reason holds, by the
-- mode and by what the block takes
abbrev pub facts_of : {A : Type 0} → Block A → Bool → Bool → Content → Option Facts
facts_of b mode taken (OfGoose f) =
    if is_of f b then facts_unless_refused (reason_of (is_other_kind f mode taken) b f) (facts_of_frame f) else None
facts_of b mode taken OfSampled = None
facts_of b mode taken (OfFault fault) = None
facts_of b mode taken OfClock = None
facts_of b mode taken (OfMode on) = None

-- the same at a position, which may be past the end
abbrev pub facts_at : {A : Type 0} → Block A → Bool → Bool → Option EventRead → Option Facts
facts_at b mode taken None = None
facts_at b mode taken (Some e) = facts_of b mode taken e.content

-- the greatest of the moments, 0 for none
abbrev pub greatest_event_moment : List EventRead → ℕ
greatest_event_moment [] = 0
greatest_event_moment (e ∷ es) = max e.moment (greatest_event_moment es)

-- what the block sees of the events
abbrev pub trace_of_block : {A : Type 0} → Block A → List EventRead → Trace
trace_of_block b readings =
    record {
      now = λ i. greatest_event_moment (take (i + 1) readings);
      good = λ i. facts_at b (mode_at readings i) (takes_simulated b readings i) (slice_get readings i);
      switched = is_switched b readings;
    }

-- The octets that a publisher lends: those of the frame that it gave last.
use Rattle.std.specs.Prelude.{ℕ, Option, Some, None, List, []}
use Rattle.frame_core.specs.Written.{written_frame}
use Rattle.publish_core.specs.declared.control.Control.{Control}
use Rattle.publish_core.specs.declared.publisher.Last.{Last}
use Rattle.publish_core.specs.declared.table.Step.{Step}
use Rattle.publish_core.specs.Frames.{frame_with}
use Rattle.publish_core.specs.State.{PublisherState, change_of}
use Rattle.publish_core.specs.Table.{step_at}

-- the written form of the frame that is held, with the lifetime of its step; no octets where none is held
abbrev pub octets_of : {A : Type 0} → Control A → List Step → Option (Last A) → List ℕ
octets_of control table None = []
octets_of control table (Some l) = written_frame (frame_with control (change_of l) l.state l.sequence (step_at table l.step).live_ms)

-- the octets of the frame that a publisher gave last
abbrev pub octets_held : {A : Type 0} → PublisherState A → List ℕ
octets_held s = octets_of s.control s.table s.last

-- The written form of what octets spell.
use Rattle.std.specs.Prelude.{ℕ, List, Option, Some, None, Result, Ok, Err, if◌then◌else◌}
use Rattle.ber_core.specs.declared.fault.Fault.{Fault}
use Rattle.frame_core.specs.declared.frame.Frame.{Frame}
use Rattle.frame_core.specs.computed.FrameReading.{frame_at}
use Rattle.frame_core.specs.Written.{written_frame}
use Rattle.frame_core.specs.computed.WrittenTest.{fits}

-- the written form of a frame, where it fits
abbrev pub fitting_form : {A : Type 0} → Result (Frame A) Fault → Option (List ℕ)
fitting_form (Ok f) = if fits f then Some (written_frame f) else None
fitting_form (Err f) = None

-- the written form of the frame that octets spell, where there is one and it fits
abbrev pub written_form : List ℕ → Option (List ℕ)
written_form octets = fitting_form {A = Unit {0}} (frame_at octets)

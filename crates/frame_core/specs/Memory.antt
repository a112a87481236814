-- Which frames are kept without memory of their own.
use Rattle.std.specs.Prelude.{◌≡◌, []}
use Rattle.pdu_core.specs.Memory.{GooseNeedsNoMemory}
use Rattle.frame_core.specs.declared.frame.Apdu.{Apdu}
use Rattle.frame_core.specs.declared.frame.Apdu.TheVariants as apdus
use Rattle.frame_core.specs.declared.frame.Frame.{Frame}

-- an APDU of GOOSE that needs no memory, or one of Sampled Values without ASDUs
abbrev pub ApduNeedsNoMemory : {A : Type 0} → Apdu A → Type 0
ApduNeedsNoMemory (apdus.Goose p) = GooseNeedsNoMemory p
ApduNeedsNoMemory (apdus.Sampled p) = p.asdus ≡ []

-- such an APDU, and no trailer: such a frame needs no memory
pub record FrameNeedsNoMemory {A : Type 0} (f : Frame A) : Type 0 where
  pub apdu : ApduNeedsNoMemory f.apdu
  pub trailer : f.trailer ≡ []

-- What a subscriber goes by in an event: its moment, and what its octets spell. The addresses, the tag, the reserved fields
-- and the trailer of a frame play no part.
use Rattle.std.specs.Prelude.{◌≡◌, ℕ, Bool, List, [], ◌∷◌}
use Rattle.ber_core.specs.declared.fault.Fault.{Fault}
use Rattle.pdu_core.specs.declared.goose.GoosePdu.{GoosePdu}
use Rattle.pdu_core.specs.declared.sampled.asdu.SvPdu.{SvPdu}
use Rattle.frame_core.specs.Frame.{SpellsFrame}
use Rattle.frame_core.specs.FrameFault.{FrameFault}
use Rattle.frame_core.specs.declared.frame.Frame.{Frame}
use Rattle.frame_core.specs.declared.frame.Apdu.TheVariants as apdus
use Rattle.list_core.specs.declared.event.Event.{Event}
use Rattle.list_core.specs.declared.event.EventKind.{EventKind}
use Rattle.list_core.specs.declared.event.EventKind.TheVariants as kinds

-- a frame of GOOSE as a subscriber goes by it (IEC 61850-8-1): its APPID and its APDU, and nothing else
pub record FrameRead : Type 0 where
  pub app_id : ℕ
  pub pdu : GoosePdu (Unit {0})

-- what is read in an event: a frame of GOOSE, one of Sampled Values, the first fault of octets that spell no frame, the
-- clock, or the simulation mode set on or off
pub data Content : Type 0 where
  OfGoose : FrameRead → Content
  OfSampled : Content
  OfFault : Fault → Content
  OfClock : Content
  OfMode : Bool → Content

-- an event as it is read: its moment in microseconds, and its content
pub record EventRead : Type 0 where
  pub moment : ℕ
  pub content : Content

-- what an event of this kind holds is read as this content
abbrev pub IsContent : {A : Type 0} → EventKind A → Content → Type 0
IsContent (kinds.Frame o) (OfGoose g) =
    (f : Frame (Unit {0})) × SpellsFrame f o × (f.app_id ≡ g.app_id) × (f.apdu ≡ apdus.Goose g.pdu)
IsContent (kinds.Frame o) OfSampled =
    (f : Frame (Unit {0})) × (p : SvPdu (Unit {0})) × SpellsFrame f o × (f.apdu ≡ apdus.Sampled p)
IsContent (kinds.Frame o) (OfFault fault) = FrameFault fault o
IsContent (kinds.Frame o) OfClock = ⊥
IsContent (kinds.Frame o) (OfMode on) = ⊥
IsContent kinds.Clock (OfGoose g) = ⊥
IsContent kinds.Clock OfSampled = ⊥
IsContent kinds.Clock (OfFault fault) = ⊥
IsContent kinds.Clock OfClock = Unit {0}
IsContent kinds.Clock (OfMode on) = ⊥
IsContent (kinds.Mode set) (OfGoose g) = ⊥
IsContent (kinds.Mode set) OfSampled = ⊥
IsContent (kinds.Mode set) (OfFault fault) = ⊥
IsContent (kinds.Mode set) OfClock = ⊥
IsContent (kinds.Mode set) (OfMode on) = on ≡ set

-- an event is read so
pub record IsRead {A : Type 0} (e : Event A) (r : EventRead) : Type 0 where
  pub moment : r.moment ≡ e.moment
  pub content : IsContent e.kind r.content

-- each event of a list is read as the reading in its place
abbrev pub AreRead : {A : Type 0} → List (Event A) → List EventRead → Type 0
AreRead [] [] = Unit {0}
AreRead [] (r ∷ rs) = ⊥
AreRead (e ∷ es) [] = ⊥
AreRead (e ∷ es) (r ∷ rs) = IsRead e r × AreRead es rs

-- it sets the mode
abbrev pub IsMode : {A : Type 0} → EventKind A → Type 0
IsMode (kinds.Frame o) = ⊥
IsMode kinds.Clock = ⊥
IsMode (kinds.Mode on) = Unit {0}

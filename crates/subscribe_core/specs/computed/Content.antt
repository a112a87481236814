-- What is read in an event, as a function of its octets; laws tie it to what the octets spell.
use Rattle.std.specs.Prelude.{ℕ, Result, Ok, Err}
use Rattle.ber_core.specs.declared.fault.Fault.{Fault}
use Rattle.frame_core.specs.computed.FrameReading.{frame_at}
use Rattle.frame_core.specs.declared.frame.Frame.{Frame}
use Rattle.frame_core.specs.declared.frame.Apdu.{Apdu}
use Rattle.frame_core.specs.declared.frame.Apdu.TheVariants as apdus
use Rattle.list_core.specs.declared.event.Event.{Event}
use Rattle.list_core.specs.declared.event.EventKind.{EventKind}
use Rattle.list_core.specs.declared.event.EventKind.TheVariants as kinds
use Rattle.subscribe_core.specs.EventsRead.{Content, OfGoose, OfSampled, OfFault, OfClock, OfMode, EventRead}

-- the content of a frame with this APPID and APDU
abbrev pub content_with : ℕ → Apdu (Unit {0}) → Content
content_with app_id (apdus.Goose p) = OfGoose (record { app_id = app_id; pdu = p })
content_with app_id (apdus.Sampled p) = OfSampled

-- the content of octets, by what is read of them
abbrev pub content_by : Result (Frame (Unit {0})) Fault → Content
content_by (Ok f) = content_with f.app_id f.apdu
content_by (Err fault) = OfFault fault

-- the content of an event of this kind
abbrev pub content_of : {A : Type 0} → EventKind A → Content
content_of (kinds.Frame o) = content_by (frame_at o)
content_of kinds.Clock = OfClock
content_of (kinds.Mode on) = OfMode on

-- an event as it is read
abbrev pub reading_of : {A : Type 0} → Event A → EventRead
reading_of e = record { moment = e.moment; content = content_of e.kind }

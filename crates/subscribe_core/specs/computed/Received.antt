-- The frame that is received, as it stands in its octets.
use Rattle.pdu_core.specs.Views.{pdu_of}
use Rattle.subscribe_core.specs.declared.matching.Received.{Received}
use Rattle.subscribe_core.specs.EventsRead.{FrameRead}

-- the frame that a received one stands for
abbrev pub received_frame : Received → FrameRead
received_frame r = record { app_id = r.app_id; pdu = pdu_of r.goose }

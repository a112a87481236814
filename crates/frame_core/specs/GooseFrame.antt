-- A frame of GOOSE whose APDU is kept elsewhere.
use Rattle.std.specs.Prelude.{[]}
use Rattle.pdu_core.specs.Parts.{pdu_of_parts}
use Rattle.frame_core.specs.declared.frame.Apdu.TheVariants as apdus
use Rattle.frame_core.specs.declared.frame.Frame.{Frame}
use Rattle.frame_core.specs.declared.goose_encoding.GooseFrame.{GooseFrame}

-- the frame that has these fields, and no trailer
abbrev pub frame_of_parts : {A : Type 0} → GooseFrame A → Frame A
frame_of_parts f = record {
  destination = f.destination;
  source = f.source;
  tag = f.tag;
  app_id = f.app_id;
  reserved1 = f.reserved1;
  reserved2 = f.reserved2;
  apdu = apdus.Goose (pdu_of_parts f.parts);
  trailer = [];
}

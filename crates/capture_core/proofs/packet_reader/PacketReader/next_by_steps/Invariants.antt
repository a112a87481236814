use Rattle.std.proofs.Common.{◌≡◌, ◌≤◌}
use Rattle.capture_core.specs.PacketReader.{packet_number, packet_state, things_left}
use Rattle.capture_core.specs.computed.Steps.{PassesOver}
use Rattle.capture_core.proofs.packet_reader.PacketReader.next_by_steps.Given as goal

abbrev pub invariant-steps : goal.invariant-steps
invariant-steps g l = record {
  passed : PassesOver (packet_state g.R.Source.left g.R.Source.ending l.initial.self) (packet_state g.R.Source.left g.R.Source.ending l.self);
  number : packet_number l.self ≡ packet_number l.initial.self;
  few : things_left (packet_state g.R.Source.left g.R.Source.ending l.self) ≤ things_left (packet_state g.R.Source.left g.R.Source.ending l.initial.self);
}

abbrev pub decreases-steps : goal.decreases-steps
decreases-steps g l = things_left (packet_state g.R.Source.left g.R.Source.ending l.self)

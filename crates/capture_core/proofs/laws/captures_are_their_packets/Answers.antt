use Rattle.capture_core.proofs.SpelledPackets.{packets_read, packets_spelled}
use Rattle.capture_core.proofs.laws.captures_are_their_packets.Goals as goal

pub returns : goal.returns
returns c = record { read = packets_read; spelled = packets_spelled }

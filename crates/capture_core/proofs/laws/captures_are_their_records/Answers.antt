use Rattle.capture_core.proofs.SpelledCaptures.{read_is_spelled, spelled_is_read}
use Rattle.capture_core.proofs.laws.captures_are_their_records.Goals as goal

pub returns : goal.returns
returns c = record { read = spelled_is_read; spelled = read_is_spelled }

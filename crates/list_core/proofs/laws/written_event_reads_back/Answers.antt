use Rattle.list_core.proofs.WrittenLines.{written-first}
use Rattle.list_core.proofs.laws.written_event_reads_back.Goals as goal

pub returns : goal.returns
returns g c = written-first

use Rattle.pdu_core.proofs.WrittenSpelled as spelled
use Rattle.pdu_core.proofs.SampledWrittenSpelled.{written_sv_is_spelled}
use Rattle.pdu_core.proofs.laws.written_is_spelled.Goals as goal

pub returns-clause-goose : goal.returns-clause-goose
returns-clause-goose g c = spelled.written_is_spelled

pub returns-clause-sv : goal.returns-clause-sv
returns-clause-sv g c = written_sv_is_spelled

use Rattle.std.proofs.Common.{ap}
use Rattle.frame_core.specs.SkipOther.{event_where}
use Rattle.frame_core.proofs.skip_other.SkipOther.leave.Goals as goal

pub returns-in-Some-clause-event : goal.returns-in-Some-clause-event
returns-in-Some-clause-event g c = ap (λ o. event_where o c.args.event) c.in-Some.ensures

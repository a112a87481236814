use Rattle.repeat_core.proofs.MembersHere.{same_there, some_there}
use Rattle.repeat_core.proofs.showing.known_members.Goals as goal

pub members-requires-clause-accepted : goal.members-requires-clause-accepted
members-requires-clause-accepted c = some_there _ c.requires.spelled

pub returns-clause-value : goal.returns-clause-value
returns-clause-value c = same_there _ _ c.requires.spelled c.members.ensures.spelled

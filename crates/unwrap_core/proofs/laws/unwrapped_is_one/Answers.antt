use Rattle.unwrap_core.proofs.UnwrappedLaws as laws
use Rattle.unwrap_core.proofs.laws.unwrapped_is_one.Goals as goal

pub returns-clause-each : goal.returns-clause-each
returns-clause-each c = laws.each_is_unwrapped

pub returns-clause-one : goal.returns-clause-one
returns-clause-one c = laws.unwrapped_is_one

pub returns-clause-bare : goal.returns-clause-bare
returns-clause-bare c = laws.unwrapped_is_bare

pub returns-clause-left : goal.returns-clause-left
returns-clause-left c = laws.bare_is_left

pub returns-clause-taken : goal.returns-clause-taken
returns-clause-taken c = laws.taken_out_is_one

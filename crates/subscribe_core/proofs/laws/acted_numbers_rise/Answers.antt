use Rattle.subscribe_core.specs.Sight.{trace_of_block}
use Rattle.subscribe_core.proofs.Numbers.{numbers_rise, numbers_below, acted_where_in_time}
use Rattle.subscribe_core.proofs.laws.acted_numbers_rise.Goals as goal

pub returns-clause-rise : goal.returns-clause-rise
returns-clause-rise g c = λ block events. numbers_rise (trace_of_block block events)

pub returns-clause-below : goal.returns-clause-below
returns-clause-below g c = λ block events. numbers_below (trace_of_block block events)

pub returns-clause-in_time : goal.returns-clause-in_time
returns-clause-in_time g c = λ block events. acted_where_in_time (trace_of_block block events)

use Rattle.std.proofs.Common.{rules}
use Rattle.date_core.proofs.Years.{kept_year, shown}
use Rattle.date_core.proofs.date.civil_of.Goals as goal

pub overflow_cast-result : goal.overflow_cast-result
overflow_cast-result c =
    let s = shown c.from_days_since_min-date.result c.args.days c.from_days_since_min-date.ensures in
    rw (s.is_year, kept_year s.year s.high) (tt, search rules)

pub returns-clause-low : goal.returns-clause-low
returns-clause-low c =
    let s = shown c.from_days_since_min-date.result c.args.days c.from_days_since_min-date.ensures in
    rw (s.is_year, kept_year s.year s.high) s.low

pub returns-clause-value : goal.returns-clause-value
returns-clause-value c =
    let s = shown c.from_days_since_min-date.result c.args.days c.from_days_since_min-date.ensures in
    rw (s.is_year, kept_year s.year s.high) s.count

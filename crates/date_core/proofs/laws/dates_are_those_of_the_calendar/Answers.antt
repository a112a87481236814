use Rattle.date_core.proofs.Dates.{dates_are_had, moments_have_dates, one_moment_each, text_behind}
use Rattle.date_core.proofs.laws.dates_are_those_of_the_calendar.Goals as goal

pub returns : goal.returns
returns c = record { has = moments_have_dates; had = dates_are_had; later = text_behind; one = one_moment_each }

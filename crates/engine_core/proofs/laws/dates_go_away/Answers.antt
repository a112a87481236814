use Rattle.engine_core.proofs.DatesAway as away
use Rattle.engine_core.proofs.laws.dates_go_away.Goals as goal

pub returns : goal.returns
returns c = record { one = away.dates_go_away; each = away.dates_go_each; dash = away.dash_goes_away }

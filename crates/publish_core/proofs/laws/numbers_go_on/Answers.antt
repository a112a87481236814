use Rattle.publish_core.proofs.NumberLaws as numbers
use Rattle.publish_core.proofs.laws.numbers_go_on.Goals as goal

pub returns : goal.returns
returns c = numbers.numbers_go_on

use Rattle.list_core.proofs.WrittenLines.{version-first}
use Rattle.list_core.proofs.laws.version_comes_first.Goals as goal

pub returns : goal.returns
returns g c = version-first _

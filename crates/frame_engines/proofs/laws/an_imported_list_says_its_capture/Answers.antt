use Rattle.frame_engines.proofs.ImportedLists.{imported_says}
use Rattle.frame_engines.proofs.laws.an_imported_list_says_its_capture.Goals as goal

pub returns : goal.returns
returns g c = imported_says _

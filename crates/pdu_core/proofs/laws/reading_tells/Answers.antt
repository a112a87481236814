use Rattle.pdu_core.specs.Goose.{goose_items}
use Rattle.pdu_core.proofs.GooseLaws.{goose_found, goose_again, goose_wrong, goose_wrong_again}
use Rattle.pdu_core.proofs.SvLaws.{sv_again, sv_wrong, sv_wrong_again}
use Rattle.pdu_core.proofs.SvShown.{sv_spelled}
use Rattle.pdu_core.proofs.laws.reading_tells.Goals as goal

pub returns-clause-told : goal.returns-clause-told
returns-clause-told g c = λ o p e order within. ((λ q s. goose_again o p e order within q s), (λ f w. goose_wrong_again o p e order within f w))

pub returns-clause-only : goal.returns-clause-only
returns-clause-only g c = λ o p e order within. ((λ q is. goose_found o p e order within (goose_items q) is), (λ f is. goose_wrong o p e order within f is))

pub returns-clause-sv_told : goal.returns-clause-sv_told
returns-clause-sv_told g c = λ o p e order within. ((λ q s. sv_again o p e order within q s), (λ f w. sv_wrong_again o p e order within f w))

pub returns-clause-sv_only : goal.returns-clause-sv_only
returns-clause-sv_only g c = λ o p e order within. ((λ q is. sv_spelled o p e order within q is), (λ f is. sv_wrong o p e order within f is))

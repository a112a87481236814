use Rattle.subscribe_core.proofs.Flagging.{flagged_added}
use Rattle.subscribe_core.proofs.flagged.Flagged.add.Goals as goal

pub returns-clause-added : goal.returns-clause-added
returns-clause-added g c = λ registers old new here real simulated all.
    rw c.in_ok-push.ensures.items (flagged_added _ registers _ old new here real simulated all)

use Rattle.subscribe_core.proofs.Nodes.{renewed}
use Rattle.subscribe_core.proofs.deadlines.Deadlines.renew.Goals as goal

pub returns : goal.returns
returns g c = λ held new lt e k.
    renewed c.args.self.now c.put.new.self held c.args.at c.last_before.result c.args.deadline new c.last_before.ensures c.requires lt e
    c.put.ensures.length c.put.ensures.lesser c.put.ensures.here c.put.ensures.others k

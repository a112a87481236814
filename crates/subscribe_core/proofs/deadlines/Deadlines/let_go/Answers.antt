use Rattle.subscribe_core.proofs.Nodes.{let_go}
use Rattle.subscribe_core.proofs.deadlines.Deadlines.let_go.Goals as goal

pub returns : goal.returns
returns g c = λ held k. let_go c.args.self.now c.put.new.self held c.args.at c.put.ensures.length c.put.ensures.lesser c.put.ensures.here c.put.ensures.others k

use Rattle.std.proofs.Common.{refl}
use Rattle.known_core.specs.computed.Held.{position_of}
use Rattle.inventory_engine.proofs.KeptBlocks.{said_there}
use Rattle.inventory_engine.proofs.kept_block.KeptBlock.is_known.Goals as goal

pub returns-in-Some : goal.returns-in-Some
returns-in-Some g c how s line told key text =
    said_there how s c.args.known.now (position_of c.args.known.now c.get.result) c.in-Some.one.now c.args.self.now.block line c.in-Some.ensures.within c.in-Some.ensures.value
    (c.is_same.ensures.key c.if-is_same.true) (c.is_same.ensures.text c.if-is_same.true) key text

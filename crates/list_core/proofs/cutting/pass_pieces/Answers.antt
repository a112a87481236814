use Rattle.std.proofs.Common.{rules}
use Rattle.list_core.proofs.Cuts.{HasNo-piece}
use Rattle.list_core.proofs.cutting.pass_pieces.Goals as goal

pub pieces-preserved : goal.pieces-preserved
pieces-preserved c = record {
  within = search rules;
  before = HasNo-piece c.args.wanted c.args.octets.now c.pieces.start c.args.piece c.pieces.invariant.before (c.lacks.ensures (search rules));
}

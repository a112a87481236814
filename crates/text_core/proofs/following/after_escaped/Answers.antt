use Rattle.text_core.specs.Pieces.{escaped}
use Rattle.text_core.proofs.Afters.{stops_at}
use Rattle.text_core.proofs.following.after_escaped.Goals as goal

pub returns-in-None : goal.returns-in-None
returns-in-None c =
    stops_at escaped c.args.octets.now c.loop-octet.octet-index 0 c.loop-octet-test.true c.args.text.now c.loop-octet.rest.now c.loop-octet.invariant c.in-None.ensures

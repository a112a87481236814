use Rattle.std.proofs.Common.{◌≡◌, ◌-◌}
use Rattle.list_core.specs.ItemReader.{item_state, item_number}
use Rattle.list_core.specs.computed.PrivateCalls.{SkipsLines}
use Rattle.list_core.proofs.item_reader.ItemReader.next.Given as goal

abbrev pub invariant-tries : goal.invariant-tries
invariant-tries g l = record {
  skipped : SkipsLines g.G.LineRules.rules (item_state g.R.Source.left g.R.Source.ending l.initial.self) (item_state g.R.Source.left g.R.Source.ending l.self);
  number : item_number l.self ≡ item_number l.initial.self;
}

abbrev pub decreases-tries : goal.decreases-tries
decreases-tries g l = 1000000 - (item_state g.R.Source.left g.R.Source.ending l.self).taken

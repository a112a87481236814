use Rattle.std.proofs.Common.{refl, ◌∙◌}
use Rattle.list_core.proofs.ItemReaders.{skips-then, skips-skips, skips-none}
use Rattle.list_core.proofs.item_reader.ItemReader.next.Goals as goal

pub tries-init : goal.tries-init
tries-init g c = record { skipped = skips-none _ _; number = refl }

pub tries-preserved : goal.tries-preserved
tries-preserved g c = record {
  skipped = skips-skips _ _ _ _ c.tries.invariant.skipped c.in-Skipped.ensures.0;
  number = c.in-Skipped.ensures.3 ∙ c.tries.invariant.number;
}

pub returns-in-Answered-clause-item : goal.returns-in-Answered-clause-item
returns-in-Answered-clause-item g c = skips-then _ _ _ _ _ c.tries.invariant.skipped c.in-Answered.ensures.0

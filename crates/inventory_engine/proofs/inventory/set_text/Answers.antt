use Rattle.std.proofs.Common.{◌∙◌, ap}
use Rattle.inventory_engine.specs.computed.KnownTexts.{known_key}
use Rattle.inventory_engine.proofs.inventory.set_text.Goals as goal

pub returns-clause-written : goal.returns-clause-written
returns-clause-written g c = record {
  one = c.in_ok-one.one;
  written = c.set.ensures.written;
  same_key = λ d. c.in_ok-one.ensures.key ∙ ap known_key (c.get.ensures d);
  has_text = c.in_ok-one.ensures.text;
  runs = c.set.ensures.runs;
}

use Rattle.std.proofs.Common.{◌≡◌, ◌++◌, ◌≤◌, length, take}
use Rattle.std.specs.List.{flat_map}
use Rattle.loss_core.specs.Findings.{has_loss}
use Rattle.loss_engine.specs.KeySaid.{key_said}
use Rattle.loss_engine.specs.LossText.{told_line}
use Rattle.loss_core.specs.computed.Given.{given}
use Rattle.loss_engine.proofs.texts.told.put_findings.Given as goal

abbrev pub invariant-loop-finding : goal.invariant-loop-finding
invariant-loop-finding g l = record {
  within : l.finding-index ≤ length l.findings;
  text : l.out.items ≡ l.initial.out.items ++ flat_map (told_line l.heading.form l.heading.number l.heading.moment (key_said l.key)) (given (take l.finding-index l.findings));
  found : l.found ≡ has_loss (given (take l.finding-index l.findings));
}

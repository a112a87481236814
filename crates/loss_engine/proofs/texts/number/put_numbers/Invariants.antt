use Rattle.std.proofs.Common.{◌≡◌, ◌++◌, take}
use Rattle.std.specs.List.{flat_map}
use Rattle.loss_engine.specs.computed.NumberText.{number_text}
use Rattle.loss_engine.proofs.texts.number.put_numbers.Given as goal

abbrev pub invariant-loop-number : goal.invariant-loop-number
invariant-loop-number g l = l.out.items ≡ l.initial.out.items ++ flat_map number_text (take l.number-index l.numbers)

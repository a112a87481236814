use Rattle.loss_engine.specs.LossLine.{sender_numbers}
use Rattle.loss_engine.specs.LossObject.{sender_fields}
use Rattle.loss_engine.proofs.texts.closing.put_sender_total.Goals as goal

pub returns-in-Text : goal.returns-in-Text
returns-in-Text g c = rw c.in-Text.is (c.put_line.ensures (sender_numbers c.args.totals) c.sender_numbers.ensures)

pub returns-in-Object : goal.returns-in-Object
returns-in-Object g c = rw c.in-Object.is (c.put_object.ensures (sender_fields c.args.totals) c.sender_fields.ensures)

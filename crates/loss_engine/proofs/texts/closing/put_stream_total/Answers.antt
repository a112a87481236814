use Rattle.loss_engine.specs.LossLine.{stream_numbers}
use Rattle.loss_engine.specs.LossObject.{stream_fields}
use Rattle.loss_engine.proofs.texts.closing.put_stream_total.Goals as goal

pub returns-in-Text : goal.returns-in-Text
returns-in-Text g c = rw c.in-Text.is (c.put_line.ensures (stream_numbers c.args.totals) c.stream_numbers.ensures)

pub returns-in-Object : goal.returns-in-Object
returns-in-Object g c = rw c.in-Object.is (c.put_object.ensures (stream_fields c.args.totals) c.stream_fields.ensures)

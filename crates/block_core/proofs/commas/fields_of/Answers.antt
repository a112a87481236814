use Rattle.std.proofs.Common.{arith}
use Rattle.block_core.proofs.CommaLemmas.{more_fields}
use Rattle.block_core.proofs.commas.fields_of.Goals as goal

pub returns : goal.returns
returns c = more_fields c.loop-field.fields.items c.loop-field.rest.now c.args.text.now (omega (arith, c.loop-field.invariant.size, c.loop-field-test.false)) c.loop-field.invariant.cut

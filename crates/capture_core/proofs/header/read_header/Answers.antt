use Rattle.std.proofs.Common.{arith}
use Rattle.list_core.proofs.Devices.{Gives-from_Consumes}
use Rattle.capture_core.proofs.Headers.{capture_first}
use Rattle.capture_core.proofs.header.read_header.Goals as goal

pub returns-in-Some-clause-header : goal.returns-in-Some-clause-header
returns-in-Some-clause-header g c = record {
  given = c.fill.new.into;
  took = c.in-Whole.ensures.0;
  only_open = c.in-Whole.ensures.1;
  few = omega (arith, c.fill.auto.into);
  reads = λ more y f. capture_first y c.fill.new.into more _ c.fill.auto.into c.in-Some.ensures;
}

pub returns-in-None-clause-header : goal.returns-in-None-clause-header
returns-in-None-clause-header g c = record {
  given = c.fill.new.into;
  took = Gives-from_Consumes _ _ _ c.in-Whole.ensures.0;
  only_open = c.in-Whole.ensures.1;
  few = omega (arith, c.fill.auto.into);
  reads = λ more y f. capture_first y c.fill.new.into more _ c.fill.auto.into c.in-None.ensures;
}

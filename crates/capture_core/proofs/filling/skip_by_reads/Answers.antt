use Rattle.std.proofs.Common.{take, ◌++◌, ◌∙◌, arith}
use Rattle.std.proofs.lemmas.List.{length-append, length-drop, length-take}
use Rattle.list_core.proofs.Devices.{Consumes-append, Gives-append}
use Rattle.list_core.proofs.Readers.{OnlyOpen-append}
use Rattle.capture_core.proofs.filling.skip_by_reads.Goals as goal

pub pieces-preserved : goal.pieces-preserved
pieces-preserved g c =
    let before = c.pieces.invariant.passed in
    let sized = c.pieces.invariant.sized in
    let count = simp length-take at c.fill.auto.into in
    let filled = c.in-Whole.ensures in
    record {
      sized = simp (length-append, length-drop) (omega (arith, count, sized));
      passed = (
        before.0 ++ c.fill.new.into,
        simp length-append (omega (arith, before.1, count, sized)),
        Consumes-append _ _ _ _ _ before.2 filled.0,
        OnlyOpen-append _ _ _ _ _ before.3 filled.1,
        filled.2 ∙ before.4,
      );
    }

pub returns-in-Short : goal.returns-in-Short
returns-in-Short g c =
    let before = c.pieces.invariant.passed in
    let sized = c.pieces.invariant.sized in
    let count = simp length-take at c.fill.auto.into in
    let filled = c.in-Short.ensures in (
      before.0 ++ take c.in-Short.field-0 c.fill.new.into,
      simp (length-append, length-take) (omega (arith, before.1, filled.0, count, sized)),
      Gives-append _ _ _ _ _ before.2 filled.1,
      OnlyOpen-append _ _ _ _ _ before.3 filled.2,
      filled.3,
    )

use Rattle.std.proofs.Common.{◌++◌, ◌∙◌, ap, sym, arith, append_assoc}
use Rattle.std.proofs.lemmas.List.{length-append}
use Rattle.std.proofs.lemmas.Result.{err_from_is_err_and}
use Rattle.list_core.proofs.Devices.{Consumes-append}
use Rattle.list_core.proofs.Readers.{OnlyOpen-append}
use Rattle.capture_core.specs.Interfaces.{options_in}
use Rattle.capture_core.proofs.Parts.{short_behind}
use Rattle.capture_core.proofs.options.read_options.Goals as goal

pub returns-in_err-after : goal.returns-in_err-after
returns-in_err-after g c =
    let b = c.options.invariant in
    let e = err_from_is_err_and c.from_residual.result c.from_residual.ensures.1 in
    rw e.1 (short_behind b.0 _ _ _ _ _ _ c.options.left c.args.size (omega (arith, b.1)) b.2 b.3 c.in_err-after.ensures)

pub options-preserved : goal.options-preserved
options-preserved g c =
    let b = c.options.invariant in
    let o = rw c.in-More.is at c.in_ok-after.ensures in
    let says = o.1 in (
      b.0 ++ o.0,
      simp length-append (omega (arith, b.1, says.0, says.2)),
      Consumes-append _ _ _ _ _ b.2 o.2,
      OnlyOpen-append _ _ _ _ _ b.3 o.3,
      o.4 ∙ b.4,
      λ rest l. ap (λ k. options_in c.args.order k c.args.plain) (append_assoc b.0 o.0 rest)
          ∙ b.5 (o.0 ++ rest) (simp length-append (omega (arith, says.0, says.2, l))) ∙ says.3 rest (omega (arith, says.0, says.2, l)),
    )

pub returns-in-Last : goal.returns-in-Last
returns-in-Last g c =
    let b = c.options.invariant in
    let o = rw c.in-Last.is at c.in_ok-after.ensures in
    let says = o.1 in (
      b.0 ++ o.0,
      simp length-append (omega (arith, b.1, says.0)),
      Consumes-append _ _ _ _ _ b.2 o.2,
      OnlyOpen-append _ _ _ _ _ b.3 o.3,
      o.4 ∙ b.4,
      says.1 ∙ sym (b.5 o.0 says.0),
    )

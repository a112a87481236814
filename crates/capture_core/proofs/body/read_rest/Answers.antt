use Rattle.std.proofs.Common.{◌-◌, ◌++◌, ◌∙◌, subst, arith}
use Rattle.std.proofs.lemmas.List.{length-append}
use Rattle.std.proofs.lemmas.Result.{err_from_is_err_and}
use Rattle.list_core.proofs.Devices.{Consumes-append}
use Rattle.list_core.proofs.Readers.{OnlyOpen-append}
use Rattle.capture_core.specs.Blocks.{body_said}
use Rattle.capture_core.specs.computed.Sections.{IsSaidAs, settled}
use Rattle.capture_core.proofs.BlocksRead.{rest_bad, rest_good}
use Rattle.capture_core.proofs.Parts.{short_behind}
use Rattle.capture_core.proofs.body.read_rest.Goals as goal

pub returns-in_err-read_end : goal.returns-in_err-read_end
returns-in_err-read_end g c =
    let b = c.in_ok-said.ensures in
    let e = err_from_is_err_and c.from_residual-in_err-read_end.result c.from_residual-in_err-read_end.ensures.1 in
    rw (e.1, e.2) (short_behind b.0 _ _ _ _ _ _ 4 (c.args.total - 8) (omega (arith, b.1, c.requires)) b.2 b.3 c.in_err-read_end.ensures)

pub returns-then-branch : goal.returns-then-branch
returns-then-branch g c =
    let b = c.in_ok-said.ensures in
    let e = c.in_ok-read_end.ensures in (
      b.0 ++ e.0,
      simp length-append (omega (arith, b.1, e.1, c.requires)),
      Consumes-append _ _ _ _ _ b.2 e.2,
      OnlyOpen-append _ _ _ _ _ b.3 e.3,
      e.4 ∙ b.4,
      subst (IsSaidAs c.in_ok-said.said) (rest_good c.args.section.order c.args.total b.0 e.0 (body_said (settled c.args.section) c.args.kind) (omega (arith, b.1, c.requires)) _ e.5 c.if-branch.true) b.5,
    )

pub returns-else-branch : goal.returns-else-branch
returns-else-branch g c =
    let b = c.in_ok-said.ensures in
    let e = c.in_ok-read_end.ensures in (
      b.0 ++ e.0,
      simp length-append (omega (arith, b.1, e.1, c.requires)),
      Consumes-append _ _ _ _ _ b.2 e.2,
      OnlyOpen-append _ _ _ _ _ b.3 e.3,
      e.4 ∙ b.4,
      rest_bad c.args.section.order c.args.total b.0 e.0 (body_said (settled c.args.section) c.args.kind) (omega (arith, b.1, c.requires)) _ e.5 c.if-branch.false,
    )

use Rattle.std.proofs.Common.{◌-◌, ◌++◌, ◌∙◌, ap, sym, arith}
use Rattle.std.proofs.lemmas.List.{length-append}
use Rattle.std.proofs.lemmas.Result.{err_from_is_err_and}
use Rattle.list_core.proofs.Devices.{Consumes-append}
use Rattle.list_core.proofs.Readers.{OnlyOpen-append}
use Rattle.capture_core.specs.Numbers.{number_at}
use Rattle.capture_core.proofs.BlocksRead.{version_bad, version_one, version_other}
use Rattle.capture_core.proofs.Parts.{short_behind}
use Rattle.capture_core.proofs.block.read_version.Goals as goal

pub returns-in_err-pass : goal.returns-in_err-pass
returns-in_err-pass g c =
    let t = c.in_ok-take.ensures in
    let e = err_from_is_err_and c.from_residual-in_err-pass.result c.from_residual-in_err-pass.ensures.1 in
    rw e.1 (short_behind t.0 _ _ _ _ _ _ (c.args.total - 20) (c.args.total - 12) (omega (arith, t.1, c.requires)) t.2 t.3 c.in_err-pass.ensures)

pub returns-in_err-read_end : goal.returns-in_err-read_end
returns-in_err-read_end g c =
    let t = c.in_ok-take.ensures in
    let p = c.in_ok-pass.ensures in
    let e = err_from_is_err_and c.from_residual-in_err-read_end.result c.from_residual-in_err-read_end.ensures.1 in
    rw e.1 (short_behind (t.0 ++ p.0) _ _ _ _ _ _ 4 (c.args.total - 12) (simp length-append (omega (arith, t.1, p.1, c.requires))) (Consumes-append _ _ _ _ _ t.2 p.2) (OnlyOpen-append _ _ _ _ _ t.3 p.3) c.in_err-read_end.ensures)

pub returns-then-not-branch : goal.returns-then-not-branch
returns-then-not-branch g c =
    let t = c.in_ok-take.ensures in
    let p = c.in_ok-pass.ensures in
    let e = c.in_ok-read_end.ensures in (
      (t.0 ++ p.0) ++ e.0,
      simp length-append (omega (arith, t.1, p.1, e.1, c.requires)),
      Consumes-append _ _ _ _ _ (Consumes-append _ _ _ _ _ t.2 p.2) e.2,
      OnlyOpen-append _ _ _ _ _ (OnlyOpen-append _ _ _ _ _ t.3 p.3) e.3,
      e.4 ∙ p.4 ∙ t.4,
      version_bad c.args.order c.args.why c.args.total t.0 p.0 e.0 t.1 (omega (arith, p.1, c.requires)) e.1 _ e.5 c.if-not-branch.true,
    )

pub returns-then-short_at-eq-MAJOR_VERSION : goal.returns-then-short_at-eq-MAJOR_VERSION
returns-then-short_at-eq-MAJOR_VERSION g c =
    let t = c.in_ok-take.ensures in
    let p = c.in_ok-pass.ensures in
    let e = c.in_ok-read_end.ensures in
    let major = ap (λ l. number_at c.args.order 2 l 0) t.5 ∙ sym c.short_at.ensures in (
      (t.0 ++ p.0) ++ e.0,
      simp length-append (omega (arith, t.1, p.1, e.1, c.requires)),
      Consumes-append _ _ _ _ _ (Consumes-append _ _ _ _ _ t.2 p.2) e.2,
      OnlyOpen-append _ _ _ _ _ (OnlyOpen-append _ _ _ _ _ t.3 p.3) e.3,
      e.4 ∙ p.4 ∙ t.4,
      version_one c.args.order c.args.why c.args.total t.0 p.0 e.0 t.1 (omega (arith, p.1, c.requires)) e.1 _ e.5 c.if-not-branch.false (major ∙ c.if-short_at-eq-MAJOR_VERSION.true),
    )

pub returns-else-short_at-eq-MAJOR_VERSION : goal.returns-else-short_at-eq-MAJOR_VERSION
returns-else-short_at-eq-MAJOR_VERSION g c =
    let t = c.in_ok-take.ensures in
    let p = c.in_ok-pass.ensures in
    let e = c.in_ok-read_end.ensures in
    let major = ap (λ l. number_at c.args.order 2 l 0) t.5 ∙ sym c.short_at.ensures in (
      (t.0 ++ p.0) ++ e.0,
      simp length-append (omega (arith, t.1, p.1, e.1, c.requires)),
      Consumes-append _ _ _ _ _ (Consumes-append _ _ _ _ _ t.2 p.2) e.2,
      OnlyOpen-append _ _ _ _ _ (OnlyOpen-append _ _ _ _ _ t.3 p.3) e.3,
      e.4 ∙ p.4 ∙ t.4,
      version_other c.args.order c.args.why c.args.total t.0 p.0 e.0 t.1 (omega (arith, p.1, c.requires)) e.1 _ e.5 c.if-not-branch.false (λ n. c.if-short_at-eq-MAJOR_VERSION.false (sym major ∙ n)),
    )

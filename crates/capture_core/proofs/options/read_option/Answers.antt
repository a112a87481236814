use Rattle.std.proofs.Common.{◌-◌, ◌++◌, ◌∙◌, ap, sym, arith}
use Rattle.std.proofs.lemmas.List.{length-append}
use Rattle.std.proofs.lemmas.Result.{err_from_is_err_and}
use Rattle.list_core.proofs.Devices.{Consumes-append}
use Rattle.list_core.proofs.Readers.{OnlyOpen-append}
use Rattle.capture_core.specs.Numbers.{number_at}
use Rattle.capture_core.proofs.OptionsRead.{ended_options, few_options, option_refused, option_taken, past_options}
use Rattle.capture_core.proofs.Parts.{short_behind}
use Rattle.capture_core.proofs.options.read_option.Goals as goal

pub returns-then-left-lt4 : goal.returns-then-left-lt4
returns-then-left-lt4 g c =
    let p = c.in_ok-pass.ensures in
    (p.0, (p.1, few_options c.args.order p.0 c.args.interface (omega (arith, p.1))), p.2, p.3, p.4)

pub returns-in_err-pass-2 : goal.returns-in_err-pass-2
returns-in_err-pass-2 g c =
    let t = c.in_ok-take.ensures in
    let e = err_from_is_err_and c.from_residual-in_err-pass-2.result c.from_residual-in_err-pass-2.ensures.1 in
    rw e.1 (short_behind t.0 _ _ _ _ _ _ (c.args.left - 4) c.args.left (omega (arith, t.1)) t.2 t.3 c.in_err-pass-2.ensures)

pub returns-then-code-eq-END : goal.returns-then-code-eq-END
returns-then-code-eq-END g c =
    let t = c.in_ok-take.ensures in
    let p = c.in_ok-pass-2.ensures in
    let code = c.short_at-code.ensures ∙ ap (λ l. number_at c.args.order 2 l 0) (sym t.5) in
    let size = c.short_at-size.ensures ∙ ap (λ l. number_at c.args.order 2 l 2) (sym t.5) in (
      t.0 ++ p.0,
      (simp length-append (omega (arith, t.1, p.1)), ended_options c.args.order t.0 p.0 c.args.interface _ _ t.1 code size c.if-code-eq-END.true),
      Consumes-append _ _ _ _ _ t.2 p.2,
      OnlyOpen-append _ _ _ _ _ t.3 p.3,
      p.4 ∙ t.4,
    )

pub returns-in_err-pass-3 : goal.returns-in_err-pass-3
returns-in_err-pass-3 g c =
    let t = c.in_ok-take.ensures in
    let e = err_from_is_err_and c.from_residual-in_err-pass-3.result c.from_residual-in_err-pass-3.ensures.1 in
    rw e.1 (short_behind t.0 _ _ _ _ _ _ (c.args.left - 4) c.args.left (omega (arith, t.1)) t.2 t.3 c.in_err-pass-3.ensures)

pub returns-then-left-padded : goal.returns-then-left-padded
returns-then-left-padded g c =
    let t = c.in_ok-take.ensures in
    let p = c.in_ok-pass-3.ensures in
    let code = c.short_at-code.ensures ∙ ap (λ l. number_at c.args.order 2 l 0) (sym t.5) in
    let size = c.short_at-size.ensures ∙ ap (λ l. number_at c.args.order 2 l 2) (sym t.5) in (
      t.0 ++ p.0,
      (simp length-append (omega (arith, t.1, p.1)), past_options c.args.order t.0 p.0 c.args.interface _ _ t.1 code size c.if-code-eq-END.false (omega (arith, p.1, c.padded.ensures))),
      Consumes-append _ _ _ _ _ t.2 p.2,
      OnlyOpen-append _ _ _ _ _ t.3 p.3,
      p.4 ∙ t.4,
    )

pub returns-in_err-after : goal.returns-in_err-after
returns-in_err-after g c =
    let t = c.in_ok-take.ensures in
    let e = err_from_is_err_and c.from_residual-in_err-after.result c.from_residual-in_err-after.ensures.1 in
    rw e.1 (short_behind t.0 _ _ _ _ _ _ _ c.args.left (omega (arith, t.1, c.padded.ensures)) t.2 t.3 c.in_err-after.ensures)

pub returns-in_err-pass-in-None : goal.returns-in_err-pass-in-None
returns-in_err-pass-in-None g c =
    let t = c.in_ok-take.ensures in
    let v = c.in_ok-after.ensures in
    let e = err_from_is_err_and c.from_residual-in_err-pass-in-None.result c.from_residual-in_err-pass-in-None.ensures.1 in
    rw e.1 (short_behind (t.0 ++ v.0) _ _ _ _ _ _ (c.args.left - 4 - c.padded-in-None.result) c.args.left (simp length-append (omega (arith, t.1, v.1, c.padded.ensures, c.padded-in-None.ensures)))
    (Consumes-append _ _ _ _ _ t.2 v.2) (OnlyOpen-append _ _ _ _ _ t.3 v.3) c.in_err-pass-in-None.ensures)

pub returns-in-Some : goal.returns-in-Some
returns-in-Some g c =
    let t = c.in_ok-take.ensures in
    let v = c.in_ok-after.ensures in
    let code = c.short_at-code.ensures ∙ ap (λ l. number_at c.args.order 2 l 0) (sym t.5) in
    let size = c.short_at-size.ensures ∙ ap (λ l. number_at c.args.order 2 l 2) (sym t.5) in (
      t.0 ++ v.0,
      (
        simp length-append (omega (arith, t.1, v.1, c.padded-in-Some.ensures)),
        omega arith,
        omega (arith, c.padded.ensures, c.padded-in-Some.ensures),
        λ rest l. option_taken c.args.order t.0 v.0 rest c.args.interface c.in-Some.after _ _ t.1 code size c.if-code-eq-END.false v.1 (sym c.in-Some.is ∙ v.5),
      ),
      Consumes-append _ _ _ _ _ t.2 v.2,
      OnlyOpen-append _ _ _ _ _ t.3 v.3,
      v.4 ∙ t.4,
    )

pub returns-in_ok-pass-in-None : goal.returns-in_ok-pass-in-None
returns-in_ok-pass-in-None g c =
    let t = c.in_ok-take.ensures in
    let v = c.in_ok-after.ensures in
    let p = c.in_ok-pass-in-None.ensures in
    let code = c.short_at-code.ensures ∙ ap (λ l. number_at c.args.order 2 l 0) (sym t.5) in
    let size = c.short_at-size.ensures ∙ ap (λ l. number_at c.args.order 2 l 2) (sym t.5) in (
      (t.0 ++ v.0) ++ p.0,
      (
        simp length-append (omega (arith, t.1, v.1, p.1, c.padded.ensures, c.padded-in-None.ensures)),
        option_refused c.args.order t.0 v.0 p.0 c.args.interface _ _ t.1 code size c.if-code-eq-END.false v.1 (sym c.in-None.is ∙ v.5),
      ),
      Consumes-append _ _ _ _ _ (Consumes-append _ _ _ _ _ t.2 v.2) p.2,
      OnlyOpen-append _ _ _ _ _ (OnlyOpen-append _ _ _ _ _ t.3 v.3) p.3,
      p.4 ∙ v.4 ∙ t.4,
    )

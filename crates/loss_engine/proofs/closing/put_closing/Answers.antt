use Rattle.std.proofs.Common.{◌∙◌, sym}
use Rattle.std.proofs.lemmas.Result.{err_from_is_err_and}
use Rattle.loss_engine.specs.LossText.{closing_in, form_of}
use Rattle.loss_engine.specs.computed.Closing.{closing_item}
use Rattle.loss_engine.specs.computed.Held.{kept_by}
use Rattle.loss_engine.proofs.Closings.{closing_there, found_in}
use Rattle.loss_engine.proofs.closing.put_closing.Goals as goal

pub returns-in_err-put_styled-clause-line : goal.returns-in_err-put_styled-clause-line
returns-in_err-put_styled-clause-line g c =
    let p = err_from_is_err_and c.from_residual.result c.from_residual.ensures.1 in
    let there = closing_there c.args.style (kept_by c.args.losses.now) c.args.at c.in-Some.closing c.in-Some.ensures.is in
    rw p.1 (closing_in c.args.style (closing_item (form_of c.args.style) (kept_by c.args.losses.now).moment c.in-Some.closing), there, rw c.greatest-end.ensures at c.in_err-put_styled.ensures.quiet)

pub returns-clause-line : goal.returns-clause-line
returns-clause-line g c =
    let w = closing_item (form_of c.args.style) (kept_by c.args.losses.now).moment c.in-Some.closing in (
      closing_in c.args.style w,
      closing_there c.args.style (kept_by c.args.losses.now) c.args.at c.in-Some.closing c.in-Some.ensures.is,
      rw c.greatest-end.ensures at c.in_ok-put_styled.ensures.text,
      c.is_finding.ensures (form_of c.args.style) (kept_by c.args.losses.now).moment ∙ sym (found_in c.args.style w),
    )

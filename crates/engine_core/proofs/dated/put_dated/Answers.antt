use Rattle.std.proofs.Common.{List, ℕ, sym, ◌∙◌, subst}
use Rattle.text_core.specs.Pieces.{AppendsText}
use Rattle.engine_core.proofs.DatedLines.{dated_by, dated_empty, mark_none, mark_some}
use Rattle.engine_core.proofs.dated.put_dated.Goals as goal

pub returns-then-is_empty-clause-text : goal.returns-then-is_empty-clause-text
returns-then-is_empty-clause-text g c = dated_empty c.args.moment c.args.out.now.items c.args.text.now (sym c.is_empty.ensures ∙ c.if-is_empty.true)

pub returns-in-Some-clause-text : goal.returns-in-Some-clause-text
returns-in-Some-clause-text g c =
    subst (λ (text : List ℕ). AppendsText c.put_marked.result c.args.out.now.items c.put_marked.new.out.items text) (dated_by c.args.moment c.in-Some.mark c.args.text.now (mark_some _ c.in-Some.mark c.in-Some.ensures)) c.put_marked.ensures

pub returns-in-None-clause-text : goal.returns-in-None-clause-text
returns-in-None-clause-text g c =
    subst (λ (text : List ℕ). AppendsText c.put_marked-in-None.result c.args.out.now.items c.put_marked-in-None.new.out.items text) (dated_by c.args.moment _ c.args.text.now (mark_none _ c.in-None.ensures)) c.put_marked-in-None.ensures

use Rattle.std.proofs.Common.{ap, ◌∙◌, sym, Some}
use Rattle.date_core.proofs.Dates.{text_behind, text_of}
use Rattle.date_core.proofs.date.date_of.Goals as goal

pub returns-then-moment-ge-END : goal.returns-then-moment-ge-END
returns-then-moment-ge-END c = sym (text_behind c.args.moment c.if-moment-ge-END.true)

pub returns : goal.returns
returns c =
    let date = c.civil_of-year.result in
    let civil = c.civil_of-year.ensures in
    ap Some c.written.ensures ∙ sym (text_of date.0 date.1 date.2 c.args.moment c.if-moment-ge-END.false civil.low civil.civil civil.value)

use Rattle.std.proofs.Common.{◌+◌, Err, ap, sym, ◌∙◌}
use Rattle.ber_core.specs.computed.Reading.{refused}
use Rattle.ber_core.specs.declared.fault.Cause.TheVariants as causes
use Rattle.ber_core.specs.declared.fault.Fault.{Fault}
use Rattle.ber_core.proofs.Visible.{visible_stop}
use Rattle.ber_core.proofs.contents.first_not_visible.Goals as goal

pub returns : goal.returns
returns c =
    visible_stop c.args.octets.now c.args.from c.requires.some ∙ ap (λ n. refused (c.args.from + n) causes.NotVisible) (sym c.front_count.ensures.counted)
    ∙ ap (λ (x : Fault). Err x) (sym c.at.ensures)

use Rattle.std.proofs.Common.{◌-◌, ◌∙◌, ap, sym, arith}
use Rattle.capture_core.specs.Numbers.{number_at}
use Rattle.capture_core.specs.Interfaces.{options_in, plain_interface}
use Rattle.capture_core.proofs.OptionsRead.{interface_read}
use Rattle.capture_core.proofs.Parts.{part_behind}
use Rattle.capture_core.proofs.options.read_interface.Goals as goal

pub returns : goal.returns
returns g c =
    let t = c.in_ok-take.ensures in
    let link = c.short_at.ensures ∙ ap (λ l. number_at c.args.order 2 l 0) (sym t.5) in
    let snapshot = c.long_at.ensures ∙ ap (λ l. number_at c.args.order 4 l 4) (sym t.5) in
    part_behind _ _ t.0 _ _ _ _ _ _ (c.args.size - 8) c.args.size (omega (arith, t.1)) t.2 t.3 t.4 c.read_options.result
    (λ r options l e. e ∙ ap (λ k. options_in c.args.order options (plain_interface k c.long_at.result)) link
    ∙ ap (λ k. options_in c.args.order options (plain_interface (number_at c.args.order 2 t.0 0) k)) snapshot ∙ interface_read c.args.order t.0 options t.1)
    c.read_options.ensures

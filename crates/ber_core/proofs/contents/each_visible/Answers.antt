use Rattle.std.proofs.Common.{sym, ◌∙◌}
use Rattle.ber_core.proofs.Visible.{visible_all}
use Rattle.ber_core.proofs.contents.each_visible.Goals as goal

pub returns-then-is_visible_text : goal.returns-then-is_visible_text
returns-then-is_visible_text c = record { exact = sym (visible_all c.args.octets.now c.args.from (sym c.is_visible_text.ensures ∙ c.if-is_visible_text.true)) }

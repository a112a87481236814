use Rattle.std.proofs.Common.{◌∙◌}
use Rattle.pdu_core.proofs.Owned.{owned}
use Rattle.pdu_core.proofs.view.GooseView.to_pdu.Goals as goal

pub returns-clause-value : goal.returns-clause-value
returns-clause-value g c = owned c.args.self.now c.in_ok-try_from_slice.field-0 c.in_ok-try_from_slice-2.field-0 c.in_ok-own_if.field-0 c.from.result c.in_ok-try_from_slice.ensures.value c.in_ok-try_from_slice-2.ensures.value c.in_ok-own_if.ensures.value (c.from.ensures ∙ c.in_ok-to_values.ensures.values)

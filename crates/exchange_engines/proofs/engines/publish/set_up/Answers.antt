use Rattle.std.proofs.Common.{Some, ap, sym, ◌∙◌}
use Rattle.publish_core.specs.Frames.{setup}
use Rattle.exchange_engines.specs.PublishText.{script_cause}
use Rattle.exchange_engines.proofs.PublishLemmas.{first_cause}
use Rattle.exchange_engines.proofs.engines.publish.set_up.Goals as goal

pub returns-in-Err-new-clause-cause : goal.returns-in-Err-new-clause-cause
returns-in-Err-new-clause-cause g c =
    let fault = c.in-Err-new.ensures.fault in
    first_cause (setup c.args.control c.args.steps.now c.args.first) c.in-Ok.ensures.good fault.1 ∙ ap Some (sym (c.cause_of-in-Err-new.ensures ∙ ap script_cause fault.0))

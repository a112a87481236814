use Rattle.std.proofs.Common.{Some, ap, sym, ◌∙◌}
use Rattle.std.specs.Prelude.{option_map}
use Rattle.std.proofs.lemmas.Option.{slice_get-map}
use Rattle.engine_core.specs.EngineText.{ItemText}
use Rattle.loss_engine.specs.computed.Tracking.{Tracked, total_by}
use Rattle.loss_engine.proofs.losses.Losses.total_at.Goals as goal

pub returns : goal.returns
returns g c = λ form.
    let end = c.args.self.now.greatest in
    let told : Tracked → ItemText = λ x. total_by form end x.key x.progress in
    slice_get-map told c.args.self.now.roll c.args.at ∙ ap (option_map told) c.entry.ensures ∙ ap Some (sym (c.total.ensures form))

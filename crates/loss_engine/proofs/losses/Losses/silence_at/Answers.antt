use Rattle.std.proofs.Common.{Some, ap, ap₂, sym, ◌∙◌}
use Rattle.std.specs.Prelude.{option_map}
use Rattle.std.proofs.lemmas.Option.{slice_get-map}
use Rattle.engine_core.specs.EngineText.{ItemText}
use Rattle.loss_engine.specs.LossText.{end_silent}
use Rattle.loss_engine.specs.computed.Tracking.{Tracked, silent_since}
use Rattle.loss_engine.proofs.losses.Losses.silence_at.Goals as goal

pub returns : goal.returns
returns g c = λ form.
    let end = c.args.self.now.greatest in
    let told : Tracked → ItemText = λ x. end_silent form x.key end (silent_since end x.progress) in
    slice_get-map told c.args.self.now.roll c.args.at ∙ ap (option_map told) c.entry-entry.ensures
    ∙ ap₂ (λ k since. Some (end_silent form k end since)) (sym c.key.ensures) (sym c.silent_since.ensures)

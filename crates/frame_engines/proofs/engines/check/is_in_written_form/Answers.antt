use Rattle.std.proofs.Common.{ℕ, List, ap, ◌∙◌}
use Rattle.std.specs.Str.{bytes_eq}
use Rattle.frame_core.specs.FrameViews.{frame_of}
use Rattle.frame_engines.proofs.CheckLemmas.{form_compared}
use Rattle.frame_engines.proofs.engines.check.is_in_written_form.Goals as goal

pub returns-in-Ok : goal.returns-in-Ok
returns-in-Ok c = form_compared (frame_of {A = Unit {0}} c.args.view.now) c.encode_view.new.out.items c.args.octets.now c.encode_view.result c.in-Ok.field-0 c.eq.result
    c.requires c.encode_view.ensures.too_long c.encode_view.ensures.written c.in-Ok.is
    (c.eq.ensures ∙ ap (λ (x : List ℕ). bytes_eq x c.args.octets.now) c.as_slice.ensures.value)

use Rattle.std.proofs.Common.{◌∙◌, ap, sym}
use Rattle.unwrap_core.specs.Unwrapped.{tag_in}
use Rattle.unwrap_core.proofs.UnwrappedEvents.{event_alone}
use Rattle.unwrap_core.proofs.unwrap.is_wrapped.Goals as goal

pub returns-in-Frame : goal.returns-in-Frame
returns-in-Frame g c = λ none. event_alone c.args.event.now _ c.in-Frame.is (ap tag_in (sym c.as_slice.ensures) ∙ c.may_have_tag.ensures none)

-- What a line at the end of the input tells, as it is computed.
use Rattle.std.specs.Prelude.{◌≡◌, ℕ, Bool, true, false, slice_get, Option, Some, None, MatchOption}
use Rattle.object_core.specs.declared.counted.Form.{Form}
use Rattle.engine_core.specs.EngineText.{ItemText}
use Rattle.loss_engine.specs.declared.closing.Closing.{Closing}
use Rattle.loss_engine.specs.declared.closing.Closing.TheVariants as told
use Rattle.loss_engine.specs.KeySaid.{key_said}
use Rattle.loss_engine.specs.LossLine.{samples_line, sender_total_line, stream_total_line}
use Rattle.loss_engine.specs.LossObject.{samples_object, sender_total_object, stream_total_object}
use Rattle.loss_engine.specs.LossText.{end_silent, line_of}
use Rattle.loss_engine.specs.computed.Tracking.{Kept, closing_by}

-- what it is in a form
abbrev pub closing_item : Form → ℕ → Closing → ItemText
closing_item form end (told.Silent key since) = end_silent form (key_said key) end since
closing_item form end (told.Frames key t) = line_of form false (sender_total_line (key_said key) t) (sender_total_object (key_said key) t)
closing_item form end (told.Samples key t) = line_of form false (stream_total_line (key_said key) t) (stream_total_object (key_said key) t)
closing_item form end (told.Counted key n) = line_of form false (samples_line (key_said key) n) (samples_object (key_said key) n)

-- it tells nothing
abbrev pub is_empty_closing : Closing → Bool
is_empty_closing (told.Silent key None) = true
is_empty_closing (told.Silent key (Some since)) = false
is_empty_closing (told.Frames key t) = false
is_empty_closing (told.Samples key t) = false
is_empty_closing (told.Counted key n) = false

-- the line at this position, in each form; or there is none
abbrev pub IsClosingAt : Kept → ℕ → Option Closing → Type 0
IsClosingAt k at answer = (form : Form) → MatchOption answer (slice_get (closing_by form k) at ≡ None) (λ c. slice_get (closing_by form k) at ≡ Some (closing_item form k.moment c))

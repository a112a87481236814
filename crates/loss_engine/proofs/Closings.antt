-- The lines at the end of an input.
use Rattle.std.proofs.Common.{Some, None, ◌≡◌, ℕ, false, List, [], ◌∷◌, ap, refl, ◌∙◌}
use Rattle.std.specs.Prelude.{option_map, slice_get}
use Rattle.std.proofs.lemmas.Option.{slice_get-map}
use Rattle.object_core.specs.declared.counted.Form.TheVariants.{Text}
use Rattle.engine_core.specs.declared.style.Style.{Style}
use Rattle.engine_core.specs.declared.style.Style.TheVariants.{Lines, Dated}
use Rattle.engine_core.specs.EngineText.{ItemText}
use Rattle.loss_engine.specs.declared.closing.Closing.{Closing}
use Rattle.loss_engine.specs.declared.closing.Closing.TheVariants as told
use Rattle.loss_engine.specs.LossText.{closing_in, dash_before, form_of}
use Rattle.loss_engine.specs.computed.Closing.{IsClosingAt, closing_item, is_empty_closing}
use Rattle.loss_engine.specs.computed.Tracking.{Kept, closings}

-- a line that tells something is not empty
pub closing_some : (end : ℕ) (c : Closing) → is_empty_closing c ≡ false → (closing_item Text end c).text ≡ [] → ⊥
closing_some end (told.Silent key None) some h = cc
closing_some end (told.Silent key (Some since)) some h = cc
closing_some end (told.Frames key t) some h = cc
closing_some end (told.Samples key t) some h = cc
closing_some end (told.Counted key n) some h = cc

-- behind a dash
pub dash_some : (xs : List ℕ) → (xs ≡ [] → ⊥) → 45 ∷ 32 ∷ xs ≡ dash_before xs
dash_some [] some = absurd (some refl)
dash_some (x ∷ xs) some = refl

-- the line at a position in a style
pub closing_there : (style : Style) (k : Kept) (at : ℕ) (c : Closing) → IsClosingAt k at (Some c) → slice_get (closings style k) at ≡ Some (closing_in style (closing_item (form_of style) k.moment c))
closing_there style k at c is = slice_get-map (closing_in style) _ at ∙ ap (option_map (closing_in style)) (is (form_of style))

-- whether a line is a finding is so in each style
pub found_in : (style : Style) (w : ItemText) → (closing_in style w).is_finding ≡ w.is_finding
found_in (Lines form) w = refl
found_in Dated w = refl

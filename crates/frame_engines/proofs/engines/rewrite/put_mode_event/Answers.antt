use Rattle.std.proofs.Common.{◌++◌, refl}
use Rattle.std.specs.Prelude.{codes}
use Rattle.std.specs.Fmt.{decimal}
use Rattle.list_core.specs.EventText.{mode_text}
use Rattle.text_core.proofs.Fronts.{appended, then_appended}
use Rattle.text_core.proofs.PieceLemmas.{then_text}
use Rattle.frame_engines.proofs.engines.rewrite.put_mode_event.Goals as goal

pub returns : goal.returns
returns g c =
    then_appended c.extend_from_slice-4.result c.args.line.now.items c.extend_from_slice-3.new.self.items c.extend_from_slice-4.new.self.items _ (codes "\n") _
    (then_text _ (codes "M " ++ decimal c.args.moment ++ codes " ") (mode_text c.args.on) _ _ _
    (then_text _ (codes "M " ++ decimal c.args.moment) (codes " ") _ _ _
    (then_text _ (codes "M ") (decimal c.args.moment) _ _ _ c.in_ok-extend_from_slice.ensures.items c.in_ok-put_decimal.ensures refl)
    c.in_ok-extend_from_slice-2.ensures.items refl) (rw c.mode_word.ensures at c.in_ok-extend_from_slice-3.ensures.items) refl)
    (appended c.extend_from_slice-4.result c.extend_from_slice-3.new.self.items c.extend_from_slice-4.new.self.items (codes "\n") (codes "\n") c.extend_from_slice-4.ensures.items refl) refl

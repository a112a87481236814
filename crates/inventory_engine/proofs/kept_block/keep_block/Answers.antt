use Rattle.std.proofs.Common.{◌≡◌, ◌∙◌, Some, ap, sym, subst}
use Rattle.frame_core.specs.FrameViews.{apdu_of, frame_of}
use Rattle.frame_core.specs.declared.frame.Apdu.{Apdu}
use Rattle.frame_core.specs.declared.frame.Frame.{Frame}
use Rattle.inventory_engine.specs.Configuration.{Configuration}
use Rattle.inventory_engine.specs.Sightings.{Key, block_text}
use Rattle.inventory_engine.specs.computed.KeptBlock.{IsShown, IsShownBy}
use Rattle.inventory_engine.specs.computed.KnownTexts.{known_key, known_text}
use Rattle.repeat_core.proofs.BesideFrames.{same_frame}
use Rattle.inventory_engine.proofs.KeptBlocks.{shown_unnumbered}
use Rattle.inventory_engine.proofs.kept_block.keep_block.Goals as goal

pub keep-requires : goal.keep-requires
keep-requires g c f is =
    let view = c.frame-frame.result in
    let one = c.in-Ok.block in
    let shown = c.block_shown.ensures in
    let key = c.in-Ok.ensures.key in
    let here : IsShownBy {A = Unit {0}} view.app_id (apdu_of view.apdu) (known_key one) (known_text one) = rw c.in-Goose.is (
      ap (λ (x : Configuration). Some x.app_id) (sym shown) ∙ sym (ap (λ (k : Key). k.0) key),
      ap (λ (x : Configuration). x.gocb_ref) (sym shown) ∙ sym (ap (λ (k : Key). k.1) key),
      ap block_text (sym shown) ∙ sym c.in-Ok.ensures.text,
    ) in
    shown_unnumbered f (known_key one) (known_text one) (subst (λ (x : Frame (Unit {0})). IsShown x (known_key one) (known_text one)) (same_frame _ (frame_of {A = Unit {0}} view) f c.frame-frame.ensures.exact is) here)

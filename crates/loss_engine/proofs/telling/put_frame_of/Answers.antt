use Rattle.std.proofs.Common.{◌≡◌, ◌∙◌, [], ◌∷◌, List, ℕ, ap, sym, subst}
use Rattle.std.specs.Result.{IfOk, OnErr}
use Rattle.pdu_core.specs.Views.{pdu_of}
use Rattle.frame_core.specs.computed.FrameReading.{frame_at}
use Rattle.frame_core.specs.FrameViews.{apdu_of}
use Rattle.frame_core.specs.declared.frame_view.ApduView.{ApduView}
use Rattle.loss_engine.specs.Sights.{Sight, sight_of_goose, sights_of, sights_read, sights_with}
use Rattle.loss_engine.specs.computed.Held.{kept_by, periods_by}
use Rattle.loss_engine.specs.computed.Telling.{TellsSights, WantsFor}
use Rattle.loss_engine.proofs.telling.put_frame_of.Goals as goal

pub returns-in-Goose-clause-tells : goal.returns-in-Goose-clause-tells
returns-in-Goose-clause-tells g c =
    let view = c.frame-frame.result in
    let moment = c.args.losses.now.greatest in
    let shown : sights_of moment c.args.kind.now ≡ sight_of_goose moment view.app_id (pdu_of {A = Unit {0}} c.in-Goose.goose) ∷ [] =
    ap (sights_of moment) c.in-Frame.is ∙ ap (λ (o : List ℕ). sights_read {A = Unit {0}} moment (frame_at o)) (sym c.as_slice-octets.ensures)
    ∙ ap (sights_read {A = Unit {0}} moment) c.frame-frame.ensures.exact ∙ ap (λ (a : ApduView). sights_with moment view.app_id view.source (apdu_of {A = Unit {0}} a)) c.in-Goose.is in
    subst (λ (l : List Sight). IfOk c.put_goose.result (λ found. TellsSights c.args.heading (periods_by c.args.losses.now) (kept_by c.args.losses.now) l c.args.out.now.items found c.put_goose.new.out.items (kept_by c.put_goose.new.losses)))
    (sym shown) c.put_goose.ensures.tells

pub returns-in-Goose-clause-wants : goal.returns-in-Goose-clause-wants
returns-in-Goose-clause-wants g c =
    let view = c.frame-frame.result in
    let moment = c.args.losses.now.greatest in
    let shown : sights_of moment c.args.kind.now ≡ sight_of_goose moment view.app_id (pdu_of {A = Unit {0}} c.in-Goose.goose) ∷ [] =
    ap (sights_of moment) c.in-Frame.is ∙ ap (λ (o : List ℕ). sights_read {A = Unit {0}} moment (frame_at o)) (sym c.as_slice-octets.ensures)
    ∙ ap (sights_read {A = Unit {0}} moment) c.frame-frame.ensures.exact ∙ ap (λ (a : ApduView). sights_with moment view.app_id view.source (apdu_of {A = Unit {0}} a)) c.in-Goose.is in
    subst (λ (l : List Sight). OnErr c.put_goose.result (WantsFor c.args.heading (periods_by c.args.losses.now) (kept_by c.args.losses.now) l)) (sym shown) c.put_goose.ensures.wants

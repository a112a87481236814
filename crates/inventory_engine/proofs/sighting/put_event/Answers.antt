use Rattle.std.proofs.Common.{◌≡◌, ◌∙◌, [], ◌∷◌, List, ℕ, ap, refl, subst, sym}
use Rattle.pdu_core.specs.Views.{pdu_of}
use Rattle.pdu_core.specs.SampledViews.{asdus_left}
use Rattle.frame_core.specs.computed.FrameReading.{frame_at}
use Rattle.frame_core.specs.FrameViews.{apdu_of}
use Rattle.frame_core.specs.declared.frame_view.ApduView.{ApduView}
use Rattle.inventory_engine.specs.Configuration.{configuration_of}
use Rattle.inventory_engine.specs.Sightings.{Sighting, block_sighting, sightings_of, sightings_read, sightings_with, stream_sightings}
use Rattle.inventory_engine.specs.computed.BlocksStep.{AppendsLines, telling_at}
use Rattle.inventory_engine.specs.computed.KnownTexts.{known_key, known_text}
use Rattle.inventory_engine.proofs.KeptBlocks.{SeenSo, seen_so}
use Rattle.inventory_engine.proofs.Appending.{appends_as, wanted_as}
use Rattle.inventory_engine.proofs.sighting.put_event.Goals as goal

pub returns-then-is_known-clause-written : goal.returns-then-is_known-clause-written
returns-then-is_known-clause-written g c =
    let repeats = c.in-Some.ensures.repeats in
    let block = c.in-Some-beside.kept.now.block in
    let so : SeenSo repeats.frame.app_id repeats.frame.apdu (known_key block) (known_text block) = seen_so repeats.frame.app_id repeats.frame.apdu (known_key block) (known_text block) (rw c.in-Some-beside.is at repeats.beside) in
    let shown : sightings_of c.args.kind.now ≡ so.sighting ∷ [] =
    ap sightings_of c.in-Frame.is ∙ ap (λ (o : List ℕ). sightings_read {A = Unit {0}} (frame_at o)) (sym c.as_slice-octets.ensures) ∙ ap (sightings_read {A = Unit {0}}) repeats.read ∙ so.seen in
    subst (λ (l : List Sighting). AppendsLines (telling_at c.args.heading) l c.args.known.now c.args.known.now c.args.line.now.items c.args.line.now.items) (sym shown)
    (c.is_known.ensures (telling_at c.args.heading) so.sighting c.args.line.now.items c.if-is_known.true so.key_is so.text_is)

pub returns-in-Goose-clause-written : goal.returns-in-Goose-clause-written
returns-in-Goose-clause-written g c =
    let view = c.in-Ok.view in
    let shown : sightings_of c.args.kind.now ≡ block_sighting (configuration_of view.app_id (pdu_of {A = Unit {0}} c.in-Goose.goose)) ∷ [] =
    ap sightings_of c.in-Frame.is ∙ ap (λ (o : List ℕ). sightings_read {A = Unit {0}} (frame_at o)) (sym c.as_slice-octets.ensures)
    ∙ ap (sightings_read {A = Unit {0}}) c.in-Ok.ensures.exact ∙ ap (λ (a : ApduView). sightings_with view.app_id (apdu_of {A = Unit {0}} a)) c.in-Goose.is in
    appends_as c.put_block.result (telling_at c.args.heading) _ (sightings_of c.args.kind.now) c.args.known.now c.put_block.new.known c.args.line.now.items c.put_block.new.line.items (sym shown) c.put_block.ensures.written

pub returns-in-Goose-clause-wants : goal.returns-in-Goose-clause-wants
returns-in-Goose-clause-wants g c =
    let view = c.in-Ok.view in
    let shown : sightings_of c.args.kind.now ≡ block_sighting (configuration_of view.app_id (pdu_of {A = Unit {0}} c.in-Goose.goose)) ∷ [] =
    ap sightings_of c.in-Frame.is ∙ ap (λ (o : List ℕ). sightings_read {A = Unit {0}} (frame_at o)) (sym c.as_slice-octets.ensures)
    ∙ ap (sightings_read {A = Unit {0}}) c.in-Ok.ensures.exact ∙ ap (λ (a : ApduView). sightings_with view.app_id (apdu_of {A = Unit {0}} a)) c.in-Goose.is in
    wanted_as c.put_block.result (telling_at c.args.heading) _ (sightings_of c.args.kind.now) c.args.known.now (sym shown) c.put_block.ensures.wants

pub returns-in-Sampled-clause-written : goal.returns-in-Sampled-clause-written
returns-in-Sampled-clause-written g c =
    let view = c.in-Ok.view in
    let shown : sightings_of c.args.kind.now ≡ stream_sightings (asdus_left {A = Unit {0}} c.in-Sampled.sampled.asdus) =
    ap sightings_of c.in-Frame.is ∙ ap (λ (o : List ℕ). sightings_read {A = Unit {0}} (frame_at o)) (sym c.as_slice-octets.ensures)
    ∙ ap (sightings_read {A = Unit {0}}) c.in-Ok.ensures.exact ∙ ap (λ (a : ApduView). sightings_with view.app_id (apdu_of {A = Unit {0}} a)) c.in-Sampled.is in
    appends_as c.put_streams.result (telling_at c.args.heading) _ (sightings_of c.args.kind.now) c.args.known.now c.put_streams.new.known c.args.line.now.items c.put_streams.new.line.items (sym shown) c.put_streams.ensures.written

pub returns-in-Sampled-clause-wants : goal.returns-in-Sampled-clause-wants
returns-in-Sampled-clause-wants g c =
    let view = c.in-Ok.view in
    let shown : sightings_of c.args.kind.now ≡ stream_sightings (asdus_left {A = Unit {0}} c.in-Sampled.sampled.asdus) =
    ap sightings_of c.in-Frame.is ∙ ap (λ (o : List ℕ). sightings_read {A = Unit {0}} (frame_at o)) (sym c.as_slice-octets.ensures)
    ∙ ap (sightings_read {A = Unit {0}}) c.in-Ok.ensures.exact ∙ ap (λ (a : ApduView). sightings_with view.app_id (apdu_of {A = Unit {0}} a)) c.in-Sampled.is in
    wanted_as c.put_streams.result (telling_at c.args.heading) _ (sightings_of c.args.kind.now) c.args.known.now (sym shown) c.put_streams.ensures.wants

use Rattle.std.proofs.Common.{◌≡◌, ◌∙◌, [], ◌∷◌, List, ℕ, ap, subst, sym}
use Rattle.std.specs.Prelude.{OnOk}
use Rattle.pdu_core.specs.Views.{pdu_of}
use Rattle.pdu_core.specs.SampledViews.{asdus_left}
use Rattle.frame_core.specs.computed.FrameReading.{frame_at}
use Rattle.frame_core.specs.FrameViews.{apdu_of}
use Rattle.frame_core.specs.declared.frame_view.ApduView.{ApduView}
use Rattle.inventory_engine.specs.Configuration.{configuration_of}
use Rattle.inventory_engine.specs.Sightings.{Sighting, block_sighting, sightings_of, sightings_read, sightings_with, stream_sightings}
use Rattle.inventory_engine.specs.computed.BlocksStep.{Keeps}
use Rattle.inventory_engine.specs.computed.FirstBlocks.{ListsMore, firsts_of}
use Rattle.inventory_engine.proofs.FirstBlocks.{streams_list_none}
use Rattle.inventory_engine.proofs.listing.push_shown.Goals as goal

pub returns-in-Goose : goal.returns-in-Goose
returns-in-Goose g c =
    let view = c.in-Ok.view in
    let shown : sightings_of c.args.kind.now ≡ block_sighting (configuration_of view.app_id (pdu_of {A = Unit {0}} c.in-Goose.goose)) ∷ [] =
    ap sightings_of c.in-Frame.is ∙ ap (λ (o : List ℕ). sightings_read {A = Unit {0}} (frame_at o)) (sym c.as_slice.ensures)
    ∙ ap (sightings_read {A = Unit {0}}) c.in-Ok.ensures.exact ∙ ap (λ (a : ApduView). sightings_with view.app_id (apdu_of {A = Unit {0}} a)) c.in-Goose.is in
    subst (λ (seen : List Sighting). OnOk c.push_first.result ((earlier : List Sighting) → Keeps c.args.known.now earlier → ListsMore (firsts_of earlier seen) c.args.found.now c.push_first.new.found)) (sym shown) c.push_first.ensures

pub returns-in-Sampled : goal.returns-in-Sampled
returns-in-Sampled g c =
    let view = c.in-Ok.view in
    let asdus = asdus_left {A = Unit {0}} c.in-Sampled.field-0.asdus in
    let shown : sightings_of c.args.kind.now ≡ stream_sightings asdus =
    ap sightings_of c.in-Frame.is ∙ ap (λ (o : List ℕ). sightings_read {A = Unit {0}} (frame_at o)) (sym c.as_slice.ensures)
    ∙ ap (sightings_read {A = Unit {0}}) c.in-Ok.ensures.exact ∙ ap (λ (a : ApduView). sightings_with view.app_id (apdu_of {A = Unit {0}} a)) c.in-Sampled.is in
    λ earlier k. subst (λ (seen : List Sighting). ListsMore (firsts_of earlier seen) c.args.found.now c.args.found.now) (sym shown) (streams_list_none c.args.known.now c.args.found.now asdus earlier k)

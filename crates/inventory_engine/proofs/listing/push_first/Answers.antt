use Rattle.std.proofs.Common.{List, [], ◌∷◌, refl, subst, None}
use Rattle.pdu_core.specs.Views.{pdu_of}
use Rattle.known_core.specs.computed.Held.{position_of}
use Rattle.inventory_engine.specs.declared.known.Known.{Known}
use Rattle.inventory_engine.specs.Configuration.{Configuration, configuration_of}
use Rattle.inventory_engine.specs.Sightings.{Sighting, block_sighting}
use Rattle.inventory_engine.specs.computed.BlocksStep.{Keeps}
use Rattle.inventory_engine.specs.computed.FirstBlocks.{ListsMore, firsts_of}
use Rattle.inventory_engine.specs.computed.ShownFields.{configuration_shown}
use Rattle.inventory_engine.proofs.Appending.{on_success}
use Rattle.inventory_engine.proofs.FirstBlocks.{lists_first, lists_known}
use Rattle.inventory_engine.proofs.listing.push_first.Goals as goal

pub returns-in-Ok : goal.returns-in-Ok
returns-in-Ok g c =
    let one : Known g.row.A.Denot = record { app_id = None; octets = []; text_at = 0 } in
    lists_known (block_sighting (configuration_of c.args.app_id (pdu_of {A = Unit {0}} c.args.goose.now))) c.args.known.now one (position_of c.args.known.now c.in-Ok.field-0) c.args.found.now c.in-Ok.ensures.1

pub returns-in-Err : goal.returns-in-Err
returns-in-Err g c =
    let known = c.args.known.now in
    let s = block_sighting (configuration_of c.args.app_id (pdu_of {A = Unit {0}} c.args.goose.now)) in
    on_success c.push.result (ListsMore (block_sighting (configuration_shown c.block_shown.result) ∷ []) c.args.found.now c.push.new.self)
    ((earlier : List Sighting) → Keeps known earlier → ListsMore (firsts_of earlier (s ∷ [])) c.args.found.now c.push.new.self)
    (λ one. lists_first s known (position_of known c.in-Err.field-0) c.args.found.now c.push.new.self refl c.in-Err.ensures.1
    (subst (λ (x : Configuration). ListsMore (block_sighting x ∷ []) c.args.found.now c.push.new.self) c.block_shown.ensures one))
    c.push.ensures

use Rattle.std.proofs.Common.{◌∙◌, [], ◌∷◌, Some, true, ap}
use Rattle.std.specs.Str.{bytes_eq}
use Rattle.pdu_core.specs.Views.{pdu_of}
use Rattle.known_core.specs.computed.Held.{position_of}
use Rattle.inventory_engine.specs.declared.known.Known.{Known}
use Rattle.inventory_engine.specs.computed.BlocksStep.{telling_at}
use Rattle.inventory_engine.specs.computed.KnownTexts.{known_text}
use Rattle.inventory_engine.specs.Configuration.{Configuration, configuration_of}
use Rattle.inventory_engine.specs.computed.ShownFields.{configuration_shown}
use Rattle.inventory_engine.specs.Sightings.{block_sighting, block_text}
use Rattle.inventory_engine.proofs.Appending.{appends_as, compared, said_same}
use Rattle.inventory_engine.proofs.sighting.put_block.Goals as goal

pub returns-in-Ok-clause-written : goal.returns-in-Ok-clause-written
returns-in-Ok-clause-written g c =
    let s = block_sighting (configuration_of c.args.app_id (pdu_of {A = Unit {0}} c.args.goose.now)) in
    let at = position_of c.args.known.now c.in-Ok.place in
    let one : Known g.row.A.Denot = record { app_id = Some c.args.app_id; octets = []; text_at = 0 } in
    said_same (telling_at c.args.heading) s c.args.known.now at one c.args.line.now.items c.in-Ok.ensures.1
    (compared c.args.known.now at one c.text.result.now s.text c.is_block_text.result true (c.text.ensures ∙ ap known_text (c.get.ensures one)) (c.is_block_text.ensures ∙ ap (λ (x : Configuration). bytes_eq c.text.result.now (block_text x)) c.block_shown-block.ensures) c.if-is_block_text.true)

pub returns-in_default-clause-written : goal.returns-in_default-clause-written
returns-in_default-clause-written g c =
    let s = block_sighting (configuration_of c.args.app_id (pdu_of {A = Unit {0}} c.args.goose.now)) in
    appends_as c.put_other_block.result (telling_at c.args.heading) (block_sighting (configuration_shown c.block_shown-block.result) ∷ []) (s ∷ []) c.args.known.now c.put_other_block.new.known c.args.line.now.items c.put_other_block.new.line.items
    (ap (λ (x : Configuration). block_sighting x ∷ []) c.block_shown-block.ensures) c.put_other_block.ensures.written

use Rattle.std.proofs.Common.{◌∙◌, [], None, true, ap}
use Rattle.pdu_core.specs.SampledViews.{asdu_of}
use Rattle.known_core.specs.computed.Held.{position_of}
use Rattle.inventory_engine.specs.declared.known.Known.{Known}
use Rattle.inventory_engine.specs.computed.BlocksStep.{telling_at}
use Rattle.inventory_engine.specs.computed.KnownTexts.{known_text}
use Rattle.inventory_engine.specs.Sightings.{stream_sighting}
use Rattle.inventory_engine.proofs.Appending.{compared, said_same}
use Rattle.inventory_engine.proofs.sighting.put_stream.Goals as goal

pub returns-in-Ok-clause-written : goal.returns-in-Ok-clause-written
returns-in-Ok-clause-written g c =
    let s = stream_sighting (asdu_of {A = Unit {0}} c.args.asdu.now) in
    let at = position_of c.args.known.now c.in-Ok.place in
    let one : Known g.row.A.Denot = record { app_id = None; octets = []; text_at = 0 } in
    said_same (telling_at c.args.heading) s c.args.known.now at one c.args.line.now.items c.in-Ok.ensures.1
    (compared c.args.known.now at one c.text.result.now s.text c.is_stream_text.result true (c.text.ensures ∙ ap known_text (c.get.ensures one)) c.is_stream_text.ensures c.if-is_stream_text.true)

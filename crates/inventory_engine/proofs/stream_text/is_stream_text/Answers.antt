use Rattle.std.proofs.Common.{◌∙◌}
use Rattle.std.specs.List.{concat}
use Rattle.inventory_engine.specs.Sightings.{stream_parts}
use Rattle.text_core.proofs.Afters.{is_other, is_whole}
use Rattle.inventory_engine.proofs.stream_text.is_stream_text.Goals as goal

pub returns-in-Some : goal.returns-in-Some
returns-in-Some c =
    c.is_empty.ensures ∙ is_whole c.args.text.now (concat (stream_parts c.args.conf_rev c.args.sv_id.now)) c.in-Some.rest.now c.in-Some.ensures

pub returns-in-None : goal.returns-in-None
returns-in-None c = is_other c.args.text.now (concat (stream_parts c.args.conf_rev c.args.sv_id.now)) c.in-None.ensures

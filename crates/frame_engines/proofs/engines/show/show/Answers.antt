use Rattle.std.proofs.Common.{sym, ◌∙◌}
use Rattle.list_core.specs.EventLine.{event_rules}
use Rattle.list_core.specs.ItemReader.{item_number, item_state}
use Rattle.list_core.specs.declared.event_lines.EventLines.TheVariants.{First}
use Rattle.engine_core.proofs.EventSteps.{exactly_over}
use Rattle.engine_core.proofs.ListedRuns.{listed, listed_failed}
use Rattle.frame_engines.specs.ShowText.{show_event, show_text}
use Rattle.frame_engines.proofs.engines.show.show.Goals as goal

pub returns-clause-text : goal.returns-clause-text
returns-clause-text g c =
    let state = item_state g.R.Source.left g.R.Source.ending in
    let new = c.new-events.ensures in
    let r = listed event_rules First state item_number _ show_text (exactly_over show_event _) c.new-events.result c.show_over.result _ _ (record { is_open = new.ending ∙ c.requires.open; no_line = new.taken; no_octet = new.held; has_settled = new.settled }) c.show_over.ensures.text in
    rw (c.into_source.ensures.left, c.into_source.ensures.source, c.into_source.ensures.ending, sym new.left) (r.0, r.1, (c.show_over.result.fault, r.2))

pub returns-clause-read_fault : goal.returns-clause-read_fault
returns-clause-read_fault g c =
    let state = item_state g.R.Source.left g.R.Source.ending in
    let new = c.new-events.ensures in
    let r = listed event_rules First state item_number _ show_text (exactly_over show_event _) c.new-events.result c.show_over.result _ _ (record { is_open = new.ending ∙ c.requires.open; no_line = new.taken; no_octet = new.held; has_settled = new.settled }) c.show_over.ensures.text in
    rw (c.into_source.ensures.source, c.into_source.ensures.ending) (listed_failed event_rules First show_text _ _ _ _ _ _ r.2)

use Rattle.std.proofs.Common.{sym, ◌∙◌}
use Rattle.list_core.specs.EventLine.{event_rules}
use Rattle.list_core.specs.ItemReader.{item_number, item_state}
use Rattle.list_core.specs.declared.event_lines.EventLines.TheVariants.{First}
use Rattle.list_core.specs.ListReader.{list_fault_of}
use Rattle.object_core.specs.declared.counted.Form.TheVariants.{Text}
use Rattle.text_core.specs.LineText.{list_fault_line}
use Rattle.engine_core.specs.EventsText.{over_events}
use Rattle.engine_core.proofs.EventSteps.{exactly_over}
use Rattle.engine_core.proofs.ListedRuns.{listed, listed_failed}
use Rattle.exchange_engines.proofs.WatchLemmas.{watch_lines}
use Rattle.exchange_engines.proofs.engines.watch.watch.Goals as goal

pub returns-clause-text : goal.returns-clause-text
returns-clause-text g c =
    let state = item_state g.R.Source.left g.R.Source.ending in
    let new = c.new-events.ensures in
    let k = c.watch_over.ensures.text in
    let t = over_events (k.by Text) (λ f. list_fault_line (list_fault_of f)) in
    let r = listed event_rules First state item_number _ t (exactly_over (k.by Text) _) c.new-events.result c.watch_over.result _ _ (record { is_open = new.ending ∙ c.requires.open; no_line = new.taken; no_octet = new.held; has_settled = new.settled }) k.is_left in
    rw (c.into_source.ensures.left, c.into_source.ensures.source, c.into_source.ensures.ending, sym new.left)
    (r.0, r.1, record { by = t; is = watch_lines c.args.period c.args.id.now k.by k.is; is_left = (c.watch_over.result.fault, r.2) })

pub returns-clause-read_fault : goal.returns-clause-read_fault
returns-clause-read_fault g c =
    let state = item_state g.R.Source.left g.R.Source.ending in
    let new = c.new-events.ensures in
    let k = c.watch_over.ensures.text in
    let t = over_events (k.by Text) (λ f. list_fault_line (list_fault_of f)) in
    let r = listed event_rules First state item_number _ t (exactly_over (k.by Text) _) c.new-events.result c.watch_over.result _ _ (record { is_open = new.ending ∙ c.requires.open; no_line = new.taken; no_octet = new.held; has_settled = new.settled }) k.is_left in
    rw (c.into_source.ensures.source, c.into_source.ensures.ending) (listed_failed event_rules First t _ _ _ _ _ _ r.2)

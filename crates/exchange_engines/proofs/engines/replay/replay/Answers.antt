use Rattle.std.proofs.Common.{sym, ◌∙◌}
use Rattle.list_core.specs.ItemReader.{item_number, item_state}
use Rattle.list_core.specs.ListReader.{list_fault_of}
use Rattle.object_core.specs.EventObject.{list_fault_object}
use Rattle.exchange_engines.proofs.ListedReplays.{replay_failed, replay_listed}
use Rattle.exchange_engines.proofs.engines.replay.replay.Goals as goal

pub returns-clause-text : goal.returns-clause-text
returns-clause-text g c =
    let state = item_state g.R.Source.left g.R.Source.ending in
    let new = c.new-events.ensures in
    let r = replay_listed state item_number c.args.blocks.items (λ f. list_fault_object (list_fault_of f)) c.new-events.result c.replay_over.result _ _ (record { is_open = new.ending ∙ c.requires.open; no_line = new.taken; no_octet = new.held; has_settled = new.settled }) c.replay_over.ensures.text in
    rw (c.into_source.ensures.left, c.into_source.ensures.source, c.into_source.ensures.ending, sym new.left) (r.0, r.1, (c.replay_over.result.fault, r.2))

pub returns-clause-read_fault : goal.returns-clause-read_fault
returns-clause-read_fault g c =
    let state = item_state g.R.Source.left g.R.Source.ending in
    let new = c.new-events.ensures in
    let r = replay_listed state item_number c.args.blocks.items (λ f. list_fault_object (list_fault_of f)) c.new-events.result c.replay_over.result _ _ (record { is_open = new.ending ∙ c.requires.open; no_line = new.taken; no_octet = new.held; has_settled = new.settled }) c.replay_over.ensures.text in
    rw (c.into_source.ensures.source, c.into_source.ensures.ending) (replay_failed c.args.blocks.items _ _ _ _ _ _ r.2)

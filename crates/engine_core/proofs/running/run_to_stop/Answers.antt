use Rattle.std.proofs.Common.{refl, rules, ◌∙◌}
use Rattle.list_core.specs.ItemReader.{item_number, item_state}
use Rattle.engine_core.specs.Run.{list_input}
use Rattle.engine_core.specs.RunOver.{stopped_at}
use Rattle.engine_core.proofs.ListRuns.{list_run}
use Rattle.engine_core.proofs.ListedRuns.{listed}
use Rattle.engine_core.proofs.ReadFaults.{list_blames, source_failed}
use Rattle.engine_core.proofs.running.run_to_stop.Goals as goal

pub returns-clause-text : goal.returns-clause-text
returns-clause-text g c = λ t is.
    let new = c.new-items.ensures in
    let r = listed g.G.LineRules.rules c.args.rules (item_state g.R.Source.left g.R.Source.ending) item_number _ t is c.new-items.result (stopped_at c.run_on-ending.result.0 c.run_on-ending.result.1 c.run_on-ending.new.items) _ _ (record { is_open = new.ending ∙ c.requires.open; no_line = new.taken; no_octet = new.held; has_settled = new.settled }) c.run_on-ending.ensures.text in
    rw new.left at r

pub returns-clause-read_fault : goal.returns-clause-read_fault
returns-clause-read_fault g c =
    let state = item_state g.R.Source.left g.R.Source.ending in
    let r = list_run g.G.LineRules.rules state item_number (g.E.Engine.allows c.args.engine) _ (stopped_at c.run_on-ending.result.0 c.run_on-ending.result.1 c.run_on-ending.new.items) _ _ (search rules) (search rules) (search rules) c.run_on-ending.ensures.text in
    source_failed (list_input g.G.LineRules.rules (state c.new-items.result).settled) (g.E.Engine.allows c.args.engine) _ _ _ r.0 _ _ (list_blames g.G.LineRules.rules (state c.new-items.result).settled) (λ before e why is. refl) r.2

use Rattle.std.proofs.Common.{ap, subst, ◌∙◌, List}
use Rattle.std.specs.Prelude.{OnOk}
use Rattle.subscribe_core.specs.declared.entry.Entry.{Entry}
use Rattle.subscribe_core.specs.computed.Flagged.{switched_at}
use Rattle.subscribe_core.proofs.Flagging.{flagged_in_order, flagged_permuted, flagged_told, untold_positions}
use Rattle.subscribe_core.proofs.flagged.Flagged.list.Goals as goal

pub returns-clause-entries : goal.returns-clause-entries
returns-clause-entries g c = λ registers all.
    let same = flagged_in_order _ registers c.sort_unstable.ensures.sorted (flagged_permuted _ _ registers c.sort_unstable.ensures.permutation all) in
    let told = ap (switched_at {A = g.row.A.Denot}) (c.deref.ensures.value ∙ same) ∙ flagged_told g.row.A.Denot 0 registers in
    subst (λ (es : List (Entry g.row.A.Denot)). OnOk c.put_switched.result (g.E.EntrySink.gets c.args.entries.now es c.put_switched.new.entries)) told c.put_switched.ensures.entries

pub returns-clause-quiet : goal.returns-clause-quiet
returns-clause-quiet g c = λ registers all none.
    let same = flagged_in_order _ registers c.sort_unstable.ensures.sorted (flagged_permuted _ _ registers c.sort_unstable.ensures.permutation all) in
    c.put_switched.ensures.quiet (c.deref.ensures.value ∙ (same ∙ untold_positions g.row.A.Denot _ (flagged_told g.row.A.Denot 0 registers ∙ none)))

pub returns-clause-flagged : goal.returns-clause-flagged
returns-clause-flagged g c = λ registers all. flagged_permuted _ _ registers c.sort_unstable.ensures.permutation all

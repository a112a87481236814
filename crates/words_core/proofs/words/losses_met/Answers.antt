use Rattle.std.proofs.Common.{◌∙◌, List, [], Option, Some, codes, subst, unwrap_or}
use Rattle.clap.specs.Words.{Text, found_of}
use Rattle.clap.proofs.WalkLemmas.{raw_values-rows}
use Rattle.words_core.specs.CommandLine.{losses_of}
use Rattle.words_core.specs.computed.PrivateCalls.{MayAnswer}
use Rattle.words_core.proofs.words.losses_met.Goals as goal

pub returns-in-Some : goal.returns-in-Some
returns-in-Some c =
    let given = (rw c.in-Some.is at c.get_raw.ensures) ∙ raw_values-rows (found_of c.args.matches.now) (codes "period") in
    subst (λ (o : Option (List Text)). MayAnswer (Some (losses_of (unwrap_or o []))) (Some c.losses_task.result)) given c.losses_task.ensures

pub returns-in-None : goal.returns-in-None
returns-in-None c =
    let given = (rw c.in-None.is at c.get_raw.ensures) ∙ raw_values-rows (found_of c.args.matches.now) (codes "period") in
    subst (λ (o : Option (List Text)). MayAnswer (Some (losses_of (unwrap_or o []))) (Some c.losses_task-in-None.result)) given c.losses_task-in-None.ensures

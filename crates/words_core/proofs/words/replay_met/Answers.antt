use Rattle.std.proofs.Common.{◌∙◌, List, [], Option, Some, codes, subst, unwrap_or}
use Rattle.clap.specs.Words.{Text, found_of}
use Rattle.clap.proofs.WalkLemmas.{raw_values-rows}
use Rattle.words_core.specs.CommandLine.{replay_of}
use Rattle.words_core.specs.computed.PrivateCalls.{MayAnswer}
use Rattle.words_core.proofs.words.replay_met.Goals as goal

pub returns-in-Some : goal.returns-in-Some
returns-in-Some c =
    let given = (rw c.in-Some.is at c.get_raw.ensures) ∙ raw_values-rows (found_of c.args.matches.now) (codes "BLOCK") in
    subst (λ (o : Option (List Text)). MayAnswer (Some (replay_of (unwrap_or o []))) (Some c.replay_task.result)) given c.replay_task.ensures

pub returns-in-None : goal.returns-in-None
returns-in-None c =
    let given = (rw c.in-None.is at c.get_raw.ensures) ∙ raw_values-rows (found_of c.args.matches.now) (codes "BLOCK") in
    subst (λ (o : Option (List Text)). MayAnswer (Some (replay_of (unwrap_or o []))) (Some c.replay_task-in-None.result)) given c.replay_task-in-None.ensures

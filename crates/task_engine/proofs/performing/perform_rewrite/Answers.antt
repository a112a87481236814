use Rattle.std.proofs.Common.{refl}
use Rattle.task_engine.proofs.performing.perform_rewrite.Goals as goal

pub returns-clause-text : goal.returns-clause-text
returns-clause-text g c =
    let r = c.rewrite_to_stop.ensures.text in
    rw (c.of_list.ensures.left, c.of_list.ensures.source, c.of_list.ensures.ending, c.of_list.ensures.told) (r.0, r.1, (c.rewrite_to_stop.result.fault, r.2, refl))

use Rattle.std.proofs.Common.{ℕ, ◌+◌, ◌-◌, min, ap, ◌∙◌}
use Rattle.publish_core.proofs.Sound.{held_fits, next_held}
use Rattle.publish_core.proofs.publisher.go_on.Goals as goal

pub renew-requires-clause-fits : goal.renew-requires-clause-fits
renew-requires-clause-fits g c =
    let step = c.min-last.ensures ∙ ap (λ (n : ℕ). min (c.args.last.now.step + 1) (n - 1)) c.len-steps.ensures.size in
    let held = next_held c.args.control.now c.args.table.now c.args.last.now c.next_number-last.result c.min-last.result c.args.now c.next_number-last.ensures step c.requires.frame in
    held_fits c.args.control.now c.args.table.now (record c.args.last.now { sequence = c.next_number-last.result; step = c.min-last.result; given_at = c.args.now }) c.at-2.result c.at-2.ensures held

pub returns-clause-frame : goal.returns-clause-frame
returns-clause-frame g c =
    let step = c.min-last.ensures ∙ ap (λ (n : ℕ). min (c.args.last.now.step + 1) (n - 1)) c.len-steps.ensures.size in
    next_held c.args.control.now c.args.table.now c.args.last.now c.next_number-last.result c.min-last.result c.args.now c.next_number-last.ensures step c.requires.frame

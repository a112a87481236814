use Rattle.std.proofs.Common.{◌≡◌, ◌≤◌, ◌-◌, length, subst, arith}
use Rattle.std.proofs.lemmas.Grind.{common_steps}
use Rattle.frame_core.specs.Written.{IsTooLong, written_frame}
use Rattle.publish_core.specs.declared.table.Step.{Step}
use Rattle.publish_core.specs.Frames.{change, frame_with}
use Rattle.publish_core.specs.Table.{step_at}
use Rattle.publish_core.specs.computed.Sizes.{head_size}
use Rattle.publish_core.proofs.Fits.{every_step, first_frame, some_step}
use Rattle.publish_core.proofs.Sizes.{apdu_rest}
use Rattle.publish_core.proofs.publisher.write_first.Goals as goal

pub returns-then-every_frame_fits-clause-accepted : goal.returns-then-every_frame_fits-clause-accepted
returns-then-every_frame_fits-clause-accepted g c =
    let entries : length c.args.values.now ≡ c.args.control.now.entries = grind (arith, common_steps) in
    let changed = change c.args.t c.args.values.now in
    let short = subst (λ (s : Step). ¬ IsTooLong (frame_with c.args.control.now changed c.args.state 0 s.live_ms)) c.at.ensures c.in-Ok.ensures.short in
    let written = subst (λ (s : Step). c.in-Ok.frame.items ≡ written_frame (frame_with c.args.control.now changed c.args.state 0 s.live_ms)) c.at.ensures c.in-Ok.ensures.written in
    let size = apdu_rest c.args.control.now changed c.args.state (step_at c.args.table.now 0).live_ms 0 c.in-Ok.frame.items c.len.result c.head_length.result written c.len.ensures.value c.head_length.ensures.size in
    let head : head_size c.args.control.now ≤ 26 = omega (arith, c.head_length.ensures.size, c.head_length.ensures.most) in
    record {
      entries = entries;
      spelled = c.in-Ok.ensures.spelled;
      fit = every_step c.args.control.now c.args.table.now c.args.state changed c.know_steps.ensures (c.len.result - c.head_length.result) head short size (c.every_frame_fits.ensures.fit c.if-every_frame_fits.true);
    }

pub returns-else-every_frame_fits-clause-refused : goal.returns-else-every_frame_fits-clause-refused
returns-else-every_frame_fits-clause-refused g c =
    let entries : length c.args.values.now ≡ c.args.control.now.entries = grind (arith, common_steps) in
    let changed = change c.args.t c.args.values.now in
    let short = subst (λ (s : Step). ¬ IsTooLong (frame_with c.args.control.now changed c.args.state 0 s.live_ms)) c.at.ensures c.in-Ok.ensures.short in
    let written = subst (λ (s : Step). c.in-Ok.frame.items ≡ written_frame (frame_with c.args.control.now changed c.args.state 0 s.live_ms)) c.at.ensures c.in-Ok.ensures.written in
    let size = apdu_rest c.args.control.now changed c.args.state (step_at c.args.table.now 0).live_ms 0 c.in-Ok.frame.items c.len.result c.head_length.result written c.len.ensures.value c.head_length.ensures.size in
    let head : head_size c.args.control.now ≤ 26 = omega (arith, c.head_length.ensures.size, c.head_length.ensures.most) in (
      entries,
      c.in-Ok.ensures.spelled,
      some_step c.args.control.now c.args.table.now c.args.state changed c.know_steps.ensures (c.len.result - c.head_length.result) head short size (c.every_frame_fits.ensures.long c.if-every_frame_fits.false),
    )

pub returns-in-Err-TooLong-clause-refused : goal.returns-in-Err-TooLong-clause-refused
returns-in-Err-TooLong-clause-refused g c =
    let entries : length c.args.values.now ≡ c.args.control.now.entries = grind (arith, common_steps) in
    let changed = change c.args.t c.args.values.now in
    let fault = rw c.in-Err-TooLong.field-0-is at c.in-Err-TooLong.ensures.fault in
    let long = subst (λ (s : Step). IsTooLong (frame_with c.args.control.now changed c.args.state 0 s.live_ms)) c.at.ensures fault.1 in
    (entries, fault.0, first_frame c.args.control.now c.args.table.now c.args.state changed c.know_steps.ensures long)

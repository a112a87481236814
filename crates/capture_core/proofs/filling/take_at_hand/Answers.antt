use Rattle.std.proofs.Common.{◌≡◌, ◌-◌, ◌∙◌, length, take, arith}
use Rattle.list_core.proofs.Devices.{taken_at_hand}
use Rattle.capture_core.proofs.filling.take_at_hand.Goals as goal

pub returns-clause-taken : goal.returns-clause-taken
returns-clause-taken g c e =
    let count = length c.args.into.now in
    let found = c.in-Some.ensures.lookup.0 in
    let whole : count - 0 ≡ count = omega arith in
    let copied : c.copy_from_slice.new.self ≡ take count c.at_hand.result.now = c.copy_from_slice.ensures.after ∙ rw whole at found.2 in
    rw copied (taken_at_hand _ _ c.at_hand.result.now count c.at_hand.ensures found.1 (c.take_at_hand.ensures.taken e))

use Rattle.std.proofs.Common.{◌≡◌, ◌-◌, suc, ap, refl, arith}
use Rattle.capture_core.specs.Blocks.{Settled}
use Rattle.capture_core.specs.PacketReader.{packet_number, packet_state, stage_of}
use Rattle.capture_core.specs.declared.packet_reader.PacketReader.{PacketReader}
use Rattle.capture_core.specs.declared.packet_reader.Progress.{Progress}
use Rattle.capture_core.proofs.BlocksSettled.{block_settles}
use Rattle.capture_core.proofs.ReaderSteps.{blocks_end, blocks_fail, blocks_want}
use Rattle.capture_core.proofs.packet_reader.PacketReader.read_next_block.Goals as goal

pub returns-in-Ok-Some : goal.returns-in-Ok-Some
returns-in-Ok-Some g c =
    let old = c.args.self.now in
    let s : Settled = record { order = c.args.order; interfaces = old.interfaces.items; moment = old.moment } in
    let at = ap (λ (p : Progress). stage_of p old.interfaces.items old.moment) c.requires.order in
    let room : old.most ≡ suc (old.most - 1) = omega (arith, c.requires.room) in
    let v = rw (c.in-Ok-Some.field-0-is, c.as_slice.ensures.value) at c.in-Ok-Some.ensures in
    let number : packet_number old ≡ old.answered = rw c.requires.order refl in
    let mid : PacketReader g.row.R.Denot g.row.A.Denot = record { reader = c.read_block.new.reader; progress = old.progress; interfaces = old.interfaces; moment = old.moment; answered = old.answered; most = old.most; other_links = old.other_links; few = old.few } in
    rw number
    (block_settles g.R.Source.left g.R.Source.ending (packet_state g.R.Source.left g.R.Source.ending old) mid c.settle.new.self s (old.most - 1) at room refl refl c.requires.order refl refl c.settle.ensures.reader refl
    v.1.0 c.in-Ok-Some.said c.settle.result (rw v.1.1 at v.2.read) v.1.2 c.settle.ensures.said)

pub returns-in-Ok-None : goal.returns-in-Ok-None
returns-in-Ok-None g c =
    let old = c.args.self.now in
    let s : Settled = record { order = c.args.order; interfaces = old.interfaces.items; moment = old.moment } in
    let at = ap (λ (p : Progress). stage_of p old.interfaces.items old.moment) c.requires.order in
    let room : old.most ≡ suc (old.most - 1) = omega (arith, c.requires.room) in
    let v = rw (c.in-Ok-None.field-0-is, c.as_slice.ensures.value) at c.in-Ok-None.ensures in
    (blocks_end _ _ s (old.most - 1) at room (rw v.1 at v.2.read) refl refl, rw c.requires.order refl, tt)

pub returns-in-Err-Fault : goal.returns-in-Err-Fault
returns-in-Err-Fault g c =
    let old = c.args.self.now in
    let s : Settled = record { order = c.args.order; interfaces = old.interfaces.items; moment = old.moment } in
    let at = ap (λ (p : Progress). stage_of p old.interfaces.items old.moment) c.requires.order in
    let room : old.most ≡ suc (old.most - 1) = omega (arith, c.requires.room) in
    let v = rw (c.in-Err-Fault.field-0-is, c.as_slice.ensures.value) at c.in-Err-Fault.ensures in
    (blocks_fail _ _ s (old.most - 1) at room c.in-Err-Fault.fault (rw v.1 at v.2.read) refl refl, refl, tt)

pub returns-in-Err-Memory : goal.returns-in-Err-Memory
returns-in-Err-Memory g c =
    let old = c.args.self.now in
    let s : Settled = record { order = c.args.order; interfaces = old.interfaces.items; moment = old.moment } in
    let at = ap (λ (p : Progress). stage_of p old.interfaces.items old.moment) c.requires.order in
    let room : old.most ≡ suc (old.most - 1) = omega (arith, c.requires.room) in
    let v = rw (c.in-Err-Memory.field-0-is, c.as_slice.ensures.value) at c.in-Err-Memory.ensures in
    (blocks_want _ _ s (old.most - 1) at room v.0 v.1 v.2 refl refl, rw c.requires.order refl, tt)

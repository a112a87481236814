use Rattle.std.proofs.Common.{◌≡◌, ◌+◌, ◌-◌, suc, refl, arith}
use Rattle.capture_core.specs.Blocks.{Settled}
use Rattle.capture_core.proofs.FramesAtHand.{frame_read}
use Rattle.capture_core.proofs.ReaderSteps.{block_gives}
use Rattle.capture_core.proofs.packet_reader.PacketReader.take_block.Goals as goal

pub returns : goal.returns
returns g c =
    let old = c.args.self.now in
    let s : Settled = record { order = c.args.order; interfaces = old.interfaces.items; moment = old.moment } in
    let room : old.most ≡ suc (old.most - 1) = omega (arith, c.requires.room) in
    let (head, rest, p, is, ethernet, took, block) = rw c.as_slice.ensures.value at c.in-Some.ensures.taken in
    let read = frame_read (old.answered + 1) s head rest p _ _ _ _ c.requires.open c.in-Some.ensures.ending took block in
    record {
      taken = rw (is, c.requires.order) (block_gives _ _ s (old.most - 1) refl room p read.read refl refl refl (rw ethernet refl), refl, omega (arith, room));
      kept = λ e. cc;
    }

pub returns-in_default : goal.returns-in_default
returns-in_default g c = record { taken = tt; kept = λ e. (rw (c.in_default.ensures.kept refl, c.in_default.ensures.ending) refl, refl) }

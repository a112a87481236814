use Rattle.std.proofs.Common.{◌≡◌, ◌+◌, ◌-◌, suc, refl, arith}
use Rattle.capture_core.specs.Capture.{moment_in_head}
use Rattle.capture_core.specs.Packets.{Packet}
use Rattle.capture_core.proofs.FramesAtHand.{record_read}
use Rattle.capture_core.proofs.ReaderSteps.{record_gives}
use Rattle.capture_core.proofs.packet_reader.PacketReader.take_record.Goals as goal

pub returns : goal.returns
returns g c =
    let old = c.args.self.now in
    let room : old.most ≡ suc (old.most - 1) = omega (arith, c.requires.room) in
    let (head, octets, sixteen, size, some, short, is, took) = c.in-Some.ensures.taken in
    let p : Packet = record { moment = moment_in_head c.args.form head; link_type = 1; octets = octets } in
    let read = record_read c.args.form (old.answered + 1) head octets _ _ _ _ c.requires.open c.in-Some.ensures.ending took sixteen size short in
    record {
      taken = rw (is, c.requires.records) (record_gives _ _ c.args.form (old.most - 1) refl room p read.read refl refl refl refl, refl, omega (arith, room));
      kept = λ e. cc;
    }

pub returns-in_default : goal.returns-in_default
returns-in_default g c = record { taken = tt; kept = λ e. (rw (c.in_default.ensures.kept refl, c.in_default.ensures.ending) refl, refl) }

use Rattle.std.proofs.Common.{◌≡◌, ◌-◌, suc, ap, refl, arith}
use Rattle.capture_core.specs.PacketReader.{stage_of}
use Rattle.capture_core.specs.declared.packet_reader.Progress.{Progress}
use Rattle.capture_core.proofs.ReaderSteps.{record_gives, records_end, records_fail, records_want}
use Rattle.capture_core.proofs.packet_reader.PacketReader.read_record.Goals as goal

pub returns-in-Ok-Some : goal.returns-in-Ok-Some
returns-in-Ok-Some g c =
    let most = c.args.self.now.most in
    let room : most ≡ suc (most - 1) = omega (arith, c.requires.room) in
    let v = rw c.in-Ok-Some.field-0-is at c.in-Ok-Some.ensures in
    rw (v.1.2, c.requires.records) (record_gives _ _ c.args.form (most - 1) refl room v.1.0 (rw v.1.1 at v.2.read) refl refl refl (rw v.1.3 refl), refl, omega (arith, room))

pub returns-in-Ok-None : goal.returns-in-Ok-None
returns-in-Ok-None g c =
    let old = c.args.self.now in
    let at = ap (λ (p : Progress). stage_of p old.interfaces.items old.moment) c.requires.records in
    let room : old.most ≡ suc (old.most - 1) = omega (arith, c.requires.room) in
    let v = rw c.in-Ok-None.field-0-is at c.in-Ok-None.ensures in
    (records_end _ _ c.args.form (old.most - 1) at room (rw v.1 at v.2.read) refl refl, rw c.requires.records refl, tt)

pub returns-in-Err-Fault : goal.returns-in-Err-Fault
returns-in-Err-Fault g c =
    let old = c.args.self.now in
    let at = ap (λ (p : Progress). stage_of p old.interfaces.items old.moment) c.requires.records in
    let room : old.most ≡ suc (old.most - 1) = omega (arith, c.requires.room) in
    let v = rw c.in-Err-Fault.field-0-is at c.in-Err-Fault.ensures in
    (records_fail _ _ c.args.form (old.most - 1) at room c.in-Err-Fault.fault (rw v.1 at v.2.read) refl refl, refl, tt)

pub returns-in-Err-Memory : goal.returns-in-Err-Memory
returns-in-Err-Memory g c =
    let old = c.args.self.now in
    let at = ap (λ (p : Progress). stage_of p old.interfaces.items old.moment) c.requires.records in
    let room : old.most ≡ suc (old.most - 1) = omega (arith, c.requires.room) in
    let v = rw c.in-Err-Memory.field-0-is at c.in-Err-Memory.ensures in
    (records_want _ _ c.args.form (old.most - 1) at room v.0 v.1 v.2 refl refl, rw c.requires.records refl, tt)

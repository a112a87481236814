use Rattle.std.proofs.Common.{ap, refl, arith}
use Rattle.capture_core.specs.PacketReader.{stage_of}
use Rattle.capture_core.specs.declared.packet_reader.Progress.{Progress}
use Rattle.capture_core.proofs.ReaderSteps.{starts_badly, starts_blocks, starts_records}
use Rattle.capture_core.proofs.packet_reader.PacketReader.begin.Goals as goal

pub returns-in-Ok-Records : goal.returns-in-Ok-Records
returns-in-Ok-Records g c =
    let old = c.args.self.now in
    let at = ap (λ (p : Progress). stage_of p old.interfaces.items old.moment) c.requires in
    (starts_records _ _ at c.in-Ok-Records.form (rw c.in-Ok-Records.field-0-is at c.in-Ok-Records.ensures) refl refl refl refl, rw c.requires (omega arith), rw c.requires refl)

pub returns-in-Ok-Blocks : goal.returns-in-Ok-Blocks
returns-in-Ok-Blocks g c =
    let old = c.args.self.now in
    let at = ap (λ (p : Progress). stage_of p old.interfaces.items old.moment) c.requires in
    let begun = c.begin_section.ensures in
    rw (begun.progress, begun.interfaces, begun.reader)
    (starts_blocks _ _ at c.in-Ok-Blocks.order (rw c.in-Ok-Blocks.field-0-is at c.in-Ok-Blocks.ensures) refl refl refl begun.other_links, rw c.requires (omega arith), rw c.requires refl)

pub returns-in-Err : goal.returns-in-Err
returns-in-Err g c =
    let old = c.args.self.now in
    let at = ap (λ (p : Progress). stage_of p old.interfaces.items old.moment) c.requires in
    (starts_badly _ _ at c.in-Err.fault c.in-Err.ensures refl refl, refl, tt)

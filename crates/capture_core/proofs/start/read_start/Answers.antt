use Rattle.std.proofs.Common.{◌≡◌, ◌∙◌, [], length, Err, ap, sym, arith}
use Rattle.std.specs.Prelude.{is_some}
use Rattle.list_core.specs.declared.device.InputEnd.TheVariants.{Open}
use Rattle.capture_core.proofs.StartsRead.{section_fails, section_starts, start_blocks, start_other, start_short, start_some}
use Rattle.capture_core.proofs.Fronts.{front_behind, front_none, front_same}
use Rattle.capture_core.proofs.start.read_start.Goals as goal

pub returns-in-Ok-read_classic : goal.returns-in-Ok-read_classic
returns-in-Ok-read_classic g c =
    let t = c.in-Ok.ensures in
    let magic = c.take.new.into in
    let m : length magic ≡ 4 = rw t.5 at t.1 in
    let some = ap is_some (sym c.form_at.ensures) ∙ sym c.is_some.ensures ∙ c.if-is_some.true in
    front_behind _ _ [] magic _ _ _ _ _ _ (rw t.5 at t.2) (rw t.5 at t.3) t.4 (λ front few. start_short Open front (omega (arith, few, m)))
    (front_same _ _ _ magic _ _ _ _ (λ y rest. start_some y magic rest m some) c.in-Ok-read_classic.ensures)

pub returns-in-Err-read_classic : goal.returns-in-Err-read_classic
returns-in-Err-read_classic g c =
    let t = c.in-Ok.ensures in
    let magic = c.take.new.into in
    let m : length magic ≡ 4 = rw t.5 at t.1 in
    let some = ap is_some (sym c.form_at.ensures) ∙ sym c.is_some.ensures ∙ c.if-is_some.true in
    front_behind _ _ [] magic _ _ _ _ _ _ (rw t.5 at t.2) (rw t.5 at t.3) t.4 (λ front few. start_short Open front (omega (arith, few, m)))
    (front_same _ _ _ magic _ _ _ _ (λ y rest. start_some y magic rest m some) c.in-Err-read_classic.ensures)

pub returns-then-long_at-ne-SECTION_HEADER : goal.returns-then-long_at-ne-SECTION_HEADER
returns-then-long_at-ne-SECTION_HEADER g c =
    let t = c.in-Ok.ensures in
    let magic = c.take.new.into in
    let m : length magic ≡ 4 = rw t.5 at t.1 in
    let none = ap is_some (sym c.form_at.ensures) ∙ sym c.is_some.ensures ∙ c.if-is_some.false in
    front_behind _ _ [] magic _ _ _ _ _ _ (rw t.5 at t.2) (rw t.5 at t.3) t.4 (λ front few. start_short Open front (omega (arith, few, m)))
    (front_none _ magic _ _ _ (λ y more. start_other y magic more m none (λ e. c.if-long_at-ne-SECTION_HEADER.true (c.long_at.ensures ∙ e)) ∙ ap Err (sym c.in_record.ensures)))

pub returns-in-Ok-read_first_section : goal.returns-in-Ok-read_first_section
returns-in-Ok-read_first_section g c =
    let t = c.in-Ok.ensures in
    let magic = c.take.new.into in
    let m : length magic ≡ 4 = rw t.5 at t.1 in
    let none = ap is_some (sym c.form_at.ensures) ∙ sym c.is_some.ensures ∙ c.if-is_some.false in
    front_behind _ _ [] magic _ _ _ _ _ _ (rw t.5 at t.2) (rw t.5 at t.3) t.4 (λ front few. start_short Open front (omega (arith, few, m)))
    (section_starts magic _ _ _ _ (λ y rest. start_blocks y magic rest m none (sym c.long_at.ensures ∙ c.if-long_at-ne-SECTION_HEADER.false)) c.in-Ok-read_first_section.order c.in-Ok-read_first_section.ensures)

pub returns-in-Err-read_first_section : goal.returns-in-Err-read_first_section
returns-in-Err-read_first_section g c =
    let t = c.in-Ok.ensures in
    let magic = c.take.new.into in
    let m : length magic ≡ 4 = rw t.5 at t.1 in
    let none = ap is_some (sym c.form_at.ensures) ∙ sym c.is_some.ensures ∙ c.if-is_some.false in
    front_behind _ _ [] magic _ _ _ _ _ _ (rw t.5 at t.2) (rw t.5 at t.3) t.4 (λ front few. start_short Open front (omega (arith, few, m)))
    (section_fails magic _ _ _ _ (λ y rest. start_blocks y magic rest m none (sym c.long_at.ensures ∙ c.if-long_at-ne-SECTION_HEADER.false)) _ c.in-Err-read_first_section.ensures)

use Rattle.std.proofs.Common.{◌+◌, ◌∙◌, [], Some, Err, ap, sym, refl}
use Rattle.list_core.specs.declared.device.InputEnd.{InputEnd}
use Rattle.capture_core.specs.Capture.{ended}
use Rattle.capture_core.specs.Packets.{stop_of}
use Rattle.capture_core.specs.computed.OneRead.{ReadsFront}
use Rattle.capture_core.proofs.LastRead.{last_ends, last_fails, last_front, last_short, last_whole, number_reading}
use Rattle.capture_core.proofs.packet_reader.PacketReader.read_last.Goals as goal
use Rattle.capture_core.proofs.packet_reader.PacketReader.read_last.Goals.{in-Whole, in-Short}

pub returns-in-None : goal.returns-in-None
returns-in-None g c =
    let old = c.args.self.now in
    let number = old.answered + 1 in
    let told : ReadsFront (λ y o. last_front y number o) [] (g.R.Source.left old.reader) (g.R.Source.ending old.reader) (Err (Some (stop_of c.match-fill.fault))) (g.R.Source.left c.fill.new.reader) (g.R.Source.ending c.fill.new.reader) =
    elim c.match-fill.branch [
      | in-Whole w ↦ last_whole number _ c.fill.new.into _ _ _ _ c.fill.auto.into (ap stop_of w.fault-is ∙ w.in_record.ensures) w.in-Whole.ensures
      | in-Short w ↦ last_short number w.in-Short.field-0 _ c.fill.new.into _ _ _ _ c.fill.auto.into (ap (λ (z : InputEnd). ended z number) (sym w.ending.ensures) ∙ w.ended_in-fault.ensures ∙ ap stop_of (sym w.fault-is)) w.in-Short.ensures
    ] in
    rw c.in-None.is (last_ends _ _ old.progress old.interfaces.items old.moment refl c.requires.reading c.requires.none (rw c.in-None.is at told) refl refl, sym (number_reading old.progress old.answered c.requires.reading), tt)

pub returns-in-Some : goal.returns-in-Some
returns-in-Some g c =
    let old = c.args.self.now in
    let number = old.answered + 1 in
    let told : ReadsFront (λ y o. last_front y number o) [] (g.R.Source.left old.reader) (g.R.Source.ending old.reader) (Err (Some (stop_of c.match-fill.fault))) (g.R.Source.left c.fill.new.reader) (g.R.Source.ending c.fill.new.reader) =
    elim c.match-fill.branch [
      | in-Whole w ↦ last_whole number _ c.fill.new.into _ _ _ _ c.fill.auto.into (ap stop_of w.fault-is ∙ w.in_record.ensures) w.in-Whole.ensures
      | in-Short w ↦ last_short number w.in-Short.field-0 _ c.fill.new.into _ _ _ _ c.fill.auto.into (ap (λ (z : InputEnd). ended z number) (sym w.ending.ensures) ∙ w.ended_in-fault.ensures ∙ ap stop_of (sym w.fault-is)) w.in-Short.ensures
    ] in
    rw c.in-Some.is (last_fails _ _ old.progress old.interfaces.items old.moment refl c.requires.reading c.requires.none c.in-Some.fault (rw c.in-Some.is at told) refl refl, refl, tt)

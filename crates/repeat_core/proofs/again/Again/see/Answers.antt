use Rattle.std.proofs.Common.{◌≡◌, ◌+◌, Ok, rules, sym, true, ◌∙◌}
use Rattle.std.specs.Prelude.{slice_range}
use Rattle.ber_core.specs.Length.{AreOctets}
use Rattle.pdu_core.specs.Written.{written_goose}
use Rattle.frame_core.specs.FrameViews.{frame_of}
use Rattle.frame_core.proofs.ReadingLaws.{frame_again}
use Rattle.frame_core.proofs.SpelledSpellable.{seen_spellable}
use Rattle.frame_core.proofs.WrittenSeen.{seen_written}
use Rattle.repeat_core.specs.Noted.{noted_pdu}
use Rattle.repeat_core.proofs.WrittenFrames.{apdu_again}
use Rattle.repeat_core.proofs.again.Again.see.Goals as goal
use Rattle.repeat_core.proofs.again.Again.see.Goals.{then-notes, else-notes}

pub returns-clause-exact : goal.returns-clause-exact
returns-clause-exact g c = frame_again c.args.octets.now (frame_of c.noted_frame.result) c.noted_frame.ensures.found

pub returns-clause-spellable : goal.returns-clause-spellable
returns-clause-spellable g c =
    let small : AreOctets c.args.octets.now = λ i. search rules in
    seen_spellable c.args.octets.now small (Ok c.noted_frame.result) c.noted_frame.ensures.found

pub returns-clause-written : goal.returns-clause-written
returns-clause-written g c = λ told.
    let o = c.args.octets.now in
    let a = c.args.self.now in
    let n = a.notes.now in
    let small : AreOctets o = λ i. search rules in
    let noted : c.if-notes.written ≡ true = sym c.noted_frame.ensures.written ∙ told in
    let form : slice_range o (n.ether_type + 10) n.end ≡ written_goose (noted_pdu {A = Unit {0}} o n a.live a.sq_num) = elim c.if-notes.branch [
      | then-notes w ↦ w.is_written-written.ensures (sym w.written-is ∙ noted)
      | else-notes w ↦ absurd (let wrong = sym w.written-is ∙ noted in cc)
    ] in
    seen_written o small (Ok c.noted_frame.result) c.noted_frame.ensures.found (λ _. apdu_again o n a.live a.sq_num c.noted_frame.result.apdu c.requires.shows.envelope c.noted_frame.ensures.apdu form) told

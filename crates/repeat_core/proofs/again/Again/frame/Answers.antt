use Rattle.std.proofs.Common.{Ok, rules}
use Rattle.ber_core.specs.Length.{AreOctets}
use Rattle.frame_core.specs.FrameViews.{frame_of}
use Rattle.frame_core.proofs.ReadingLaws.{frame_again}
use Rattle.frame_core.proofs.SpelledSpellable.{seen_spellable}
use Rattle.repeat_core.proofs.again.Again.frame.Goals as goal

pub returns-clause-spellable : goal.returns-clause-spellable
returns-clause-spellable g c =
    let small : AreOctets c.args.octets.now = λ i. search rules in
    seen_spellable c.args.octets.now small (Ok c.noted_frame.result) c.noted_frame.ensures.found

pub returns-clause-exact : goal.returns-clause-exact
returns-clause-exact g c = frame_again c.args.octets.now (frame_of c.noted_frame.result) c.noted_frame.ensures.found

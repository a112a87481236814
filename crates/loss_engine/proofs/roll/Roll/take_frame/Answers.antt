use Rattle.std.proofs.Common.{◌∙◌, ap, sym}
use Rattle.loss_core.specs.Sender.{told_after}
use Rattle.loss_engine.specs.computed.Tracking.{more_frames, sender_of}
use Rattle.loss_engine.proofs.Tracks.{kept_entry, known_entry, still_in_order}
use Rattle.loss_engine.proofs.roll.Roll.take_frame.Goals as goal

pub invariant_of-self : goal.invariant_of-self
invariant_of-self g c =
    still_in_order c.self.inside.entries.items c.args.self.now c.self.view_is c.args.at c.requires c.index_mut.result.now c.index_mut.ensures.value c.self.inside.positions c.self.invariant c.take_frame.new.self

pub returns-clause-told : goal.returns-clause-told
returns-clause-told g c = λ key f.
    c.take_frame.ensures.told
    ∙ ap (λ k. told_after (sender_of k) c.args.frame) (sym (known_entry c.self.inside.entries.items c.args.self.now c.self.view_is c.args.at c.requires c.index_mut.result.now c.index_mut.ensures.value key f))

pub returns-clause-kept : goal.returns-clause-kept
returns-clause-kept g c = λ key first f.
    kept_entry c.self.inside.entries.items c.args.self.now c.self.view_is c.args.at c.requires c.index_mut.result.now c.index_mut.ensures.value key f c.take_frame.new.self first (more_frames c.args.frame) c.take_frame.ensures.after

use Rattle.std.proofs.Common.{refl}
use Rattle.loss_engine.specs.computed.Tracking.{more_samples}
use Rattle.loss_engine.proofs.Tracks.{kept_entry, known_entry, still_in_order}
use Rattle.loss_engine.proofs.roll.Roll.take_sample.Goals as goal

pub invariant_of-self : goal.invariant_of-self
invariant_of-self g c =
    still_in_order c.self.inside.entries.items c.args.self.now c.self.view_is c.args.at c.requires c.index_mut.result.now c.index_mut.ensures.value c.self.inside.positions c.self.invariant c.take_sample.new.self

pub returns-clause-told : goal.returns-clause-told
returns-clause-told g c = λ key f.
    rw (known_entry c.self.inside.entries.items c.args.self.now c.self.view_is c.args.at c.requires c.index_mut.result.now c.index_mut.ensures.value key f) c.take_sample.ensures.told

pub returns-clause-kept : goal.returns-clause-kept
returns-clause-kept g c = λ key first f.
    kept_entry c.self.inside.entries.items c.args.self.now c.self.view_is c.args.at c.requires c.index_mut.result.now c.index_mut.ensures.value key f c.take_sample.new.self first (more_samples c.args.sample c.args.synch) c.take_sample.ensures.after

pub returns-clause-known : goal.returns-clause-known
returns-clause-known g c = λ key f.
    rw (known_entry c.self.inside.entries.items c.args.self.now c.self.view_is c.args.at c.requires c.index_mut.result.now c.index_mut.ensures.value key f) refl

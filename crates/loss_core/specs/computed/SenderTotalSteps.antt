-- What one more frame adds to what a sender's frames come to.
use Rattle.std.specs.Prelude.{◌≡◌, ℕ, ◌+◌, ◌-◌, max, Some, if◌then◌else◌}
use Rattle.loss_core.specs.declared.sender.Arrival.{Arrival}
use Rattle.loss_core.specs.declared.sender.Told.{Told}
use Rattle.loss_core.specs.declared.sender_tally.SenderTotals.{SenderTotals}
use Rattle.loss_core.specs.declared.sender_tally.SenderTally.{SenderTally}
use Rattle.loss_core.specs.Sender.{deadline_of, restarts, sets, told_after, was_silent}
use Rattle.loss_core.specs.computed.SenderSteps.{deadline_by, newest_by}
use Rattle.loss_core.specs.SenderTotals.{frames_missing_at, is_late, is_repeated, kept, one_if, states_missing_at}

-- each number grows by what is counted of the frame
pub record AddsFrame (a : Arrival) (t : Told) (set_at : ℕ) (old new : SenderTotals) : Type 0 where
  pub frames : new.frames ≡ kept (old.frames + 1)
  pub states_missing : new.states_missing ≡ kept (old.states_missing + states_missing_at a t)
  pub frames_missing : new.frames_missing ≡ kept (old.frames_missing + frames_missing_at a t)
  pub late : new.late ≡ kept (old.late + one_if (is_late t))
  pub repeated : new.repeated ≡ kept (old.repeated + one_if (is_repeated t))
  pub restarted : new.restarted ≡ kept (old.restarted + one_if (restarts t))
  pub silent : new.silent ≡ kept (old.silent + one_if (was_silent t))
  pub longest : new.longest ≡ max old.longest (if sets t then a.moment - set_at else 0)

-- the same as one value
abbrev pub totals_after : SenderTotals → Arrival → Told → ℕ → SenderTotals
totals_after old a t set_at = record {
  frames = kept (old.frames + 1);
  states_missing = kept (old.states_missing + states_missing_at a t);
  frames_missing = kept (old.frames_missing + frames_missing_at a t);
  late = kept (old.late + one_if (is_late t));
  repeated = kept (old.repeated + one_if (is_repeated t));
  restarted = kept (old.restarted + one_if (restarts t));
  silent = kept (old.silent + one_if (was_silent t));
  longest = max old.longest (if sets t then a.moment - set_at else 0);
}

-- the tally of a first frame
abbrev pub first_tally : Arrival → SenderTally
first_tally a = record {
  sender = record { newest = a.pair; deadline = deadline_of a };
  totals = record { frames = 1; states_missing = 0; frames_missing = 0; late = 0; repeated = 0; restarted = 0; silent = 0; longest = 0 };
  set_at = a.moment;
}

-- a tally after a frame that tells this
abbrev pub tally_told : SenderTally → Arrival → Told → SenderTally
tally_told s a t = record {
  sender = record { newest = newest_by s.sender.newest a t; deadline = deadline_by s.sender.deadline a t };
  totals = totals_after s.totals a t s.set_at;
  set_at = if sets t then a.moment else s.set_at;
}

-- a tally after one more frame
abbrev pub tally_after : SenderTally → Arrival → SenderTally
tally_after s a = tally_told s a (told_after (Some s.sender) a)

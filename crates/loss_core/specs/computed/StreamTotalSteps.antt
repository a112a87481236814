-- What one more sample adds to what a stream's samples come to.
use Rattle.std.specs.Prelude.{◌≡◌, ℕ, ◌+◌, max, List, length, Option, None}
use Rattle.loss_core.specs.declared.stream.Sample.{Sample}
use Rattle.loss_core.specs.declared.stream.Came.{Came}
use Rattle.loss_core.specs.declared.stream_tally.StreamTotals.{StreamTotals}
use Rattle.loss_core.specs.SenderTotals.{kept, one_if}
use Rattle.loss_core.specs.Stream.{AreSamplesTold, IsKnownOf, Known}
use Rattle.loss_core.specs.StreamTotals.{AreStreamTotals, is_behind_outage, is_late_sample, is_out_of_range, is_repeated_sample, missing_before}
use Rattle.loss_core.specs.computed.StreamSteps.{Keeps, StreamState, came_after, kept_after}

-- what a tally is to its callers: the stream, and what its samples come to
pub record StreamTallyState : Type 0 where
  pub stream : StreamState
  pub totals : StreamTotals

-- each number grows by what is counted of the sample
pub record AddsSample (c : Came) (old new : StreamTotals) : Type 0 where
  pub samples : new.samples ≡ kept (old.samples + 1)
  pub missing : new.missing ≡ kept (old.missing + missing_before c)
  pub late : new.late ≡ kept (old.late + one_if (is_late_sample c))
  pub repeated : new.repeated ≡ kept (old.repeated + one_if (is_repeated_sample c))
  pub out_of_range : new.out_of_range ≡ kept (old.out_of_range + one_if (is_out_of_range c))
  pub outages : new.outages ≡ kept (old.outages + one_if (is_behind_outage c))
  pub longest : new.longest ≡ kept (max old.longest (missing_before c))

-- a tally stands after samples: its stream does, and its totals are what they come to
abbrev pub StreamTallyStandsAfter : List Sample → StreamTallyState → Type 0
StreamTallyStandsAfter samples s =
    (told : List Came) × AreSamplesTold s.stream.period samples told × (((known : Option Known) × IsKnownOf samples told (length samples) known × Keeps known s.stream.newest) × AreStreamTotals told s.totals)

-- the same as one value
abbrev pub stream_totals_after : StreamTotals → Came → StreamTotals
stream_totals_after old c = record {
  samples = kept (old.samples + 1);
  missing = kept (old.missing + missing_before c);
  late = kept (old.late + one_if (is_late_sample c));
  repeated = kept (old.repeated + one_if (is_repeated_sample c));
  out_of_range = kept (old.out_of_range + one_if (is_out_of_range c));
  outages = kept (old.outages + one_if (is_behind_outage c));
  longest = kept (max old.longest (missing_before c));
}

-- the tally of a stream of which no sample came
abbrev pub fresh_tally : ℕ → StreamTallyState
fresh_tally period = record {
  stream = record { period = period; newest = None };
  totals = record { samples = 0; missing = 0; late = 0; repeated = 0; out_of_range = 0; outages = 0; longest = 0 };
}

-- a tally after a sample that tells this
abbrev pub stream_tally_told : StreamTallyState → Sample → Came → StreamTallyState
stream_tally_told u s c = record { stream = record { period = u.stream.period; newest = kept_after u.stream.newest s c }; totals = stream_totals_after u.totals c }

-- a tally after one more sample
abbrev pub stream_tally_after : StreamTallyState → Sample → StreamTallyState
stream_tally_after u s = stream_tally_told u s (came_after u.stream.period u.stream.newest s)

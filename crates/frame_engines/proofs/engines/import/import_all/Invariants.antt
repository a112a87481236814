use Rattle.std.proofs.Common.{◌≡◌, ◌≤◌, ◌-◌, List, ℕ, false}
use Rattle.std.specs.List.{list_any}
use Rattle.std.specs.Io.KnownBytes.{Appends}
use Rattle.capture_core.specs.Capture.{CaptureRecord}
use Rattle.frame_engines.specs.ImportText.{is_left_out}
use Rattle.frame_engines.proofs.ImportLemmas.{Took, text_to}
use Rattle.frame_engines.proofs.engines.import.import_all.Given as goal

abbrev pub invariant-records : goal.invariant-records
invariant-records g l = record {
  few : l.count ≤ 999999;
  works : g.W.Sink.failed l.writer ≡ false;
  so_far : (rs : List (ℕ × CaptureRecord)) × Took l.form (g.R.Source.left l.fn.reader) (g.R.Source.ending l.fn.reader) rs l.count (g.R.Source.left l.reader) (g.R.Source.ending l.reader)
      × Appends (g.W.Sink.contents l.initial.writer) (g.W.Sink.contents l.writer) (text_to rs) × (l.found ≡ list_any is_left_out rs);
}

abbrev pub decreases-records : goal.decreases-records
decreases-records g l = 999999 - l.count

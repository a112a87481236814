use Rattle.std.proofs.Common.{◌≡◌, List, ℕ, false}
use Rattle.engine_core.specs.EngineText.{Alike}
use Rattle.engine_core.specs.Input.{reader_of}
use Rattle.engine_core.proofs.ReaderRuns.{Ran}
use Rattle.engine_core.proofs.running.run_on.Given as goal

abbrev pub invariant-answers : goal.invariant-answers
invariant-answers g l = record {
  works : g.W.Sink.failed l.writer ≡ false;
  same : Alike (g.E.Engine.allows l.engine) (g.E.Engine.allows l.initial.engine);
  so_far : (items : List (ℕ × g.row.I-Item.Denot)) × g.E.Engine.stands l.engine items
      × Ran (reader_of g.I.ReadItems.answers g.I.ReadItems.number g.F.InputFault.refused g.F.InputFault.failed) (g.E.Engine.allows l.initial.engine) l.initial.items l.items items (g.W.Sink.contents l.initial.writer) (g.W.Sink.contents l.writer) l.found;
}

abbrev pub decreases-answers : goal.decreases-answers
decreases-answers g l = g.I.ReadItems.most l.items

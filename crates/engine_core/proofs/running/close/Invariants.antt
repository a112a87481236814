use Rattle.std.proofs.Common.{◌≡◌, ◌-◌, ◌^◌, ℕ, List, false}
use Rattle.engine_core.specs.EngineText.{ItemText}
use Rattle.engine_core.proofs.EndRuns.{Closed}
use Rattle.engine_core.proofs.running.close.Given as goal

abbrev pub invariant-lines : goal.invariant-lines
invariant-lines g l = record {
  works : g.W.Sink.failed l.writer ≡ false;
  so_far : (items : List (ℕ × g.row.E-Item.Denot)) → g.E.Engine.stands l.engine items → (lines : List ItemText) → (g.E.Engine.allows l.engine).at_end items lines →
      Closed lines l.at l.initial.finds l.finds (g.W.Sink.contents l.initial.writer) (g.W.Sink.contents l.writer);
}

abbrev pub decreases-lines : goal.decreases-lines
decreases-lines g l = 2 ^ 66 - l.at

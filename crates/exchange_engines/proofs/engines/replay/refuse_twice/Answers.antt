use Rattle.std.proofs.Common.{◌++◌, ℕ, List, ap, subst, ◌∙◌, inl}
use Rattle.engine_core.specs.EventsText.{line_in}
use Rattle.engine_core.specs.Run.{LeavesRefused}
use Rattle.exchange_engines.specs.EntryObject.{twice_object}
use Rattle.exchange_engines.specs.ReplayText.{twice_line}
use Rattle.exchange_engines.proofs.engines.replay.refuse_twice.Goals as goal

pub returns-in-Ok-clause-written : goal.returns-in-Ok-clause-written
returns-in-Ok-clause-written g c =
    let line = c.as_slice.ensures.value ∙ c.in-Ok.ensures ∙ ap (λ (l : List ℕ). l ++ line_in c.args.style (twice_line c.args.position) (twice_object c.args.blocks.now c.args.position)) c.new-line.ensures.items in
    inl (subst (λ (l : List ℕ). LeavesRefused l c.refuse.result.0 (g.W.Sink.contents c.args.writer.now) (g.W.Sink.contents c.refuse.new.writer)) line c.refuse.ensures.text)

use Rattle.std.proofs.Common.{refl, ◌++◌, ◌∙◌, ap, subst}
use Rattle.std.specs.Io.KnownBytes.{Appends}
use Rattle.engine_core.proofs.running.answer_item.Goals as goal

pub returns-in-Ok-put_all-clause-step : goal.returns-in-Ok-put_all-clause-step
returns-in-Ok-put_all-clause-step g c = λ before stands.
    let s = c.in-Ok.ensures.step before stands in
    record {
      item = (c.args.number, c.args.item);
      text = s.text;
      answered = refl;
      has_text = s.has_text;
      written = subst (λ l. Appends (g.W.Sink.contents c.args.writer.now) (g.W.Sink.contents c.put_all.new.writer) l) (c.as_slice.ensures.value ∙ s.appended ∙ ap (λ l. l ++ s.text) c.clear.ensures.items) c.in-Ok-put_all.ensures.written;
      stands_after = s.stands_after;
    }

pub returns-in-Err-clause-fails : goal.returns-in-Err-clause-fails
returns-in-Err-clause-fails g c = c.in-Err.ensures.fault

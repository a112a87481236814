use Rattle.std.proofs.Common.{[], refl, sym, inl, inr}
use Rattle.engine_core.proofs.InputRuns.{none_given}
use Rattle.task_engine.proofs.listing.replay_listed.Goals as goal

pub returns-in-Ok-clause-text : goal.returns-in-Ok-clause-text
returns-in-Ok-clause-text g c =
    let r = c.perform.ensures.text in
    (r.0, r.1, inr (record { held = g.W.Sink.contents c.write_subscribed.new.writer; lines = rw (sym c.as_slice.ensures.value) c.in-Ok.ensures.written; replayed = r.2; passes = c.perform.ensures.passed }))

pub returns-clause-text : goal.returns-clause-text
returns-clause-text g c =
    let left = c.of_reader.ensures in
    rw (left.reader, left.told, left.passed, left.ending) ([], none_given _, inl (refl, refl, (c.requires.open, refl), rw (sym c.as_slice.ensures.value) c.in-Err.ensures.written))

pub returns-in-Ok-clause-links : goal.returns-in-Ok-clause-links
returns-in-Ok-clause-links g c = inl c.perform.ensures.links

pub returns-clause-links : goal.returns-clause-links
returns-clause-links g c =
    let left = c.of_reader.ensures in
    rw (left.links, left.reader, left.ending) (
    inr (
      refl,
      none_given _,
      elim c.in-Err.ensures.written [
        | inl failed ↦ inl failed.0
        | inr refused ↦ inr refused.0
      ],
    )
    )

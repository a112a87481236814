use Rattle.std.proofs.Common.{sym, ◌∙◌}
use Rattle.frame_core.specs.FrameViews.{frame_of}
use Rattle.frame_engines.proofs.CheckLemmas.{another_length, own_form}
use Rattle.frame_engines.proofs.engines.check.stands_in_written_form.Goals as goal

pub returns-then-is_written : goal.returns-then-is_written
returns-then-is_written c = own_form (frame_of {A = Unit {0}} c.args.view.now) c.args.octets.now (c.requires.known (sym c.is_written.ensures ∙ c.if-is_written.true))

pub returns-then-has_another_length : goal.returns-then-has_another_length
returns-then-has_another_length c = another_length (frame_of {A = Unit {0}} c.args.view.now) c.args.octets.now (c.has_another_length.ensures c.if-has_another_length.true)

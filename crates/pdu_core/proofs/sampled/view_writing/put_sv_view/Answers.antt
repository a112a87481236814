use Rattle.pdu_core.specs.SampledViews.{sv_of}
use Rattle.pdu_core.proofs.Appended.{sv_appended}
use Rattle.pdu_core.proofs.sampled.view_writing.put_sv_view.Goals as goal

pub returns-clause-spelled : goal.returns-clause-spelled
returns-clause-spelled g c = sv_appended (sv_of {A = Unit {0}} c.args.view.now) _ c.put_written.result c.args.out.now.items c.put_written.new.out.items c.put_written.ensures.fits c.put_written.ensures.written

use Rattle.pdu_core.specs.Views.{pdu_of}
use Rattle.pdu_core.proofs.Appended.{goose_appended}
use Rattle.pdu_core.proofs.view_writing.put_goose_view.Goals as goal

pub returns-clause-spelled : goal.returns-clause-spelled
returns-clause-spelled g c = goose_appended (pdu_of {A = Unit {0}} c.args.view.now) _ c.put_written.result c.args.out.now.items c.put_written.new.out.items c.put_written.ensures.fits c.put_written.ensures.written

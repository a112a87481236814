use Rattle.pdu_core.specs.SampledViews.{sv_of}
use Rattle.pdu_core.specs.Views.{pdu_of}
use Rattle.frame_core.proofs.PutLaws.{goose_small, sampled_small, seen_full}
use Rattle.frame_core.proofs.view_encoding.put_apdu.Goals as goal

pub returns-in-Goose-clause-fits : goal.returns-in-Goose-clause-fits
returns-in-Goose-clause-fits c = rw c.in-Goose.is (seen_full _ _ _ c.requires (goose_small (pdu_of {A = Unit {0}} c.in-Goose.goose)) c.put_goose_view.result c.put_goose_view.ensures.fits)

pub returns-in-Sampled-clause-fits : goal.returns-in-Sampled-clause-fits
returns-in-Sampled-clause-fits c = rw c.in-Sampled.is (seen_full _ _ _ c.requires (sampled_small (sv_of {A = Unit {0}} c.in-Sampled.sampled)) c.put_sv_view.result c.put_sv_view.ensures.fits)

use Rattle.frame_core.proofs.PutLaws.{full_is, goose_small, goose_tested, sampled_small, sampled_tested}
use Rattle.frame_core.proofs.encoding.put_apdu.Goals as goal

pub returns-in-Goose-clause-full : goal.returns-in-Goose-clause-full
returns-in-Goose-clause-full g c =
    let p = c.in-Goose.pdu in
    rw c.in-Goose.is (full_is _ _ _ _ c.requires (goose_tested p) (goose_small p) c.put_goose.result c.put_goose.ensures.not_spellable c.put_goose.ensures.fits)

pub returns-in-Sampled-clause-full : goal.returns-in-Sampled-clause-full
returns-in-Sampled-clause-full g c =
    let p = c.in-Sampled.pdu in
    rw c.in-Sampled.is (full_is _ _ _ _ c.requires (sampled_tested p) (sampled_small p) c.put_sv.result c.put_sv.ensures.not_spellable c.put_sv.ensures.fits)

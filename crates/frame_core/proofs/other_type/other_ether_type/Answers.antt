use Rattle.frame_core.specs.Apdu.{IsApduType}
use Rattle.frame_core.specs.Envelope.{ether_place, word_at}
use Rattle.frame_core.proofs.OtherCauses.{is_of_another}
use Rattle.frame_core.proofs.other_type.other_ether_type.Goals as goal

-- a frame that announces an APDU has no such fault
pub returns-then-announces_apdu-clause-every : goal.returns-then-announces_apdu-clause-every
returns-then-announces_apdu-clause-every c f fault same =
    let o = c.args.octets.now in
    let announced : IsApduType (word_at o (ether_place o)) = rw (c.word-ether_type.ensures, c.ether_type_place-place.ensures.value) at (c.announces_apdu.ensures.announced c.if-announces_apdu.true) in
    absurd ((is_of_another o f fault same).other announced)

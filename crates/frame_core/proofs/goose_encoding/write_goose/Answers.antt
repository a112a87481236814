use Rattle.std.proofs.Common.{inl, refl, arith, rules}
use Rattle.pdu_core.specs.Parts.{pdu_of_parts}
use Rattle.frame_core.proofs.PutLaws.{full_is, goose_small, goose_tested}
use Rattle.frame_core.proofs.goose_encoding.write_goose.Goals as goal

pub returns-in-Err-Full-clause-too_long : goal.returns-in-Err-Full-clause-too_long
returns-in-Err-Full-clause-too_long g c =
    let p = pdu_of_parts c.args.frame.now.parts in
    let e = c.put_goose_parts.ensures in
    let full = (full_is _ _ _ _ (search rules) (goose_tested p) (goose_small p) c.put_goose_parts.result e.not_spellable e.fits).0 (search rules) in
    (λ _. (full.0, inl (omega (arith, full.1))), λ _. refl)

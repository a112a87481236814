use Rattle.frame_core.specs.GooseFrame.{frame_of_parts}
use Rattle.frame_core.proofs.PutLaws.{written_fits, written_spells}
use Rattle.frame_core.proofs.goose_encoding.encode_goose.Goals as goal

pub returns-clause-spelled : goal.returns-clause-spelled
returns-clause-spelled g c =
    let e = c.write_goose.ensures in
    written_spells (frame_of_parts c.args.frame.now) (λ o. o.items) c.write_goose.result e.not_spellable e.too_long e.written e.held

pub returns-clause-exact : goal.returns-clause-exact
returns-clause-exact g c =
    let e = c.write_goose.ensures in
    written_fits (frame_of_parts c.args.frame.now) (λ o. o.items) c.write_goose.result e.not_spellable e.too_long

use Rattle.std.proofs.Common.{◌≡◌, Err, subst}
use Rattle.std.specs.Prelude.{◌↔◌, is_ok}
use Rattle.frame_core.specs.declared.encoding.EncodeFault.TheVariants as encode
use Rattle.frame_core.specs.declared.frame.Frame.{Frame}
use Rattle.frame_core.specs.Written.{ApduIsSpellable, IsTooLong}
use Rattle.frame_core.specs.computed.WrittenTest.{fits}
use Rattle.publish_core.specs.Frames.{change}
use Rattle.publish_core.proofs.Encoded.{encode_fault, encoded_spelled}
use Rattle.publish_core.proofs.frames.encode_state.Goals as goal

pub returns-clause-fault : goal.returns-clause-fault
returns-clause-fault g c =
    let known = c.know_ranges.ensures in
    encode_fault c.args.control.now (change c.args.t c.args.values.now) c.args.numbers.state c.args.numbers.sequence c.args.numbers.live_ms
    known.state known.sequence known.live known.conf_rev known.entries c.requires c.encode_goose.result
    (subst (λ (f : Frame g.row.A.Denot). (c.encode_goose.result ≡ Err encode.NotSpellable) ↔ (¬ ApduIsSpellable f.apdu)) c.frame_with.ensures c.encode_goose.ensures.not_spellable)
    (subst (λ (f : Frame g.row.A.Denot). (c.encode_goose.result ≡ Err encode.TooLong) ↔ (ApduIsSpellable f.apdu × IsTooLong f)) c.frame_with.ensures c.encode_goose.ensures.too_long)

pub returns-clause-spelled : goal.returns-clause-spelled
returns-clause-spelled g c =
    encoded_spelled c.args.control.now (change c.args.t c.args.values.now) c.args.numbers.state c.args.numbers.sequence c.args.numbers.live_ms c.encode_goose.result
    (subst (λ (f : Frame g.row.A.Denot). is_ok c.encode_goose.result ≡ fits f) c.frame_with.ensures c.encode_goose.ensures.exact)

use Rattle.std.proofs.Common.{◌≡◌, ◌+◌, ◌≤◌, ℕ, length, ap, sym, ◌∙◌, subst, arith}
use Rattle.ber_core.specs.Written.{signed_size}
use Rattle.frame_core.specs.Written.{written_frame}
use Rattle.publish_core.specs.Frames.{change, frame_with}
use Rattle.publish_core.specs.computed.Sizes.{between_size}
use Rattle.publish_core.proofs.Places.{frame_length, over_size, renewed, short_texts, within}
use Rattle.publish_core.proofs.Sizes.{fields}
use Rattle.publish_core.proofs.renewing.write_numbers.Goals as goal

pub place_of_live-live-requires-clause-short : goal.place_of_live-live-requires-clause-short
place_of_live-live-requires-clause-short g c =
    let size : c.len.result ≡ length (written_frame (frame_with c.args.control.now (change c.args.t c.args.values.now) c.args.before.state c.args.before.sequence c.args.before.live_ms)) = c.len.ensures.value ∙ ap length c.requires.kept in
    short_texts c.args.control.now (change c.args.t c.args.values.now) c.args.before.state c.args.before.live_ms c.args.before.sequence (omega (arith, size, c.len.ensures.fits))

pub length_between-requires : goal.length_between-requires
length_between-requires g c =
    let size : c.len.result ≡ length (written_frame (frame_with c.args.control.now (change c.args.t c.args.values.now) c.args.before.state c.args.before.sequence c.args.before.live_ms)) = c.len.ensures.value ∙ ap length c.requires.kept in
    short_texts c.args.control.now (change c.args.t c.args.values.now) c.args.before.state c.args.before.live_ms c.args.before.sequence (omega (arith, size, c.len.ensures.fits))

pub write_kept-requires : goal.write_kept-requires
write_kept-requires g c =
    let changed = change c.args.t c.args.values.now in
    let size : length c.args.kept.now.items ≡ length (written_frame (frame_with c.args.control.now changed c.args.before.state c.args.before.sequence c.args.before.live_ms)) = ap length c.requires.kept in
    let place = c.place_of_live-live.ensures.place (length (fields c.args.control.now changed c.args.before.state c.args.before.live_ms c.args.before.sequence))
    (frame_length c.args.control.now changed c.args.before.state c.args.before.live_ms c.args.before.sequence ∙ sym size ∙ sym c.len.ensures.value) in
    let all = within c.args.control.now changed c.args.before.state c.args.before.live_ms c.args.before.sequence in
    omega (arith, place, all, size, c.requires.live)

pub write_kept-requires-2 : goal.write_kept-requires-2
write_kept-requires-2 g c =
    let changed = change c.args.t c.args.values.now in
    let size : length c.args.kept.now.items ≡ length (written_frame (frame_with c.args.control.now changed c.args.before.state c.args.before.sequence c.args.before.live_ms)) = ap length c.requires.kept in
    let place = c.place_of_live-live.ensures.place (length (fields c.args.control.now changed c.args.before.state c.args.before.live_ms c.args.before.sequence))
    (frame_length c.args.control.now changed c.args.before.state c.args.before.live_ms c.args.before.sequence ∙ sym size ∙ sym c.len.ensures.value) in
    let all = within c.args.control.now changed c.args.before.state c.args.before.live_ms c.args.before.sequence in
    let room : c.place_of_live-live.result + signed_size c.args.numbers.live_ms ≤ length c.args.kept.now.items = omega (arith, place, all, size, c.requires.live) in
    let same : length c.write_kept.new.kept.items ≡ length c.args.kept.now.items = ap length c.write_kept.ensures ∙ over_size c.args.kept.now.items c.place_of_live-live.result c.args.numbers.live_ms room in
    let between : c.length_between.result ≡ between_size c.args.control.now c.args.before.state = c.length_between.ensures.size ∙ ap (between_size c.args.control.now) (sym c.requires.state) in
    omega (arith, place, all, size, same, between, c.number_length.ensures.size, c.requires.live, c.requires.sequence)

pub returns : goal.returns
returns g c =
    let changed = change c.args.t c.args.values.now in
    let size : length c.args.kept.now.items ≡ length (written_frame (frame_with c.args.control.now changed c.args.before.state c.args.before.sequence c.args.before.live_ms)) = ap length c.requires.kept in
    let place = c.place_of_live-live.ensures.place (length (fields c.args.control.now changed c.args.before.state c.args.before.live_ms c.args.before.sequence))
    (frame_length c.args.control.now changed c.args.before.state c.args.before.live_ms c.args.before.sequence ∙ sym size ∙ sym c.len.ensures.value) in
    let between : c.length_between.result ≡ between_size c.args.control.now c.args.before.state = c.length_between.ensures.size ∙ ap (between_size c.args.control.now) (sym c.requires.state) in
    let place' : c.place_of_live-live.result + c.number_length.result + c.length_between.result ≡ c.place_of_live-live.result + signed_size c.args.numbers.live_ms + between_size c.args.control.now c.args.before.state =
    omega (arith, between, c.number_length.ensures.size) in
    subst (λ (n : ℕ). c.write_kept-2.new.kept.items ≡ written_frame (frame_with c.args.control.now changed n c.args.numbers.sequence c.args.numbers.live_ms)) c.requires.state
    (renewed c.args.control.now changed c.args.before.state c.args.before.live_ms c.args.before.sequence c.args.numbers.live_ms c.args.numbers.sequence
    c.place_of_live-live.result (c.place_of_live-live.result + c.number_length.result + c.length_between.result) c.args.kept.now.items c.write_kept.new.kept.items c.write_kept-2.new.kept.items
    c.requires.live c.requires.sequence c.requires.kept place place' c.write_kept.ensures c.write_kept-2.ensures)

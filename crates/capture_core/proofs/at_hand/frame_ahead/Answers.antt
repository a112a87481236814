use Rattle.std.proofs.Common.{◌≡◌, ◌+◌, ◌-◌, ◌≤◌, false, ◌++◌, ◌∙◌, length, take, drop, ap, sym, arith}
use Rattle.std.proofs.lemmas.List.{length-drop, length-take-le, take-append-drop}
use Rattle.capture_core.specs.Blocks.{is_bad_length, packet_head}
use Rattle.capture_core.specs.computed.Sections.{settled}
use Rattle.capture_core.specs.declared.packet_block.PacketBlock.TheVariants.{Enhanced}
use Rattle.capture_core.proofs.BlocksRead.{at_least}
use Rattle.capture_core.proofs.FramesAtHand.{frame_block}
use Rattle.capture_core.proofs.at_hand.frame_ahead.Goals as goal

pub returns-in-Ok : goal.returns-in-Ok
returns-in-Ok c =
    let s = settled c.args.section in
    let total = c.long_at-total.result in
    let head = c.in-Some.head.now in
    let behind = c.in-Some.behind.now in
    let rest = c.in-Some-get.rest.now in
    let body = c.split_at.result.0.now in
    let end = c.split_at.result.1.now in
    let found = c.in-Ok.found in
    let first = c.in-Some.ensures.cases in
    let got = c.in-Some-get.ensures.lookup.0 in
    let fits = c.in-Ok.ensures.fits in
    let eight : length head ≡ 8 = ap length first.0 ∙ length-take-le 8 c.args.ahead.now (omega (arith, first.2)) in
    let none : total - 8 - 0 ≡ total - 8 = omega arith in
    let is_rest : rest ≡ take (total - 8) behind = rw none at got.2 in
    let text : c.args.ahead.now ≡ head ++ (rest ++ drop (total - 8) behind) =
    sym (ap (λ l. head ++ (l ++ drop (total - 8) behind)) is_rest ∙ ap (λ l. head ++ l) (take-append-drop (total - 8) behind) ∙ ap (λ l. l ++ behind) first.0 ∙ ap (λ l. take 8 c.args.ahead.now ++ l) first.1 ∙ take-append-drop 8 c.args.ahead.now) in
    let good : is_bad_length 32 total ≡ false = sym c.is_bad_length.ensures ∙ c.if-is_bad_length.false in
    let parts : rest ≡ body ++ end = sym (ap (λ l. l ++ end) c.split_at.ensures.front ∙ ap (λ l. take (total - 12) rest ++ l) c.split_at.ensures.back ∙ take-append-drop (total - 12) rest) in
    let all : length rest ≡ total - 8 = ap length is_rest ∙ length-take-le (total - 8) behind got.1 in
    let room = at_least 32 total good in
    let size : length body + 12 ≡ total = omega (arith, c.split_at.ensures.front_len, room) in
    let four : length end ≡ 4 = omega (arith, c.split_at.ensures.back_len, all, room) in
    let judged = c.in-Ok.ensures.value ∙ ap (λ l. packet_head Enhanced s l (length body)) c.split_at-2.ensures.front in
    let within : found.size ≤ length (drop 20 body) = simp length-drop (omega (arith, fits.1)) in
    let block = frame_block s head body end total found eight (sym c.long_at.ensures ∙ c.if-long_at-ne-ENHANCED.false) (sym c.long_at-total.ensures) good size four
    (sym c.long_at-then-found-gt0.ensures ∙ c.if-long_at-total.true) judged c.if-found-eq-ETHERNET.true (omega (arith, size, room)) within in
    let some : length (take found.size (drop 20 body)) ≡ found.size = length-take-le found.size (drop 20 body) within in (
      head,
      rest,
      drop (total - 8) behind,
      text,
      omega (arith, eight, all, room),
      rw c.split_at-2.ensures.back (omega (arith, some, c.if-found-gt0.true)),
      rw (parts, c.split_at-2.ensures.back) block,
    )

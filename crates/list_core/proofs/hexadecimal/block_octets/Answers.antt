use Rattle.std.proofs.Common.{arith, rules, length, ◌+◌, ◌*◌, ◌%◌, ◌∙◌, ◌≡◌, ap, get_or, sym}
use Rattle.std.specs.List.{list_all}
use Rattle.std.proofs.lemmas.List.{take_all}
use Rattle.hex.proofs.HexLemmas.{decode_of-even}
use Rattle.hex.specs.Hex.{is_hex_digit}
use Rattle.list_core.proofs.Pairs.{pairs_step, pairs_done}
use Rattle.list_core.proofs.hexadecimal.block_octets.Goals as goal

pub loop-at-2-preserved : goal.loop-at-2-preserved
loop-at-2-preserved c =
    let at = c.loop-at-2.at in
    let size = c.fits-block in
    let all = c.if-not-all.false in
    let read = c.loop-at.invariant.read all in
    record {
      sized = search rules;
      within = search rules;
      so_far = pairs_step c.args.block.now c.loop-at-2.octets at (get_or c.loop-at.values (2 * at) 0) (get_or c.loop-at.values (2 * at + 1) 0)
          (omega arith) (omega (arith, c.loop-at-2.invariant.sized)) (read (2 * at) (omega arith)) (read (2 * at + 1) (omega arith)) c.loop-at-2.invariant.so_far;
    }

pub returns : goal.returns
returns c =
    let size = c.fits-block in
    let all = c.if-not-all.false in
    let digits = c.args.block.now in
    let even : length digits % 2 ≡ 0 = omega arith in (
      ap (list_all is_hex_digit) (sym (take_all c.loop-at.at digits (omega arith))) ∙ sym c.loop-at.invariant.all ∙ all,
      decode_of-even digits even
          ∙ pairs_done digits c.loop-at-2.octets c.loop-at-2.at (omega (arith, c.loop-at-2.invariant.sized)) (omega (arith, c.loop-at-2.invariant.sized)) c.loop-at-2.invariant.so_far,
    )

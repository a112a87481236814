use Rattle.std.proofs.Common.{arith, Ok, ◌≡◌, ◌≤◌, ◌*◌, ◌∙◌, ◌+◌, ◌-◌, ◌++◌, ap, drop, length, subst, sym, take, List, ℕ}
use Rattle.std.specs.List.{list_all}
use Rattle.std.proofs.lemmas.Bool.Decides.{nat_tests}
use Rattle.std.proofs.lemmas.List.{length-take-le, take-take, take_all}
use Rattle.hex.specs.Hex.{decode_of, is_hex_digit}
use borrow.Rule.Slice.PartMut.{put_mid}
use Rattle.list_core.proofs.Pairs.{ReadTo, all_read, back_bad, back_good, back_read, end_put, front_put, piece_bad, read_more}
use Rattle.list_core.proofs.hexadecimal.read_digits.Goals as goal

pub returns-in_default-block_octets-clause-all : goal.returns-in_default-block_octets-clause-all
returns-in_default-block_octets-clause-all c =
    piece_bad 64 (take c.blocks-2.at c.blocks-2.octets) c.blocks-2.others.now c.args.digits.now c.in-Some.block.now c.in-Some.rest.now c.blocks-2.invariant.read c.in-Some.ensures.cases c.in_default-block_octets.ensures

pub blocks-2-preserved : goal.blocks-2-preserved
blocks-2-preserved c =
    let at = c.blocks-2.at in
    let xs = c.blocks-2.octets in
    let ys = c.copy_from_slice.new.self in
    let cut = c.in-Some.ensures.cases in
    let read = c.in-Some-block_octets.ensures in
    let size : length ys ≡ 32 = omega (arith, c.copy_from_slice.ensures.len) in
    let within : at ≤ length xs = omega (arith, c.blocks-2.invariant.room, c.requires, c.blocks-2.auto.octets) in
    let written : take (at + 32) (put_mid at (at + 32 - at) xs ys) ≡ take at xs ++ c.in-Some-block_octets.read =
    ap (λ (n : ℕ). take (at + n) (put_mid at (at + 32 - at) xs ys)) (sym size) ∙ front_put xs ys at (at + 32 - at) within ∙ ap (λ (l : List ℕ). take at xs ++ l) c.copy_from_slice.ensures.after in
    record {
      room = omega (arith, cut.2, c.blocks-2.invariant.room);
      read = subst (λ l. ReadTo l c.in-Some.rest.now c.args.digits.now) (sym written)
          (read_more 64 (take at xs) c.blocks-2.others.now c.args.digits.now c.in-Some.block.now c.in-Some.rest.now c.in-Some-block_octets.read c.blocks-2.invariant.read cut (omega arith) read.0 read.1);
    }

pub returns-then-is_empty-clause-read : goal.returns-then-is_empty-clause-read
returns-then-is_empty-clause-read c =
    let at = c.blocks-2.at in
    let xs = c.blocks-2.octets in
    let digits = c.args.digits.now in
    let none : length c.blocks-2.others.now ≡ 0 = grind (arith, nat_tests) in
    λ _.
    all_read (take at xs) c.blocks-2.others.now digits c.blocks-2.invariant.read none (omega (arith, c.requires))
    ∙ ap (λ (l : List ℕ). Ok l) (take_all at xs (omega (arith, c.blocks-2.invariant.room, c.requires, c.blocks-2.auto.octets, none)))

pub returns-in_default-block_octets-2-clause-all : goal.returns-in_default-block_octets-2-clause-all
returns-in_default-block_octets-2-clause-all c =
    let digits = c.args.digits.now in
    back_bad digits (length digits - 64) (ap (list_all is_hex_digit) (sym c.in-Some-last_chunk.ensures.cases.1.same) ∙ c.in_default-block_octets-2.ensures)

pub returns-clause-all : goal.returns-clause-all
returns-clause-all c =
    let at = c.blocks-2.at in
    let xs = c.blocks-2.octets in
    let digits = c.args.digits.now in
    let r = c.blocks-2.invariant.read in
    let chunk = c.in-Some-last_chunk.ensures.cases in
    let size : length (take at xs) ≡ at = length-take-le at xs (omega (arith, c.blocks-2.invariant.room, c.requires, c.blocks-2.auto.octets)) in
    let low : length digits - 64 ≤ 2 * length (take at xs) = omega (arith, size, chunk.0, c.blocks-2.invariant.room, c.in_default.ensures.cases) in
    sym (back_good (take at xs) c.blocks-2.others.now digits (length digits - 64) r low (ap (list_all is_hex_digit) (sym chunk.1.same) ∙ c.in-Some-block_octets-2.ensures.0))
    ∙ r.good

pub returns-clause-read : goal.returns-clause-read
returns-clause-read c =
    let at = c.blocks-2.at in
    let xs = c.blocks-2.octets in
    let digits = c.args.digits.now in
    let k = length xs - 32 in
    let read = c.in-Some-block_octets-2.read in
    let chunk = c.in-Some-last_chunk.ensures.cases in
    let total : length digits ≡ 2 * length xs = omega (arith, c.requires, c.blocks-2.auto.octets) in
    let start : length digits - 64 ≡ 2 * k = omega (arith, total, chunk.0) in
    let size : length (take at xs) ≡ at = length-take-le at xs (omega (arith, c.blocks-2.invariant.room, total)) in
    let back : c.in-Some-last_chunk.block.now ≡ drop (2 * k) digits = chunk.1.same ∙ ap (λ (n : ℕ). drop n digits) start in
    let low : k ≤ at = omega (arith, total, c.blocks-2.invariant.room, c.in_default.ensures.cases) in
    λ _.
    back_read (take at xs) c.blocks-2.others.now digits read k c.blocks-2.invariant.read (omega (arith, total)) (omega (arith, total)) (omega (arith, size, low))
    (ap (list_all is_hex_digit) (sym back) ∙ c.in-Some-block_octets-2.ensures.0) (ap decode_of (sym back) ∙ c.in-Some-block_octets-2.ensures.1)
    ∙ ap (λ (l : List ℕ). Ok (l ++ read)) (take-take k at xs low)
    ∙ ap (λ (l : List ℕ). Ok l) (sym (end_put xs c.copy_from_slice-2.new.self k (omega arith) ∙ ap (λ (l : List ℕ). take k xs ++ l) c.copy_from_slice-2.ensures.after))

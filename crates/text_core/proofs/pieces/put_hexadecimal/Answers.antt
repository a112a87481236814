use Rattle.std.proofs.Common.{arith, length, ◌≡◌, ◌∙◌}
use Rattle.std.proofs.lemmas.Bool.Decides.{nat_tests}
use Rattle.text_core.proofs.Fronts.{front_twice, rest_appended}
use Rattle.text_core.proofs.HexPieces.{all_written}
use Rattle.text_core.proofs.pieces.put_hexadecimal.Goals as goal

pub returns-then-is_empty : goal.returns-then-is_empty
returns-then-is_empty g c =
    let none : length c.in_ok-others-2.others.now ≡ 0 = grind (arith, nat_tests) in
    all_written c.put_blocks-2.new.out.items _ c.in_ok-others-2.others.now none (c.in_ok-others-2.ensures.so_far ∙ c.in_ok-others.ensures.so_far)

pub returns : goal.returns
returns g c =
    let start = c.args.out.now.items in
    let mid = c.put_blocks.new.out.items in
    let items = c.put_blocks-2.new.out.items in
    rest_appended c.put_short_hexadecimal-2.result start items c.put_short_hexadecimal-2.new.out.items _ _ (front_twice start mid items c.in_ok-others.ensures.kept c.in_ok-others-2.ensures.kept) c.put_short_hexadecimal-2.ensures
    (c.in_ok-others-2.ensures.so_far ∙ c.in_ok-others.ensures.so_far)

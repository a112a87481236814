use Rattle.std.proofs.Common.{◌≡◌, ◌+◌, ◌++◌, [], length, pos, ap, arith, ◌∙◌}
use Rattle.std.proofs.lemmas.List.{length-append}
use Rattle.ber_core.specs.Written.{short_integer, written_element}
use Rattle.mms_data.specs.Meaning.{left}
use Rattle.mms_data.specs.Written.{written_all}
use Rattle.mms_data.proofs.Sizes.{element_size}
use Rattle.pdu_core.proofs.view_writing.put_entries.Goals as goal

pub returns-clause-enough : goal.returns-clause-enough
returns-clause-enough g c = λ few room.
    let all = written_all (left c.args.view.now.members) in
    let count = written_element 138 (short_integer (pos (length (left c.args.view.now.members)))) in
    let entries = written_element 171 all in
    let number = written_element 138 (short_integer (pos c.args.view.now.entries)) in
    let put : length c.put_number.new.out.items ≡ length c.args.out.now.items + length number = ap length c.in_ok-put_number.ensures.written ∙ length-append c.args.out.now.items number in
    let same : length number ≡ length count = ap (λ n. length (written_element 138 (short_integer (pos n)))) c.args.view.now.counted in
    let whole = length-append count (entries ++ []) in
    let behind = length-append entries [] in
    c.put_members.ensures.fits.1 (omega (arith, few, whole, behind, element_size 171 all), omega (arith, room, put, same, whole, behind))

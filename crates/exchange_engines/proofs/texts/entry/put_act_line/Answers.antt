use Rattle.std.proofs.Common.{◌++◌, append_assoc, refl, sym}
use Rattle.std.specs.Prelude.{codes}
use Rattle.std.specs.Fmt.{decimal}
use Rattle.text_core.specs.ValueText.{members_text, time_text}
use Rattle.text_core.proofs.Fronts.{appended, then_appended}
use Rattle.text_core.proofs.PieceLemmas.{then_text}
use Rattle.exchange_engines.specs.EntryText.{entry_head, pair_text}
use Rattle.exchange_engines.proofs.texts.entry.put_act_line.Goals as goal

pub returns : goal.returns
returns g c =
    let a = c.args in
    let o = a.out.now.items in
    let head = entry_head a.number (codes " act ") a.block in
    let pair = pair_text a.state a.sequence in
    let time = codes " t=" ++ time_text a.t in
    let members = codes " " ++ members_text a.members.now in
    let numbers = then_text c.put_entry_head.new.out.items (codes " st=" ++ decimal a.state) (codes " sq=" ++ decimal a.sequence) pair c.put_number.new.out.items c.put_number-2.new.out.items c.in_ok-put_number.ensures c.in_ok-put_number-2.ensures
    (sym (append_assoc (codes " st=" ++ decimal a.state) (codes " sq=") (decimal a.sequence))) in
    let begun = then_text o head pair (head ++ pair) c.put_entry_head.new.out.items c.put_number-2.new.out.items c.in_ok-put_entry_head.ensures numbers refl in
    let timed = then_text o (head ++ pair) time (head ++ pair ++ time) c.put_number-2.new.out.items c.put_time.new.out.items begun c.in_ok-put_time.ensures refl in
    let last = then_text c.put_time.new.out.items (codes " ") (members_text a.members.now) members c.push.new.self.items c.put_values_text.new.out.items c.in_ok-push.ensures.items c.in_ok-put_values_text.ensures refl in
    let all = then_text o (head ++ pair ++ time) members (head ++ pair ++ time ++ members) c.put_time.new.out.items c.put_values_text.new.out.items timed last refl in
    then_appended c.extend_from_slice.result o c.put_values_text.new.out.items c.extend_from_slice.new.self.items (head ++ pair ++ time ++ members) (codes "\n") _ all (appended _ _ _ (codes "\n") (codes "\n") c.extend_from_slice.ensures.items refl) refl

use Rattle.std.proofs.Common.{◌++◌, append_assoc, refl}
use Rattle.std.specs.Prelude.{codes}
use Rattle.mms_data.specs.Meaning.{left}
use Rattle.text_core.specs.ValueText.{members_text, time_text}
use Rattle.text_core.proofs.Fronts.{appended, then_appended}
use Rattle.text_core.proofs.PieceLemmas.{then_text}
use Rattle.exchange_engines.specs.EntryText.{entry_head, pair_text}
use Rattle.exchange_engines.proofs.texts.entry_lines.put_act_of.Goals as goal

pub returns : goal.returns
returns g c =
    let a = c.args in
    let goose = a.goose.now in
    let front = entry_head a.number (codes " act ") a.block ++ pair_text goose.st_num goose.sq_num ++ (codes " t=" ++ time_text goose.t) in
    let members = members_text (left goose.members) in
    let all = then_text a.out.now.items (front ++ codes " ") members (front ++ (codes " " ++ members)) c.put_act_front.new.out.items c.put_members_text.new.out.items c.in_ok-put_act_front.ensures c.in_ok-put_members_text.ensures (append_assoc front (codes " ") members) in
    then_appended c.extend_from_slice.result a.out.now.items c.put_members_text.new.out.items c.extend_from_slice.new.self.items (front ++ (codes " " ++ members)) (codes "\n") _ all (appended _ _ _ (codes "\n") (codes "\n") c.extend_from_slice.ensures.items refl) refl

use Rattle.std.proofs.Common.{◌≡◌, ℕ, List, true, ◌++◌, sym, ap, ◌∙◌, append_assoc}
use Rattle.mms_data.specs.Meaning.{left}
use Rattle.frame_engines.specs.computed.KeptLine.{object_end}
use Rattle.frame_engines.specs.computed.SettledMembers.{are_settled, settled_array}
use Rattle.frame_engines.proofs.SettledTexts.{settled_only}
use Rattle.frame_engines.proofs.texts.kept.put_object_tail.Goals as goal

pub returns-clause-text : goal.returns-clause-text
returns-clause-text g c =
    let members = left c.args.goose.now.members in
    let old = c.args.out.now.items in
    let end = object_end c.args.frame.now.trailer.now in
    let put = c.in_ok-put_members_object.ensures in
    let settled : are_settled members ≡ true = sym c.are_members_settled.ensures ∙ c.if-not-are_members_settled.false in
    let array : put.0 ≡ settled_array members = settled_only members put.0 settled put.2 in
    c.in_ok-put_frame_object_end.ensures
    ∙ ap (λ (l : List ℕ). l ++ end) (put.1 ∙ ap (λ (l : List ℕ). old ++ l) array)
    ∙ append_assoc old (settled_array members) end

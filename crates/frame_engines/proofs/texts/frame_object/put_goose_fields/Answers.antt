use Rattle.std.proofs.Common.{[], ◌∷◌, ◌++◌, refl}
use Rattle.pdu_core.specs.Views.{pdu_of}
use Rattle.text_core.proofs.PieceLemmas.{done, more, row, several}
use Rattle.object_core.specs.MemberObject.{AreMembers}
use Rattle.object_core.proofs.Appending.{then_some}
use Rattle.frame_engines.specs.computed.ObjectFields.{AreGooseTexts}
use Rattle.frame_engines.proofs.GooseFields.{front_pieces, name_pieces, state_pieces, time_pieces}
use Rattle.frame_engines.proofs.ObjectTexts.{last_piece}
use Rattle.frame_engines.proofs.texts.frame_object.put_goose_fields.Goals as goal

pub returns : goal.returns
returns g c =
    let p = pdu_of {A = Unit {0}} c.args.goose.now in
    then_some c.put_members_object.result c.args.out.now.items c.put_goose_state_fields.new.out.items c.put_members_object.new.out.items _ (AreMembers p.members) (AreGooseTexts p)
    (row c.args.out.now.items c.put_goose_state_fields.new.out.items (front_pieces p ++ (name_pieces ∷ [])) (
    more c.in_ok-put_text.ensures (
    more c.in_ok-put_number.ensures (
    more c.in_ok-put_text-2.ensures (
    more c.in_ok-put_text_or.ensures (
    several (time_pieces p.t) c.in_ok-put_time_fields.ensures (
    several (state_pieces p) c.in_ok-put_goose_state_fields.ensures (
    done refl)))))))) c.put_members_object.ensures (λ members are. (members, are, last_piece (front_pieces p) name_pieces members))

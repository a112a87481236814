use Rattle.std.proofs.Common.{ℕ, List, [], ◌∷◌, refl, subst, sym}
use Rattle.std.proofs.lemmas.List.{append-nil}
use Rattle.pdu_core.specs.Views.{pdu_of}
use Rattle.text_core.specs.Pieces.{AppendsText}
use Rattle.text_core.specs.ValueText.{members_text}
use Rattle.text_core.proofs.Fronts.{row_then}
use Rattle.text_core.proofs.PieceLemmas.{more, several, done}
use Rattle.frame_engines.proofs.GooseParts.{front_parts, state_parts}
use Rattle.frame_engines.proofs.texts.frame.put_goose_text.Goals as goal

pub returns : goal.returns
returns g c =
    let p = pdu_of {A = Unit {0}} c.args.goose.now in
    row_then c.put_members_text.result _ _ _ (front_parts p) (members_text p.members ∷ []) (
    more c.in_ok-put_text.ensures (
    more c.in_ok-put_number.ensures (
    more c.in_ok-put_text-2.ensures (
    more c.in_ok-put_text_or.ensures (
    several (state_parts p) c.in_ok-put_goose_state_text.ensures (
    done refl))))))
    (subst (λ (text : List ℕ). AppendsText c.put_members_text.result c.put_goose_state_text.new.out.items c.put_members_text.new.out.items text) (sym (append-nil (members_text p.members))) c.put_members_text.ensures)

use Rattle.std.proofs.Common.{◌∙◌, ◌+◌, ap, refl, rules, sym, subst}
use Rattle.std.specs.Prelude.{slice_range}
use Rattle.pdu_core.specs.Goose.{SpellsGoose}
use Rattle.pdu_core.specs.Views.{pdu_of}
use Rattle.pdu_core.specs.declared.goose.GoosePdu.{GoosePdu}
use Rattle.frame_core.specs.Envelope.{word_at}
use Rattle.frame_core.specs.declared.frame.Apdu.TheVariants.{Goose}
use Rattle.frame_core.proofs.Seen.{seen_found}
use Rattle.repeat_core.proofs.showing.noted_frame.Goals as goal

pub returns-clause-found : goal.returns-clause-found
returns-clause-found c =
    let o = c.args.octets.now in
    let n = c.args.notes.now in
    let e = c.requires.envelope in
    let goose = c.noted_goose.result in
    let spelled = subst (λ (p : GoosePdu (Unit {0})). SpellsGoose p (slice_range o (n.ether_type + 10) n.end)) (sym c.noted_goose.ensures.value) c.requires.spelled in
    seen_found o n.ether_type n.end 0x88b8 e.place_is e.end_is (sym e.announced ∙ ap (word_at o) (sym e.place_is)) (Goose (pdu_of goose)) e.judged refl spelled
    _ c.address_at.ensures _ c.address_at-2.ensures _ c.tag.ensures _ c.word.ensures _ c.word-2.ensures _ c.word-3.ensures _ (search rules)

use Rattle.std.proofs.Common.{◌≡◌, ◌+◌, ℕ, List, ◌∙◌, Ok, Some, ap, sym, arith}
use Rattle.std.specs.Prelude.{slice_range}
use Rattle.std.specs.Borrow.{Bor}
use Rattle.ber_core.specs.Written.{written_element}
use Rattle.ber_core.specs.computed.ContentsReading.{all_visible_at}
use Rattle.pdu_core.specs.Contents.{a_text}
use Rattle.pdu_core.specs.computed.SampledReading.{behind_first}
use Rattle.pdu_core.proofs.Standing.{join}
use Rattle.pdu_core.proofs.UsualFields.{asdu_read, text_read}
use Rattle.pdu_core.proofs.sampled.usual.usual_asdu.Goals as goal

pub returns-in-Ok-clause-exact : goal.returns-in-Ok-clause-exact
returns-in-Ok-clause-exact c =
    let o = c.args.octets.now in
    let from = c.args.at + 2 in
    let to = c.in_ok-to.to in
    let place = c.in_ok-sv_id.place in
    let named = sym c.in_ok-sv_id.ensures.contents in
    let visible : all_visible_at (from + 2) (slice_range o (from + 2) place) ≡ Ok tt = ap (all_visible_at (from + 2)) named ∙ sym c.in-Ok.ensures.exact in
    asdu_read o c.args.at c.args.end place _ _ _ c.in_ok-to.ensures.exact (text_read o from to _ c.in_ok-sv_id.ensures.exact visible)
    (ap (λ (l : List ℕ). behind_first (Some (a_text l)) o place to) named ∙ c.in_ok-view.ensures.exact)

pub returns-in-Ok-clause-written : goal.returns-in-Ok-clause-written
returns-in-Ok-clause-written c =
    let o = c.args.octets.now in
    let place = c.in_ok-sv_id.ensures in
    let named = sym place.contents ∙ sym (ap (λ (b : Bor (List ℕ)). b.now) c.in_ok-view.ensures.named) in
    c.in_ok-to.ensures.written
    ∙ ap (written_element 0x30) (join o (c.args.at + 2) c.in_ok-sv_id.place c.in_ok-to.to (omega (arith, place.next)) (omega (arith, place.next)) (place.written ∙ ap (written_element 0x80) named) c.in_ok-view.ensures.written)

use Rattle.ber_core.specs.Element.{contents_of}
use Rattle.ber_core.specs.Contents.{SpellsVisible, VisibleFault}
use Rattle.ber_core.specs.computed.ContentsReading.{visible_at}
use Rattle.ber_core.proofs.Exact.{answer_found, answer_ok, answer_fault, answer_fault_only}
use Rattle.ber_core.proofs.ContentsLaws.{visible_found, visible_again, visible_wrong, visible_wrong_again}
use Rattle.ber_core.proofs.contents.visible.Goals as goal

pub returns-clause-found : goal.returns-clause-found
returns-clause-found c =
    let h = c.args.header.now in
    let o = contents_of c.args.octets.now h in
    answer_found (λ text. text.now) (visible_at h.contents_from o) (λ text. SpellsVisible text o) (visible_found h.contents_from o) c.visible_behind.result c.visible_behind.ensures.exact

pub returns-clause-only : goal.returns-clause-only
returns-clause-only c =
    let h = c.args.header.now in
    let o = contents_of c.args.octets.now h in
    λ text s. answer_ok (λ t. t.now) (visible_at h.contents_from o) text (visible_again h.contents_from o text s) c.visible_behind.result c.visible_behind.ensures.exact

pub returns-clause-fault : goal.returns-clause-fault
returns-clause-fault c =
    let h = c.args.header.now in
    let o = contents_of c.args.octets.now h in
    answer_fault (λ text. text.now) (visible_at h.contents_from o) (λ f. VisibleFault f h.contents_from o) (λ f. visible_wrong f h.contents_from o) c.visible_behind.result c.visible_behind.ensures.exact

pub returns-clause-fault_only : goal.returns-clause-fault_only
returns-clause-fault_only c =
    let h = c.args.header.now in
    let o = contents_of c.args.octets.now h in
    λ f wrong. answer_fault_only (λ text. text.now) (visible_at h.contents_from o) f (visible_wrong_again f h.contents_from o wrong) c.visible_behind.result c.visible_behind.ensures.exact

use Rattle.ber_core.specs.Element.{contents_of}
use Rattle.ber_core.specs.Contents.{SpellsCounted, CountedFault}
use Rattle.ber_core.specs.computed.ContentsReading.{counted_at}
use Rattle.ber_core.proofs.Exact.{answer_found, answer_ok, answer_fault, answer_fault_only}
use Rattle.ber_core.proofs.ContentsLaws.{counted_found, counted_again, counted_wrong, counted_wrong_again}
use Rattle.ber_core.proofs.contents.counted.Goals as goal

pub returns-clause-found : goal.returns-clause-found
returns-clause-found c =
    let h = c.args.header.now in
    let o = contents_of c.args.octets.now h in
    answer_found (λ s. s.now) (counted_at c.args.count h.at o) (λ s. SpellsCounted c.args.count s o) (counted_found c.args.count h.at o) c.counted_behind.result c.counted_behind.ensures.exact

pub returns-clause-only : goal.returns-clause-only
returns-clause-only c =
    let h = c.args.header.now in
    let o = contents_of c.args.octets.now h in
    λ octets s. answer_ok (λ t. t.now) (counted_at c.args.count h.at o) octets (counted_again c.args.count h.at o octets s) c.counted_behind.result c.counted_behind.ensures.exact

pub returns-clause-fault : goal.returns-clause-fault
returns-clause-fault c =
    let h = c.args.header.now in
    let o = contents_of c.args.octets.now h in
    answer_fault (λ s. s.now) (counted_at c.args.count h.at o) (λ f. CountedFault f c.args.count h.at o) (counted_wrong c.args.count h.at o) c.counted_behind.result c.counted_behind.ensures.exact

pub returns-clause-fault_only : goal.returns-clause-fault_only
returns-clause-fault_only c =
    let h = c.args.header.now in
    let o = contents_of c.args.octets.now h in
    λ f wrong. answer_fault_only (λ s. s.now) (counted_at c.args.count h.at o) f (counted_wrong_again c.args.count h.at o f wrong) c.counted_behind.result c.counted_behind.ensures.exact

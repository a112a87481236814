use Rattle.std.proofs.Common.{◌≡◌, rules, ◌∙◌}
use Rattle.ber_core.specs.Contents.{CountedFault}
use Rattle.ber_core.specs.Element.{contents_of}
use Rattle.ber_core.proofs.Exact.{gives_same, answer_found, answer_fault}
use Rattle.mms_data.specs.Utc.{SpellsUtc}
use Rattle.mms_data.specs.computed.UtcReading.{utc_at}
use Rattle.mms_data.proofs.UtcLaws.{utc_found, utc_again, utc_wrong, utc_wrong_again}
use Rattle.mms_data.proofs.utc.utc_time.Goals as goal

pub returns-clause-found : goal.returns-clause-found
returns-clause-found c =
    let h = c.args.header.now in
    let o = contents_of c.args.octets.now h in
    let is : c.eight_octets.result ≡ utc_at h.at o = search rules in
    answer_found (λ t. t) (utc_at h.at o) (λ t. SpellsUtc t o) (utc_found h.at o) c.eight_octets.result (gives_same (utc_at h.at o) c.eight_octets.result is)

pub returns-clause-only : goal.returns-clause-only
returns-clause-only c =
    let h = c.args.header.now in
    let o = contents_of c.args.octets.now h in
    let is : c.eight_octets.result ≡ utc_at h.at o = search rules in
    λ t s. is ∙ utc_again h.at o t s

pub returns-clause-fault : goal.returns-clause-fault
returns-clause-fault c =
    let h = c.args.header.now in
    let o = contents_of c.args.octets.now h in
    let is : c.eight_octets.result ≡ utc_at h.at o = search rules in
    answer_fault (λ t. t) (utc_at h.at o) (λ f. CountedFault f 8 h.at o) (utc_wrong h.at o) c.eight_octets.result (gives_same (utc_at h.at o) c.eight_octets.result is)

pub returns-clause-fault_only : goal.returns-clause-fault_only
returns-clause-fault_only c =
    let h = c.args.header.now in
    let o = contents_of c.args.octets.now h in
    let is : c.eight_octets.result ≡ utc_at h.at o = search rules in
    λ f wrong. is ∙ utc_wrong_again h.at o f wrong

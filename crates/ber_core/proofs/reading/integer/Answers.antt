use Rattle.std.proofs.Common.{◌≡◌, ◌+◌, ◌<◌, length, refl, rules, ◌∙◌}
use Rattle.std.specs.Prelude.{◌⊎◌}
use Rattle.ber_core.specs.Element.{contents_of}
use Rattle.ber_core.specs.Integer.{Int}
use Rattle.ber_core.specs.computed.ContentsReading.{any_integer_at}
use Rattle.ber_core.specs.Faults.{fault_of}
use Rattle.ber_core.specs.declared.fault.Cause.TheVariants as causes
use Rattle.ber_core.proofs.Exact.{gives_same, answer_found, answer_fault}
use Rattle.ber_core.proofs.ContentsLaws.{any_integer_found, any_integer_again, any_integer_wrong, any_integer_wrong_again}
use Rattle.ber_core.proofs.reading.integer.Goals as goal

pub returns-clause-found : goal.returns-clause-found
returns-clause-found c =
    let h = c.args.header.now in
    let o = contents_of c.args.octets.now h in
    let is : c.any_integer.result ≡ any_integer_at h.at o = search rules in
    answer_found (λ n. n) (any_integer_at h.at o) (λ n. Int n o) (any_integer_found h.at o) c.any_integer.result (gives_same (any_integer_at h.at o) c.any_integer.result is)

pub returns-clause-only : goal.returns-clause-only
returns-clause-only c =
    let h = c.args.header.now in
    let o = contents_of c.args.octets.now h in
    let is : c.any_integer.result ≡ any_integer_at h.at o = search rules in
    λ n s. is ∙ any_integer_again h.at o n s

pub returns-clause-fault : goal.returns-clause-fault
returns-clause-fault c =
    let h = c.args.header.now in
    let o = contents_of c.args.octets.now h in
    let is : c.any_integer.result ≡ any_integer_at h.at o = search rules in
    answer_fault (λ n. n) (any_integer_at h.at o) (λ f. (f ≡ fault_of (h.at + 1) causes.IntegerLength) × ((length o ≡ 0) ⊎ (9 < length o))) (any_integer_wrong h.at o) c.any_integer.result (gives_same (any_integer_at h.at o) c.any_integer.result is)

pub returns-clause-fault_only : goal.returns-clause-fault_only
returns-clause-fault_only c =
    let h = c.args.header.now in
    let o = contents_of c.args.octets.now h in
    let is : c.any_integer.result ≡ any_integer_at h.at o = search rules in
    λ size. is ∙ any_integer_wrong_again h.at o (fault_of (h.at + 1) causes.IntegerLength) refl size

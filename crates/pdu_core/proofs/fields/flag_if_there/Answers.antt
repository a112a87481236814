use Rattle.std.proofs.Common.{◌≡◌, ℕ, ◌∷◌, [], true, false, ap, arith}
use Rattle.ber_core.specs.Fields.{default}
use Rattle.pdu_core.specs.Contents.{a_flag}
use Rattle.pdu_core.proofs.ShortFields.{flag_read, flag_stands}
use Rattle.pdu_core.proofs.fields.flag_if_there.Goals as goal

pub returns-in-Some-eq0-clause-exact : goal.returns-in-Some-eq0-clause-exact
returns-in-Some-eq0-clause-exact c =
    let r = c.requires in
    let s = c.in-Some-eq0 in
    let octet : 0 ≡ s.field-0 = omega arith in
    flag_read c.args.octets.now c.args.at c.args.end c.args.identifier s.field-0 r.ordered r.inside r.identifier s.ensures.next s.ensures.there (default (a_flag false)) false (ap (λ (n : ℕ). n ∷ []) octet)

pub returns-in-Some-eq0-clause-stands : goal.returns-in-Some-eq0-clause-stands
returns-in-Some-eq0-clause-stands c = λ told.
    let r = c.requires in
    let s = c.in-Some-eq0 in
    let octet : 0 ≡ s.field-0 = omega arith in
    (told, flag_stands c.args.octets.now c.args.at c.args.end c.args.identifier s.field-0 r.ordered r.inside r.identifier s.ensures.next s.ensures.there false (ap (λ (n : ℕ). n ∷ []) octet))

pub returns-in-Some-eq255-clause-exact : goal.returns-in-Some-eq255-clause-exact
returns-in-Some-eq255-clause-exact c =
    let r = c.requires in
    let s = c.in-Some-eq255 in
    let octet : 255 ≡ s.field-0 = omega arith in
    flag_read c.args.octets.now c.args.at c.args.end c.args.identifier s.field-0 r.ordered r.inside r.identifier s.ensures.next s.ensures.there (default (a_flag false)) true (ap (λ (n : ℕ). n ∷ []) octet)

pub returns-in-Some-eq255-clause-stands : goal.returns-in-Some-eq255-clause-stands
returns-in-Some-eq255-clause-stands c = λ told.
    let r = c.requires in
    let s = c.in-Some-eq255 in
    let octet : 255 ≡ s.field-0 = omega arith in
    (told, flag_stands c.args.octets.now c.args.at c.args.end c.args.identifier s.field-0 r.ordered r.inside r.identifier s.ensures.next s.ensures.there true (ap (λ (n : ℕ). n ∷ []) octet))

use Rattle.std.proofs.Common.{◌<◌, arith}
use Rattle.ber_core.specs.Fields.{always}
use Rattle.pdu_core.proofs.ShortFields.{number_read, number_stands}
use Rattle.pdu_core.proofs.fields.number_field.Goals as goal

pub returns-in-Some-0-to-127-clause-exact : goal.returns-in-Some-0-to-127-clause-exact
returns-in-Some-0-to-127-clause-exact c =
    let s = c.in-Some-0-to-127 in
    let small : s.octet < 128 = omega arith in
    number_read c.args.octets.now c.args.at c.args.end c.args.identifier s.octet c.requires.ordered c.requires.inside c.requires.identifier s.ensures.next s.ensures.there always small

pub returns-in-Some-0-to-127-clause-stands : goal.returns-in-Some-0-to-127-clause-stands
returns-in-Some-0-to-127-clause-stands c = λ told.
    let s = c.in-Some-0-to-127 in
    let small : s.octet < 128 = omega arith in
    (told, number_stands c.args.octets.now c.args.at c.args.end c.args.identifier s.octet c.requires.ordered c.requires.inside c.requires.identifier s.ensures.next s.ensures.there small)

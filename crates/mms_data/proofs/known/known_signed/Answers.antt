use Rattle.std.proofs.Common.{SFits, length, refl, rules, to_z-of_z, w64}
use Rattle.mms_data.proofs.GoodMembers.{signed_is}
use Rattle.mms_data.proofs.known.known_signed.Goals as goal

pub returns-in-1 : goal.returns-in-1
returns-in-1 c =
    let number = c.read_int.result in
    let fits : SFits w64 number = search rules in
    rw (to_z-of_z fits) (signed_is 1 c.args.at c.args.from c.args.contents.now c.requires.good.0 number c.requires.good.1 c.in-1.is c.read_int.ensures)

pub returns-in-2 : goal.returns-in-2
returns-in-2 c =
    let number = c.read_int-in-2.result in
    let fits : SFits w64 number = search rules in
    rw (to_z-of_z fits) (signed_is 2 c.args.at c.args.from c.args.contents.now c.requires.good.0 number c.requires.good.1 c.in-2.is c.read_int-in-2.ensures)

pub returns-in-4 : goal.returns-in-4
returns-in-4 c =
    let number = c.read_int-in-4.result in
    let fits : SFits w64 number = search rules in
    rw (to_z-of_z fits) (signed_is 4 c.args.at c.args.from c.args.contents.now c.requires.good.0 number c.requires.good.1 c.in-4.is c.read_int-in-4.ensures)

pub returns-in-5 : goal.returns-in-5
returns-in-5 c =
    let number = c.read_int-in-5.result in
    let fits : SFits w64 number = search rules in
    rw (to_z-of_z fits) (signed_is 5 c.args.at c.args.from c.args.contents.now c.requires.good.0 number c.requires.good.1 c.in-5.is c.read_int-in-5.ensures)

pub returns-in-3 : goal.returns-in-3
returns-in-3 c =
    let number = c.read_int-in-3.result in
    let fits : SFits w64 number = search rules in
    rw (to_z-of_z fits) (signed_is 3 c.args.at c.args.from c.args.contents.now c.requires.good.0 number c.requires.good.1 c.in-3.is c.read_int-in-3.ensures)

pub returns-in-6-to-8 : goal.returns-in-6-to-8
returns-in-6-to-8 c =
    let number = c.read_int-in-6-to-8.result in
    let fits : SFits w64 number = search rules in
    rw (to_z-of_z fits) (signed_is (length c.args.contents.now) c.args.at c.args.from c.args.contents.now c.requires.good.0 number c.requires.good.1 refl c.read_int-in-6-to-8.ensures)

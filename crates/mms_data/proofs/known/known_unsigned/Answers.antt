use Rattle.std.proofs.Common.{length, refl, rules}
use Rattle.ber_core.specs.Length.{AreOctets}
use Rattle.mms_data.proofs.GoodMembers.{unsigned_is}
use Rattle.mms_data.proofs.known.known_unsigned.Goals as goal

pub returns-in-1 : goal.returns-in-1
returns-in-1 c =
    let small : AreOctets c.args.contents.now = λ i. search rules in
    unsigned_is 1 c.args.at c.args.from c.args.contents.now c.requires.good.0 c.read_uint.result small c.requires.good.1 c.in-1.is c.read_uint.ensures

pub returns-in-2 : goal.returns-in-2
returns-in-2 c =
    let small : AreOctets c.args.contents.now = λ i. search rules in
    unsigned_is 2 c.args.at c.args.from c.args.contents.now c.requires.good.0 c.read_uint-in-2.result small c.requires.good.1 c.in-2.is c.read_uint-in-2.ensures

pub returns-in-4 : goal.returns-in-4
returns-in-4 c =
    let small : AreOctets c.args.contents.now = λ i. search rules in
    unsigned_is 4 c.args.at c.args.from c.args.contents.now c.requires.good.0 c.read_uint-in-4.result small c.requires.good.1 c.in-4.is c.read_uint-in-4.ensures

pub returns-in-5 : goal.returns-in-5
returns-in-5 c =
    let small : AreOctets c.args.contents.now = λ i. search rules in
    unsigned_is 5 c.args.at c.args.from c.args.contents.now c.requires.good.0 c.read_uint-in-5.result small c.requires.good.1 c.in-5.is c.read_uint-in-5.ensures

pub returns-in-3 : goal.returns-in-3
returns-in-3 c =
    let small : AreOctets c.args.contents.now = λ i. search rules in
    unsigned_is 3 c.args.at c.args.from c.args.contents.now c.requires.good.0 c.read_uint-in-3.result small c.requires.good.1 c.in-3.is c.read_uint-in-3.ensures

pub returns-in-6-to-8 : goal.returns-in-6-to-8
returns-in-6-to-8 c =
    let small : AreOctets c.args.contents.now = λ i. search rules in
    unsigned_is (length c.args.contents.now) c.args.at c.args.from c.args.contents.now c.requires.good.0 c.read_uint-in-6-to-8.result small c.requires.good.1 refl c.read_uint-in-6-to-8.ensures

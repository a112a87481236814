use Rattle.std.proofs.Common.{◌≡◌, arith, get_or, length, refl, rules}
use Rattle.std.proofs.lemmas.Bool.{false≢true}
use Rattle.mms_data.proofs.Front.{boolean_first}
use Rattle.mms_data.proofs.view.Members.next_boolean.Goals as goal

pub invariant_of-self : goal.invariant_of-self
invariant_of-self c =
    let m = c.args.self.now in
    let id : get_or m.octets.now 0 0 ≡ 0x83 = search rules in
    let one : get_or m.octets.now 1 0 ≡ 1 = search rules in
    let x = boolean_first m.depth m.octets.now m.bounded m.spelled c.in-131.len_at_least id one in
    record { bounded = m.bounded; spelled = x.0; stands = λ t. absurd (false≢true t) }

pub returns-in-131-clause-found : goal.returns-in-131-clause-found
returns-in-131-clause-found c =
    let m = c.args.self.now in
    let id : get_or m.octets.now 0 0 ≡ 0x83 = search rules in
    let one : get_or m.octets.now 1 0 ≡ 1 = search rules in
    let x = boolean_first m.depth m.octets.now m.bounded m.spelled c.in-131.len_at_least id one in
    (x.1, record { from = 3; to = length m.octets.now; order = c.in-131.len_at_least; within = omega arith; block = refl; place = refl; octets = refl })

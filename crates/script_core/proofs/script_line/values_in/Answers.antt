use Rattle.std.proofs.Common.{refl, ap}
use Rattle.mms_data.specs.Value.{datas}
use Rattle.script_core.specs.computed.CallLine.{change_to}
use Rattle.script_core.proofs.ScriptLemmas.{members_read, members_fault, members_kept}
use Rattle.script_core.proofs.script_line.values_in.Goals as goal

pub returns-in-Ok : goal.returns-in-Ok
returns-in-Ok g c =
    rw (members_read c.args.octets.now (datas c.in-Ok.values.items) c.in-Ok.ensures.found, c.from.ensures) refl

pub returns-in-Err-Fault : goal.returns-in-Err-Fault
returns-in-Err-Fault g c =
    let fault = rw c.in-Err-Fault.field-0-is at c.in-Err-Fault.ensures.fault in
    rw c.in-Err-Fault.field-0-is (ap (change_to {A = g.row.A.Denot} c.args.moment c.args.t) (members_fault c.args.octets.now c.in-Err-Fault.fault fault))

pub returns-in-Err-Memory : goal.returns-in-Err-Memory
returns-in-Err-Memory g c =
    let answer = rw c.in-Err-Memory.field-0-is at c.in-Err-Memory.ensures in
    members_kept c.args.octets.now _ c.in-Err-Memory.error refl answer.fault_only answer.none

use Rattle.std.proofs.Common.{◌≡◌, ◌+◌, ◌≤◌, ap, arith}
use Rattle.mms_data.specs.Value.{data_of, datas}
use Rattle.mms_data.specs.computed.Weight.{weight, weight_of_all}
use Rattle.mms_data.proofs.Weights.{weight_at}
use Rattle.mms_data.proofs.spellable.+testing.Goals as goal

pub test_values-test_value-requires : goal.test_values-test_value-requires
test_values-test_value-requires g t c κs within =
    let vs = c.as_slice-values.result.now in
    let v = c.value-item.result in
    let small : weight (data_of v) + 1 ≤ weight_of_all (datas vs) = rw c.value-item.is (weight_at vs c.loop-value.value-index v c.loop-value-test.true) in
    let same : weight_of_all (datas vs) ≡ weight_of_all c.args.values.now = ap weight_of_all c.as_slice-values.ensures in
    let dec = c.decreases in
    (omega (arith, small, same, dec), (within, c.requires))

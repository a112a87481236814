use Rattle.std.proofs.Common.{refl}
use Rattle.mms_data.proofs.value.ValueListFromVecValue.from.Goals as goal

pub returns : goal.returns
returns g c = refl

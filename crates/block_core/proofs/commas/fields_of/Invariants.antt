use Rattle.std.proofs.Common.{◌≡◌, ◌++◌, map, ◌≤◌}
use Rattle.arrayvec.specs.ArrayVec.{array_vec_len}
use Rattle.block_core.specs.Commas.{comma_fields}
use Rattle.block_core.proofs.commas.fields_of.Given as goal

abbrev pub invariant-loop-field : goal.invariant-loop-field
invariant-loop-field l = record {
  size : array_vec_len l.fields ≡ l._field;
  within : l._field ≤ 13;
  cut : map (λ field. field.now) l.fields.items ++ comma_fields l.rest ≡ comma_fields l.text;
}

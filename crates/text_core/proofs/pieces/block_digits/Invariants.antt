use Rattle.std.proofs.Common.{◌≡◌, ◌*◌, ◌/◌, ◌%◌, ◌<◌, ◌≤◌, ◌++◌, ℕ, get_or, take, drop, length}
use Rattle.std.specs.Prelude.{slice_index}
use Rattle.hex.specs.Hex.{encode_lower, lower_digits}
use Rattle.text_core.proofs.pieces.block_digits.Given as goal

abbrev pub invariant-loop-at : goal.invariant-loop-at
invariant-loop-at g l = record {
  sized : (length l.high ≡ g.row.N) × (length l.low ≡ g.row.N);
  within : l.at ≤ g.row.N;
  high_digits : (k : ℕ) → k < l.at → get_or l.high k 0 ≡ slice_index lower_digits (get_or l.octets k 0 / 16);
  low_digits : (k : ℕ) → k < l.at → get_or l.low k 0 ≡ slice_index lower_digits (get_or l.octets k 0 % 16);
}

abbrev pub invariant-loop-at-2 : goal.invariant-loop-at-2
invariant-loop-at-2 g l = record {
  sized : length l.digits ≡ g.row.M;
  within : l.at ≤ g.row.N;
  written : take (2 * l.at) l.digits ++ encode_lower (drop l.at l.octets) ≡ encode_lower l.octets;
}

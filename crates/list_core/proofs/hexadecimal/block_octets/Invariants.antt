use Rattle.std.proofs.Common.{◌≡◌, ◌*◌, ◌<◌, ◌≤◌, ℕ, get_or, take, drop, length, true, Some}
use Rattle.std.specs.List.{list_all}
use Rattle.hex.specs.Hex.{decode_pairs, hex_digit_value, is_hex_digit}
use Rattle.list_core.proofs.Pairs.{before}
use Rattle.list_core.proofs.hexadecimal.block_octets.Given as goal

abbrev pub invariant-loop-at : goal.invariant-loop-at
invariant-loop-at l = record {
  sized : length l.values ≡ 64;
  within : l.at ≤ 64;
  all : l.all ≡ list_all is_hex_digit (take l.at l.block);
  read : l.all ≡ true → (k : ℕ) → k < l.at → hex_digit_value (get_or l.block k 0) ≡ Some (get_or l.values k 0);
}

abbrev pub invariant-loop-at-2 : goal.invariant-loop-at-2
invariant-loop-at-2 l = record {
  sized : length l.octets ≡ 32;
  within : l.at ≤ 32;
  so_far : before (take l.at l.octets) (decode_pairs (2 * l.at) (drop (2 * l.at) l.block)) ≡ decode_pairs 0 l.block;
}

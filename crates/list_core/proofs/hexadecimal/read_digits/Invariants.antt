use Rattle.std.proofs.Common.{◌≡◌, ◌+◌, ◌*◌, length, take}
use Rattle.list_core.proofs.Pairs.{ReadTo}
use Rattle.list_core.proofs.hexadecimal.read_digits.Given as goal

abbrev pub invariant-blocks-2 : goal.invariant-blocks-2
invariant-blocks-2 l = record {
  room : 2 * l.at + length l.others ≡ length l.digits;
  read : ReadTo (take l.at l.octets) l.others l.digits;
}

abbrev pub decreases-blocks-2 : goal.decreases-blocks-2
decreases-blocks-2 l = length l.others

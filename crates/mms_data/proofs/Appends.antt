-- While parts are appended one after the other: out, which began as old, still takes the next part and the rest.
use Rattle.std.proofs.Common.{◌≡◌, ℕ, ◌+◌, ◌<◌, ◌≤◌, List, ◌++◌, length, ap, ◌∙◌, append_assoc, arith}
use Rattle.std.proofs.lemmas.List.{length-append}

-- the next part appended
pub part_behind : (old out new all part rest : List ℕ) → new ≡ out ++ part → out ++ (part ++ rest) ≡ old ++ all → new ++ rest ≡ old ++ all
part_behind old out new all part rest is so_far = ap (λ (o : List ℕ). o ++ rest) is ∙ append_assoc out part rest ∙ so_far

pub part_grows : (old out new part : List ℕ) → new ≡ out ++ part → length old ≤ length out → length old ≤ length new
part_grows old out new part is grown = omega (arith, ap length is, length-append out part)

all_sizes : (old out all part rest : List ℕ) → out ++ (part ++ rest) ≡ old ++ all → length out + (length part + length rest) ≡ length old + length all
all_sizes old out all part rest so_far = omega (arith, ap length so_far, length-append out (part ++ rest), length-append part rest, length-append old all)

-- the next part fits where all of them do
pub part_fits : (N : ℕ) (old out all part rest : List ℕ) → out ++ (part ++ rest) ≡ old ++ all → length old + length all ≤ N → length out + length part ≤ N
part_fits N old out all part rest so_far room = omega (arith, all_sizes old out all part rest so_far)

-- the next part is no longer than all of them
pub part_within : (n : ℕ) (old out all part rest : List ℕ) → length old ≤ length out → out ++ (part ++ rest) ≡ old ++ all → length all < n → length part < n
part_within n old out all part rest grown so_far small = omega (arith, all_sizes old out all part rest so_far)

use Rattle.std.proofs.Common.{rules, ◌≡◌, ◌+◌, ◌++◌, [], ◌∷◌, take, FitsSigned}
use Rattle.std.proofs.lemmas.List.{append-nil}
use Rattle.std.specs.Int.{w128}
use Rattle.std.proofs.lemmas.Int.{to_z-of_z}
use Rattle.ber_core.specs.Written.{short_integer, written_element}
use Rattle.ber_core.proofs.WrittenLemmas.{take-written_integer}
use Rattle.ber_core.proofs.writing.put_any.Goals as goal

pub returns-clause-written : goal.returns-clause-written
unfolding short_integer
returns-clause-written g c =
    let number = c.args.number in
    let in_range : FitsSigned w128 number = c.ranges.number in
    let count = simp to_z-of_z at c.signed_count-count.ensures.value in
    let wrote = simp to_z-of_z at c.write_int128.ensures in
    let whole : take (2 + c.signed_count-count.result) (c.args.identifier ∷ (c.signed_count-count.result ∷ (c.write_int128.new.buf ++ []))) ≡ written_element c.args.identifier (short_integer number) =
    rw (append-nil, wrote, count) (take-written_integer c.args.identifier number _) in
    let ok = rw whole at c.try_extend_from_slice.ensures.ok in
    search (rules, ok)

pub returns-clause-fits : goal.returns-clause-fits
unfolding short_integer
returns-clause-fits g c =
    let number = c.args.number in
    let in_range : FitsSigned w128 number = c.ranges.number in
    let count = simp to_z-of_z at c.signed_count-count.ensures.value in
    let wrote = simp to_z-of_z at c.write_int128.ensures in
    let whole : take (2 + c.signed_count-count.result) (c.args.identifier ∷ (c.signed_count-count.result ∷ (c.write_int128.new.buf ++ []))) ≡ written_element c.args.identifier (short_integer number) =
    rw (append-nil, wrote, count) (take-written_integer c.args.identifier number _) in
    let variant = rw whole at c.try_extend_from_slice.ensures.variant in
    search (rules, variant)

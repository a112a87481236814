use Rattle.std.proofs.Common.{◌∷◌, ◌∙◌, ap, ◌+◌, take, sym}
use Rattle.std.proofs.lemmas.List.{take_rest}
use Rattle.list_core.specs.Cuts.{cut_at}
use Rattle.list_core.proofs.Cuts.{cut-first, cut-rest}
use Rattle.list_core.proofs.cutting.cut_there.Goals as goal

pub returns-in-Some-clause-parts : goal.returns-in-Some-clause-parts
returns-in-Some-clause-parts c =
    let xs = c.args.octets.now in
    let n = c.in-Some.at in
    cut-first c.args.divider xs n (rw c.in-Some.is at c.requires) ∙ ap (λ rest. take n xs ∷ cut_at c.args.divider rest) (sym (take_rest xs (n + 1)))

pub returns-in-None-clause-parts : goal.returns-in-None-clause-parts
returns-in-None-clause-parts c = cut-rest c.args.divider c.args.octets.now (rw c.in-None.is at c.requires)

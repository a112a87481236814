use Rattle.std.proofs.Common.{ap, ◌++◌, ◌∙◌, List, ℕ, length, drop, replicate}
use Rattle.std.proofs.lemmas.List.{drop-replicate}
use Rattle.list_core.proofs.hexadecimal.filled.Goals as goal

pub returns : goal.returns
returns c =
    let xs = c.args.octets.now in
    ap (λ (l : List ℕ). l ++ drop (length xs) (replicate {A = ℕ} 64 48)) c.copy_from_slice.ensures.after ∙ ap (λ (l : List ℕ). xs ++ l) (drop-replicate (length xs) 64 48)

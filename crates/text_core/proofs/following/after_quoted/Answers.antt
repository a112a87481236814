use Rattle.std.proofs.Common.{[], ◌∷◌, ◌++◌}
use Rattle.std.specs.List.{flat_map}
use Rattle.text_core.specs.Pieces.{escaped}
use Rattle.text_core.proofs.Afters.{after_both}
use Rattle.text_core.proofs.following.after_quoted.Goals as goal

pub returns : goal.returns
returns c =
    let inside = flat_map escaped c.args.octets.now in
    after_both c.args.text.now (34 ∷ []) (inside ++ 34 ∷ []) c.in_ok-opened.opened.now c.after_one-2.result c.in_ok-opened.ensures
    (after_both c.in_ok-opened.opened.now inside (34 ∷ []) c.in_ok-behind.behind.now c.after_one-2.result c.in_ok-behind.ensures c.after_one-2.ensures)

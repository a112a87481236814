use Rattle.std.proofs.Common.{◌≡◌, ◌<◌, get_or, take, length, sym, ap, ◌∙◌}
use Rattle.std.proofs.Math.ListN.{set}
use Rattle.std.proofs.lemmas.List.Folds.{list_any_more}
use Rattle.std.specs.List.{list_any}
use Rattle.tally_core.specs.Tally.{again_of, is_of}
use Rattle.tally_core.specs.declared.kind_tally.KindTotal.{KindTotal}
use Rattle.tally_core.proofs.CountedAgain.{counted, found_before, found_now, left_alone}
use Rattle.tally_core.proofs.Turned.{turned_at, turned_more, turned_same}
use Rattle.tally_core.proofs.kind_tally.count_again.Goals as goal
use Rattle.tally_core.proofs.kind_tally.count_again.Goals.{then-kinds-i, else-kinds-i}

-- what stands where no kind does
abbrev none : KindTotal
none = record { kind = 0; total = record { count = 0; first = 0 } }

pub kinds-preserved : goal.kinds-preserved
kinds-preserved c =
    let t = c.args.kind in
    let xs = c.args.kinds.now in
    let i = c.kinds.i in
    let inside : i < length xs = c.kinds-test.true in
    let here : get_or c.kinds.kinds i none ≡ get_or xs i none = rw c.kinds.invariant.0 (turned_at (again_of t) xs i none) in
    let more = list_any_more (is_of t) xs i none inside in
    elim c.if-kinds-i.branch [
      | then-kinds-i w ↦
          let is : (get_or xs i none).kind ≡ t = rw here at w.if-kinds-i.true in
          let made = counted t (get_or c.kinds.kinds i none) w.again.result w.if-kinds-i.true w.again.ensures in (
            w.kinds-is ∙ (ap (λ k. set c.kinds.kinds i k) (sym made) ∙ rw (here, c.kinds.invariant.0) (turned_more (again_of t) xs i none inside)),
            w.found-is ∙ sym (more ∙ found_now t (get_or xs i none) (list_any (is_of t) (take i xs)) is),
            λ none. absurd (let wrong = sym w.found-is ∙ none in cc),
          )
      | else-kinds-i w ↦
          let other : (get_or xs i none).kind ≡ t → ⊥ = rw here at w.if-kinds-i.false in (
            w.kinds-is ∙ (c.kinds.invariant.0 ∙ turned_same (again_of t) xs i none inside (left_alone t (get_or xs i none) other)),
            w.found-is ∙ (c.kinds.invariant.1 ∙ sym (more ∙ found_before t (get_or xs i none) (list_any (is_of t) (take i xs)) other)),
            λ none. w.kinds-is ∙ c.kinds.invariant.2 (sym w.found-is ∙ none),
          )
    ]

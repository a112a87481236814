use Rattle.std.proofs.Common.{length, arith, refl, sym, ◌∙◌}
use Rattle.std.proofs.lemmas.Bool.{false≢true}
use Rattle.std.proofs.lemmas.Option.{slice_get_read, get_or_from_slice_get}
use Rattle.subscribe_core.proofs.Again.{again_none, again_more, again_all, again_read, again_told}
use Rattle.subscribe_core.proofs.names.least_again.Goals as goal
use Rattle.subscribe_core.proofs.names.least_again.Goals.{then-is_again, else-is_again}

pub loop-k-preserved : goal.loop-k-preserved
loop-k-preserved g c =
    let names = c.args.names.now in
    let first = c.index-names-k.is in
    let last = c.index-names-k-in-loop-k.is in
    let at = slice_get_read names (length names) c.loop-k.k c.index-names-k-in-loop-k.result refl c.loop-k-test.true last in
    elim c.if-is_again.branch [
      | then-is_again w ↦
          let found = c.is_again.ensures.0 w.if-is_again.true in
          let same = get_or_from_slice_get names c.loop-k.k c.index-names-k-in-loop-k.result w.index-names-k-then-is_again.result at in
          rw (w.least-is, w.lesser-least.ensures, same)
          (again_more names c.loop-k.k c.loop-k.least c.index-names-k-in-loop-k.result.position (omega arith) c.loop-k.invariant
          (again_read names c.loop-k.k c.index-names-k.result c.index-names-k-in-loop-k.result (omega arith) c.loop-k-test.true first last found.0 found.1))
      | else-is_again w ↦
          rw w.least-is
          (again_none names c.loop-k.k c.loop-k.least c.loop-k.invariant
          (λ i v. false≢true (sym w.if-is_again.false ∙ c.is_again.ensures.1 (again_told names c.loop-k.k i c.index-names-k.result c.index-names-k-in-loop-k.result (omega arith) c.loop-k-test.true first last v))))
    ]

pub returns : goal.returns
returns g c = again_all c.args.names.now c.loop-k.k c.loop-k.least c.loop-k-test.false c.loop-k.invariant

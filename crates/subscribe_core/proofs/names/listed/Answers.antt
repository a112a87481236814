use Rattle.std.proofs.Common.{ℕ, List, take, sym, ap, ◌∙◌, arith}
use Rattle.std.proofs.lemmas.List.{take_more, length-take-le}
use Rattle.subscribe_core.specs.computed.Names.{block_key}
use Rattle.subscribe_core.proofs.NameLemmas.{names_push}
use Rattle.subscribe_core.proofs.names.listed.Goals as goal

pub loop-position-preserved : goal.loop-position-preserved
loop-position-preserved g c =
    let blocks = c.args.blocks.now in
    let i = c.loop-position.position in
    let more = take_more blocks i c.index-blocks-position.result (omega arith) in
    let size = length-take-le i blocks (omega arith) in
    let key = ap (λ (o : List ℕ). (c.index-blocks-position.result.app_id, o)) (sym c.in_ok-try_copy.ensures.value) in
    rw (c.in_ok-push.ensures.items, more)
    (names_push c.loop-position.names.items _ (take i blocks) _ c.loop-position.invariant (ap block_key (sym c.index-blocks-position.is) ∙ key) (sym size))

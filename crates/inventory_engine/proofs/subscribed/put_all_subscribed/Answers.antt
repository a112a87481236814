use Rattle.std.proofs.Common.{◌≡◌, ◌+◌, ◌∙◌, List, [], ◌∷◌, ◌++◌, take, ap, sym, subst, arith}
use Rattle.std.proofs.lemmas.List.{take_more}
use Rattle.inventory_engine.specs.declared.listed_block.ListedBlock.{ListedBlock}
use Rattle.inventory_engine.proofs.SubscribedLines.{WroteOf, wrote_one, wrote_past}
use Rattle.inventory_engine.proofs.subscribed.put_all_subscribed.Goals as goal
use Rattle.inventory_engine.proofs.subscribed.put_all_subscribed.Goals.{then-block+in_ok-put_subscribed, else-block}

pub loop-block-preserved : goal.loop-block-preserved
loop-block-preserved g c =
    let listed = c.args.listed.now in
    let at = c.loop-block.block-index in
    let block = c.block-item.result in
    let seen = take at listed in
    let old = c.args.out.now.items in
    let held = c.loop-block.invariant in
    let few = held.few in
    let more : take (at + 1) listed ≡ seen ++ block ∷ [] = take_more listed at block c.loop-block-test.true ∙ ap (λ (x : ListedBlock g.row.A.Denot). seen ++ x ∷ []) (sym c.block-item.is) in
    record {
      few = elim c.if-block.branch [
        | then-block+in_ok-put_subscribed w ↦ let is = w.position-is in omega (arith, is, few)
        | else-block w ↦ let is = w.position-is in omega (arith, is, few)
      ];
      so_far = subst (λ (l : List (ListedBlock g.row.A.Denot)). WroteOf c.args.style l c.if-block.position old c.if-block.out.items) (sym more) (elim c.if-block.branch [
        | then-block+in_ok-put_subscribed w ↦ rw (w.position-is, w.out-is) (wrote_one c.args.style seen block c.loop-block.position old c.loop-block.out.items _ w.if-block.true held.so_far w.in_ok-put_subscribed.ensures)
        | else-block w ↦ rw (w.position-is, w.out-is) (wrote_past c.args.style seen block c.loop-block.position old c.loop-block.out.items w.if-block.false held.so_far)
      ]);
    }

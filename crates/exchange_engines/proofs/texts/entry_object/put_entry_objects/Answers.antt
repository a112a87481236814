use Rattle.std.proofs.Common.{◌+◌, List, [], ◌∷◌, ◌++◌, take, ap, append-nil, arith, refl, subst, sym, ◌∙◌, ◌≡◌}
use Rattle.std.proofs.lemmas.List.{take_all, take_more}
use Rattle.std.proofs.lemmas.Result.{err_from_is_err_and}
use Rattle.subscribe_core.specs.declared.entry.Entry.{Entry}
use Rattle.text_core.proofs.Fronts.{grown}
use Rattle.text_core.proofs.PieceLemmas.{then_text}
use Rattle.exchange_engines.specs.EntryObject.{AreEntryObjects}
use Rattle.exchange_engines.proofs.EntryObjects.{objects_push}
use Rattle.exchange_engines.proofs.texts.entry_object.put_entry_objects.Goals as goal

pub loop-entry-init : goal.loop-entry-init
loop-entry-init g c = record { within = omega arith; text = ([], sym (append-nil c.args.out.now.items), refl) }

pub loop-entry-preserved : goal.loop-entry-preserved
loop-entry-preserved g c =
    let h = c.args.heading.now in
    let i = c.loop-entry.invariant.text in
    let w = c.in_ok-put_entry_object.ensures in
    let at = c.loop-entry.entry-index in
    let entry = c.entry-item.result in
    let seen = take at c.args.entries.now in
    let more : take (at + 1) c.args.entries.now ≡ seen ++ entry ∷ [] = take_more c.args.entries.now at entry c.loop-entry-test.true ∙ ap (λ (x : Entry g.row.A.Denot). seen ++ x ∷ []) (sym c.entry-item.is) in
    record {
      within = omega arith;
      text = (
        i.0 ++ w.0,
        then_text _ i.0 w.0 (i.0 ++ w.0) _ _ i.1 w.1 refl,
        subst (λ (es : List (Entry g.row.A.Denot)). AreEntryObjects h.counted h.blocks.now h.number h.moment es (i.0 ++ w.0)) (sym more) (objects_push h.counted h.blocks.now h.number h.moment seen entry i.0 w.0 i.2 w.2),
      );
    }

pub returns-in_err-put_entry_object-clause-text : goal.returns-in_err-put_entry_object-clause-text
returns-in_err-put_entry_object-clause-text g c =
    let p = err_from_is_err_and c.from_residual.result c.from_residual.ensures.1 in
    rw p.1 (grown _ c.loop-entry.out.items _ _ c.loop-entry.invariant.text.1 c.in_err-put_entry_object.ensures)

pub returns-clause-text : goal.returns-clause-text
returns-clause-text g c =
    let h = c.args.heading.now in
    let i = c.loop-entry.invariant.text in
    (i.0, i.1, subst (λ (es : List (Entry g.row.A.Denot)). AreEntryObjects h.counted h.blocks.now h.number h.moment es i.0) (take_all c.loop-entry.entry-index c.args.entries.now (omega arith)) i.2)

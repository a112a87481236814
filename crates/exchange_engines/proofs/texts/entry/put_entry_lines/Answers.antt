use Rattle.std.proofs.Common.{◌≡◌, ◌+◌, [], ◌∷◌, ◌++◌, take, ap, append-nil, arith, refl, sym, ◌∙◌}
use Rattle.std.proofs.lemmas.List.{take_more}
use Rattle.std.proofs.lemmas.List.Concat.{flat_map-append}
use Rattle.subscribe_core.specs.declared.entry.Entry.{Entry}
use Rattle.text_core.proofs.PieceLemmas.{then_text}
use Rattle.exchange_engines.specs.EntryText.{entry_line, entry_lines}
use Rattle.exchange_engines.proofs.texts.entry.put_entry_lines.Goals as goal

pub loop-entry-preserved : goal.loop-entry-preserved
loop-entry-preserved g c =
    let n = c.args.number in
    let i = c.loop-entry.invariant.text in
    let at = c.loop-entry.entry-index in
    let entry = c.entry-item.result in
    let seen = take at c.args.entries.now in
    let more : take (at + 1) c.args.entries.now ≡ seen ++ entry ∷ [] = take_more c.args.entries.now at entry c.loop-entry-test.true ∙ ap (λ (x : Entry g.row.A.Denot). seen ++ x ∷ []) (sym c.entry-item.is) in
    let lines = ap (entry_lines n) more ∙ (flat_map-append (entry_line n) seen (entry ∷ []) ∙ ap (λ l. entry_lines n seen ++ l) (append-nil (entry_line n entry))) in
    record { within = omega arith; text = then_text _ (entry_lines n seen) (entry_line n entry) _ _ _ i c.in_ok-put_entry_line.ensures (sym lines) }

pub returns-clause-quiet : goal.returns-clause-quiet
returns-clause-quiet g c = λ empty. refl

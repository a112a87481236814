use Rattle.std.proofs.Common.{◌++◌, ap, sym, refl, Option, Some, None, append-nil, slice_get, ◌≡◌, ◌∙◌}
use Rattle.std.specs.Prelude.{codes}
use Rattle.std.specs.Fmt.{decimal}
use Rattle.std.proofs.lemmas.Option.{slice_get_past, slice_get_read}
use Rattle.block_core.specs.declared.block.Block.{Block}
use Rattle.text_core.proofs.Fronts.{then_appended}
use Rattle.text_core.proofs.PieceLemmas.{then_text}
use Rattle.object_core.specs.Onward.{next_field, onward}
use Rattle.exchange_engines.specs.EntryObject.{name_fields}
use Rattle.exchange_engines.proofs.texts.entry_object.put_block_fields.Goals as goal

pub returns-in-Some : goal.returns-in-Some
returns-in-Some g c =
    let lookup = c.in-Some.ensures.lookup in
    let block = c.in-Some.block.now in
    let position = next_field (codes "block", decimal c.args.position) in
    let there : slice_get c.args.blocks.now c.args.position ≡ Some block = slice_get_read c.args.blocks.now _ c.args.position block refl lookup.3.0 lookup.1 in
    let number = then_text _ (codes ",\"block\":") (decimal c.args.position) position _ _ c.in_ok-extend_from_slice.ensures.items c.in_ok-put_decimal.ensures refl in
    then_appended _ _ _ _ position (onward (name_fields (Some block))) _ number c.put_name_fields.ensures (ap (λ (o : Option (Block g.row.A.Denot)). position ++ onward (name_fields o)) (sym there))

pub returns-in-None : goal.returns-in-None
returns-in-None g c =
    let position = next_field (codes "block", decimal c.args.position) in
    let none : slice_get c.args.blocks.now c.args.position ≡ None = slice_get_past c.args.blocks.now c.args.position c.in-None.ensures.lookup.3 in
    then_text _ (codes ",\"block\":") (decimal c.args.position) _ _ _ c.in_ok-extend_from_slice.ensures.items c.in_ok-put_decimal.ensures
    (sym (append-nil position) ∙ ap (λ (o : Option (Block g.row.A.Denot)). position ++ onward (name_fields o)) (sym none))

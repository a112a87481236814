use Rattle.std.proofs.Common.{[], ◌∷◌, ◌++◌, refl}
use Rattle.std.specs.Prelude.{codes}
use Rattle.text_core.proofs.Fronts.{appended}
use Rattle.text_core.proofs.PieceLemmas.{then_text}
use Rattle.object_core.specs.Objects.{Field, in_quotes, opened}
use Rattle.object_core.specs.Onward.{onward}
use Rattle.object_core.proofs.ObjectLines.{ended}
use Rattle.exchange_engines.specs.EntryObject.{block_fields}
use Rattle.exchange_engines.proofs.texts.entry_object.put_twice_object.Goals as goal

pub returns : goal.returns
returns g c =
    let kind : Field = (codes "kind", in_quotes (codes "blocks")) in
    let error : Field = (codes "error", in_quotes (codes "SameBlockTwice")) in
    let block = block_fields c.args.blocks.now c.args.position in
    let end = codes ",\"error\":\"SameBlockTwice\"}\n" in
    ended c.extend_from_slice-2.result _ _ _ kind [] block (error ∷ []) (then_text _ (opened (kind ∷ [])) (onward block) (opened (kind ∷ []) ++ onward block) _ _ c.in_ok-extend_from_slice.ensures.items c.in_ok-put_block_fields.ensures refl)
    (appended _ _ _ end end c.extend_from_slice-2.ensures.items refl)

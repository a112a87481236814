use Rattle.std.proofs.Common.{refl}
use Rattle.std.specs.Prelude.{codes}
use Rattle.text_core.proofs.Fronts.{appended}
use Rattle.exchange_engines.specs.EntryObject.{block_fields}
use Rattle.exchange_engines.proofs.EntryObjects.{event_closed}
use Rattle.exchange_engines.proofs.texts.entry_object.put_word_object.Goals as goal

pub returns : goal.returns
returns g c =
    let h = c.args.heading.now in
    event_closed _ _ _ _ h.counted h.number h.moment c.args.kind.now (block_fields h.blocks.now c.args.block) c.in_ok-put_entry_object_head.ensures (appended _ _ _ (codes "}\n") (codes "}\n") c.extend_from_slice.ensures.items refl)

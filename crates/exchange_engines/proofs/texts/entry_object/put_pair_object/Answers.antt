use Rattle.exchange_engines.specs.EntryObject.{block_fields, pair_fields}
use Rattle.exchange_engines.proofs.EntryObjects.{event_ended}
use Rattle.exchange_engines.proofs.texts.entry_object.put_pair_object.Goals as goal

pub returns : goal.returns
returns g c =
    let h = c.args.heading.now in
    event_ended _ _ _ _ h.counted h.number h.moment c.args.kind.now (block_fields h.blocks.now c.args.block) (pair_fields c.args.state c.args.sequence) c.in_ok-put_entry_object_head.ensures c.put_pair_end.ensures

use Rattle.std.proofs.Common.{◌∷◌}
use Rattle.std.specs.Prelude.{codes}
use Rattle.std.specs.Fmt.{decimal}
use Rattle.exchange_engines.specs.SampleObject.{missing_fields, seen_kind}
use Rattle.exchange_engines.proofs.EntryObjects.{event_with}
use Rattle.exchange_engines.proofs.texts.sample_object.put_sample_object.Goals as goal

pub returns : goal.returns
returns g c =
    let args = c.args in
    event_with c.put_sample_fields.result _ _ _ args.counted args.number args.moment (seen_kind args.seen) ((codes "asdu", decimal args.position) ∷ (codes "smpCnt", decimal args.count) ∷ missing_fields args.seen)
    (rw c.kind_of_seen.ensures at c.in_ok-put_event_head.ensures) c.put_sample_fields.ensures

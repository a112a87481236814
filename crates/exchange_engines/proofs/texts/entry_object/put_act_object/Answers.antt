use Rattle.std.proofs.Common.{List, ◌∷◌, ◌++◌, ℕ, ap, refl, ◌∙◌}
use Rattle.std.specs.Prelude.{codes}
use Rattle.std.specs.Fmt.{signed_decimal}
use Rattle.text_core.proofs.PieceLemmas.{then_text}
use Rattle.object_core.specs.EventObject.{event_fields}
use Rattle.object_core.specs.Objects.{Field, opened}
use Rattle.object_core.specs.Onward.{onward}
use Rattle.object_core.specs.Times.{time_fields}
use Rattle.object_core.proofs.Appending.{then_some}
use Rattle.exchange_engines.specs.EntryObject.{block_fields, delay_from, pair_fields}
use Rattle.exchange_engines.proofs.EntryObjects.{named_last}
use Rattle.exchange_engines.proofs.texts.entry_object.put_act_object.Goals as goal

pub returns : goal.returns
returns g c =
    let args = c.args in
    let h = args.heading.now in
    let head = opened (event_fields h.counted h.number h.moment (codes "act")) ++ onward (block_fields h.blocks.now args.block) in
    let others : List Field = time_fields (codes "t") (codes "tTime") (codes "tQuality") args.t ++ (codes "delay", signed_decimal (delay_from args.t h.moment)) ∷ pair_fields args.state args.sequence in
    let state = onward others ++ codes ",\"members\":" in
    then_some c.put_act_members.result _ _ _ (head ++ state) _ _ (then_text _ head state (head ++ state) _ _ c.in_ok-put_entry_object_head.ensures c.in_ok-put_act_fields.ensures refl) c.put_act_members.ensures
    (λ text w. (w.0, w.1, ap (λ (l : List ℕ). (head ++ state) ++ l) w.2 ∙ named_last h.counted h.number h.moment (codes "act") (block_fields h.blocks.now args.block) others (codes "members") w.0))

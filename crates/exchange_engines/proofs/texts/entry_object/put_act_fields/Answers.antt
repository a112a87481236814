use Rattle.std.proofs.Common.{List, ◌∷◌, ◌++◌, ℕ, ap, sym, ◌∙◌, append_assoc}
use Rattle.std.specs.Prelude.{codes}
use Rattle.std.specs.Fmt.{signed_decimal}
use Rattle.text_core.proofs.Fronts.{then_appended}
use Rattle.object_core.specs.Objects.{Field}
use Rattle.object_core.specs.Onward.{onward}
use Rattle.object_core.specs.Times.{time_fields}
use Rattle.object_core.proofs.ObjectLines.{onward-append}
use Rattle.exchange_engines.specs.EntryObject.{delay_from, pair_fields}
use Rattle.exchange_engines.proofs.texts.entry_object.put_act_fields.Goals as goal

pub returns : goal.returns
returns g c =
    let args = c.args in
    let time = time_fields (codes "t") (codes "tTime") (codes "tQuality") args.t in
    let others : List Field = (codes "delay", signed_decimal (delay_from args.t args.moment)) ∷ pair_fields args.state args.sequence in
    then_appended _ _ _ _ (onward time) (onward others ++ codes ",\"members\":") _ c.in_ok-put_time_fields.ensures c.put_delay_fields.ensures
    (sym (ap (λ (l : List ℕ). l ++ codes ",\"members\":") (onward-append time others) ∙ append_assoc (onward time) (onward others) (codes ",\"members\":")))

use Rattle.std.proofs.Common.{ap, sym}
use Rattle.std.specs.Prelude.{codes}
use Rattle.engine_core.specs.declared.style.Style.{Style}
use Rattle.text_core.proofs.Fronts.{then_appended}
use Rattle.inventory_engine.specs.SubscribedText.{subscribed_in, subscribed_line}
use Rattle.inventory_engine.proofs.subscribed.put_subscribed.Goals as goal

pub returns-in_ok-extend_from_slice-in-Dated : goal.returns-in_ok-extend_from_slice-in-Dated
returns-in_ok-extend_from_slice-in-Dated g c =
    then_appended c.put_line-in-Dated.result _ _ _ (codes "- ") (subscribed_line c.args.position c.args.block.now) _ c.in_ok-extend_from_slice-in-Dated.ensures.items c.put_line-in-Dated.ensures
    (sym (ap (λ (s : Style). subscribed_in s c.args.position c.args.block.now) c.in-Dated.is))

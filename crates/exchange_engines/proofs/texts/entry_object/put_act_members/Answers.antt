use Rattle.std.proofs.Common.{refl}
use Rattle.std.specs.Prelude.{codes}
use Rattle.text_core.proofs.Fronts.{appended}
use Rattle.object_core.specs.MemberObject.{AreMembers}
use Rattle.object_core.proofs.Appending.{some_then}
use Rattle.exchange_engines.proofs.texts.entry_object.put_act_members.Goals as goal

pub returns : goal.returns
returns g c =
    some_then c.extend_from_slice.result _ _ _ (codes "}\n") (AreMembers c.args.members.now) _ c.in_ok-put_values_object.ensures (appended _ _ _ (codes "}\n") (codes "}\n") c.extend_from_slice.ensures.items refl)
    (λ held is. (held, is, refl))

use Rattle.std.proofs.Common.{refl}
use Rattle.std.specs.Prelude.{codes}
use Rattle.text_core.proofs.Fronts.{then_appended}
use Rattle.object_core.specs.EventObject.{event_fields}
use Rattle.object_core.specs.Objects.{opened}
use Rattle.frame_engines.specs.computed.KeptLine.{with_numbers}
use Rattle.frame_engines.proofs.texts.kept.put_whole_object.Goals as goal

pub returns : goal.returns
returns g c =
    let a = c.args in
    let kept = a.kept.now in
    then_appended c.put_with_numbers.result a.out.now.items c.put_event_head.new.out.items c.put_with_numbers.new.out.items
    (opened (event_fields a.counted a.number a.moment (codes "goose"))) (with_numbers kept.text.items kept.live kept.sq_num a.live a.sq_num) _
    c.in_ok-put_event_head.ensures c.put_with_numbers.ensures refl
